-- What an entry of C says of a level: its status, and the numbers that the level's line of the report prints.
--   numbers    the numbers of a status, as include/sokoaudit.h has them; a number that the line doesn't print is 0
--   spelled    the words of the report's line, made of these numbers alone
use Rattle.std.specs.Prelude.{◌==◌, ℕ, List, [], ◌∷◌, ◌++◌, if◌then◌else◌, codes, decimal}
use Rattle.cellset.specs.declared.dir.Dir.{Dir}
use Rattle.cellset.specs.declared.dir.Dir.TheVariants.{L, U, R, D}
use Rattle.board.specs.declared.reading.BoardFault.{BoardFault}
use Rattle.board.specs.declared.reading.BoardFault.TheVariants as board_fault
use Rattle.play.specs.declared.fault.MoveWhy.{MoveWhy}
use Rattle.play.specs.declared.fault.MoveWhy.TheVariants as move_why
use Rattle.play.specs.declared.fault.ReplayFault.{ReplayFault}
use Rattle.play.specs.declared.fault.ReplayFault.TheVariants as replay_fault
use Rattle.answers.specs.declared.record.BadLineWhy.{BadLineWhy}
use Rattle.answers.specs.declared.record.BadLineWhy.TheVariants as bad_line
use Rattle.closure.specs.declared.fault.LineWhy.{LineWhy}
use Rattle.closure.specs.declared.fault.LineWhy.TheVariants as line_why
use Rattle.closure.specs.declared.fault.CheckFault.{CheckFault}
use Rattle.closure.specs.declared.fault.CheckFault.TheVariants as check_fault
use Rattle.closure.specs.declared.fault.ZoneLineWhy.{ZoneLineWhy}
use Rattle.closure.specs.declared.fault.ZoneLineWhy.TheVariants as zone_why
use Rattle.closure.specs.declared.fault.ZoneFault.{ZoneFault}
use Rattle.closure.specs.declared.fault.ZoneFault.TheVariants as zone_fault
use Rattle.report.specs.declared.status.Status.{Status}
use Rattle.report.specs.declared.status.Status.TheVariants.{Solved, Unsolvable, UnsolvableZone, Refused, Missing}
use Rattle.report.specs.declared.status.Refusal.{Refusal}
use Rattle.report.specs.declared.status.Refusal.TheVariants.{Board, BadLine, Solution, Patterns, Zone}
use Rattle.sokoaudit_c.specs.declared.numbers.Line.{Line}

-- no number of this entry means anything
abbrev pub no_line : Line
no_line = record {
  status = 0;
  why = 0;
  moves = 0;
  pushes = 0;
  changes = 0;
  patterns = 0;
  cells = 0;
  boxes = 0;
  number = 0;
  line = 0;
  column = 0;
  row = 0;
  direction = 0;
}

-- ---- the numbers of reasons; out of memory is no fault of a level, so it has none

abbrev pub number_of_board_fault : BoardFault → ℕ
number_of_board_fault board_fault.Size = 1
number_of_board_fault board_fault.Player = 2
number_of_board_fault board_fault.Box = 3
number_of_board_fault board_fault.Goals = 4
number_of_board_fault board_fault.Open = 5
number_of_board_fault board_fault.Memory = 0

abbrev pub number_of_move_why : MoveWhy → ℕ
number_of_move_why move_why.Letter = 6
number_of_move_why move_why.Wall = 7
number_of_move_why move_why.Blocked = 8
number_of_move_why move_why.Case = 9

abbrev pub number_of_bad_line : BadLineWhy → ℕ
number_of_bad_line bad_line.Syntax = 10
number_of_bad_line bad_line.Count = 11

abbrev pub number_of_line_why : LineWhy → ℕ
number_of_line_why line_why.Board = 12
number_of_line_why line_why.Wall = 7
number_of_line_why line_why.Seed = 13
number_of_line_why line_why.Goals = 4

abbrev pub number_of_zone_why : ZoneLineWhy → ℕ
number_of_zone_why zone_why.Board = 12
number_of_zone_why zone_why.Wall = 7

-- each direction has the code of its letter
abbrev pub code_of : Dir → ℕ
code_of L = 108
code_of U = 117
code_of R = 114
code_of D = 100

-- ---- the numbers of a status

abbrev pub numbers_of_solution : ReplayFault → Line
numbers_of_solution (replay_fault.Move number why) = record no_line { status = 5; number = number; why = number_of_move_why why }
numbers_of_solution (replay_fault.Unsolved boxes) = record no_line { status = 6; boxes = boxes }
numbers_of_solution replay_fault.Memory = no_line

abbrev pub numbers_of_list : CheckFault → Line
numbers_of_list (check_fault.Line line why) = record no_line { status = 7; line = line; why = number_of_line_why why }
numbers_of_list check_fault.Start = record no_line { status = 8 }
numbers_of_list (check_fault.Push line player dir) =
    record no_line { status = 9; line = line; column = player.column; row = player.row; direction = code_of dir }
numbers_of_list check_fault.Memory = no_line

abbrev pub numbers_of_zone : ZoneFault → Line
numbers_of_zone (zone_fault.Line line why) = record no_line { status = 7; line = line; why = number_of_zone_why why }
numbers_of_zone (zone_fault.Leak line cell dir) =
    record no_line { status = 10; line = line; column = cell.column; row = cell.row; direction = code_of dir }
numbers_of_zone (zone_fault.Fits line) = record no_line { status = 11; line = line }
numbers_of_zone zone_fault.Memory = no_line

abbrev pub numbers_of_refusal : Refusal → Line
numbers_of_refusal (Board why) = record no_line { status = 4; why = number_of_board_fault why }
numbers_of_refusal (BadLine line why) = record no_line { status = 7; line = line; why = number_of_bad_line why }
numbers_of_refusal (Solution fault) = numbers_of_solution fault
numbers_of_refusal (Patterns fault) = numbers_of_list fault
numbers_of_refusal (Zone fault) = numbers_of_zone fault

abbrev pub numbers_of : Status → Line
numbers_of (Solved tally) = record no_line { status = 1; moves = tally.moves; pushes = tally.pushes; changes = tally.changes }
numbers_of (Unsolvable patterns) = record no_line { status = 2; patterns = patterns }
numbers_of (UnsolvableZone cells) = record no_line { status = 3; cells = cells }
numbers_of (Refused why) = numbers_of_refusal why
numbers_of Missing = record no_line { status = 12 }

-- ---- the words that numbers spell

-- a refusal with this number has this last word
abbrev pub why_word : ℕ → List ℕ
why_word n = if n == 1 then codes "size" else (if n == 2 then codes "player" else (if n == 3 then codes "box" else (if n == 4 then codes "goals"
    else (if n == 5 then codes "open" else (if n == 6 then codes "letter" else (if n == 7 then codes "wall" else (if n == 8 then codes "blocked"
    else (if n == 9 then codes "case" else (if n == 10 then codes "syntax" else (if n == 11 then codes "count" else (if n == 12 then codes "board"
    else (if n == 13 then codes "seed" else []))))))))))))

abbrev pub place_spelled : Line → List ℕ
place_spelled l = decimal l.column ++ codes "," ++ decimal l.row ++ codes " " ++ l.direction ∷ []

abbrev pub refusal_spelled : Line → List ℕ
refusal_spelled l =
    if l.status == 4 then codes "board " ++ why_word l.why
    else (if l.status == 5 then codes "move " ++ decimal l.number ++ codes " " ++ why_word l.why
    else (if l.status == 6 then codes "unsolved " ++ decimal l.boxes
    else (if l.status == 7 then codes "line " ++ decimal l.line ++ codes " " ++ why_word l.why
    else (if l.status == 8 then codes "start"
    else (if l.status == 9 then codes "line " ++ decimal l.line ++ codes " push " ++ place_spelled l
    else (if l.status == 10 then codes "line " ++ decimal l.line ++ codes " leak " ++ place_spelled l
    else (if l.status == 11 then codes "line " ++ decimal l.line ++ codes " fits" else [])))))))

abbrev pub spelled : Line → List ℕ
spelled l =
    if l.status == 1 then codes "solved moves " ++ decimal l.moves ++ codes " pushes " ++ decimal l.pushes ++ codes " changes " ++ decimal l.changes
    else (if l.status == 2 then codes "unsolvable patterns " ++ decimal l.patterns
    else (if l.status == 3 then codes "unsolvable zone " ++ decimal l.cells
    else (if l.status == 12 then codes "missing" else codes "refused " ++ refusal_spelled l)))
