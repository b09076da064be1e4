-- The numbers of a status spell the words of its line. Each kind of line has its own status, and each of its numbers is there.
use Rattle.std.proofs.Common.{◌≡◌, ◌⊎◌, ◌∙◌, ◌<◌, [], ◌∷◌, ◌++◌, refl, ap, arith, inl, inr, lit<}
use Rattle.std.specs.Prelude.{codes}
use Rattle.std.proofs.lemmas.Bool.Decides.{nat_tests}
use Rattle.cellset.specs.declared.dir.Dir.{Dir}
use Rattle.cellset.specs.declared.dir.Dir.TheVariants.{L, U, R, D}
use Rattle.board.specs.declared.reading.BoardFault.{BoardFault}
use Rattle.board.specs.declared.reading.BoardFault.TheVariants as board_fault
use Rattle.play.specs.declared.fault.MoveWhy.{MoveWhy}
use Rattle.play.specs.declared.fault.MoveWhy.TheVariants as move_why
use Rattle.play.specs.declared.fault.ReplayFault.{ReplayFault}
use Rattle.play.specs.declared.fault.ReplayFault.TheVariants as replay_fault
use Rattle.answers.specs.declared.record.BadLineWhy.{BadLineWhy}
use Rattle.answers.specs.declared.record.BadLineWhy.TheVariants as bad_line
use Rattle.closure.specs.declared.fault.LineWhy.{LineWhy}
use Rattle.closure.specs.declared.fault.LineWhy.TheVariants as line_why
use Rattle.closure.specs.declared.fault.CheckFault.{CheckFault}
use Rattle.closure.specs.declared.fault.CheckFault.TheVariants as check_fault
use Rattle.closure.specs.declared.fault.ZoneLineWhy.{ZoneLineWhy}
use Rattle.closure.specs.declared.fault.ZoneLineWhy.TheVariants as zone_why
use Rattle.closure.specs.declared.fault.ZoneFault.{ZoneFault}
use Rattle.closure.specs.declared.fault.ZoneFault.TheVariants as zone_fault
use Rattle.cellset.specs.Words.{dir_word}
use Rattle.board.specs.Words.{board_words}
use Rattle.play.specs.Words.{move_word}
use Rattle.answers.specs.Words.{bad_line_word}
use Rattle.closure.specs.Words.{line_word, zone_word}
use Rattle.report.specs.Words.{patterns_words, refusal_words, solution_words, words_of, zone_words}
use Rattle.report.specs.declared.status.Status.{Status}
use Rattle.report.specs.declared.status.Status.TheVariants.{Solved, Unsolvable, UnsolvableZone, Refused, Missing}
use Rattle.report.specs.declared.status.Refusal.{Refusal}
use Rattle.report.specs.declared.status.Refusal.TheVariants.{Board, BadLine, Solution, Patterns, Zone}
use Rattle.sokoaudit_c.specs.declared.numbers.Line.{Line}
use Rattle.sokoaudit_c.specs.Numbers.{code_of, number_of_bad_line, number_of_board_fault, number_of_line_why, number_of_move_why, number_of_zone_why, numbers_of, numbers_of_list, numbers_of_refusal, numbers_of_solution, numbers_of_zone, refusal_spelled, spelled, why_word}

board : (why : BoardFault) → why_word (number_of_board_fault why) ≡ board_words why
board board_fault.Size = refl
board board_fault.Player = refl
board board_fault.Box = refl
board board_fault.Goals = refl
board board_fault.Open = refl
board board_fault.Memory = refl

step : (why : MoveWhy) → why_word (number_of_move_why why) ≡ move_word why
step move_why.Letter = refl
step move_why.Wall = refl
step move_why.Blocked = refl
step move_why.Case = refl

bad : (why : BadLineWhy) → why_word (number_of_bad_line why) ≡ bad_line_word why
bad bad_line.Syntax = refl
bad bad_line.Count = refl

line : (why : LineWhy) → why_word (number_of_line_why why) ≡ line_word why
line line_why.Board = refl
line line_why.Wall = refl
line line_why.Seed = refl
line line_why.Goals = refl

zone_line : (why : ZoneLineWhy) → why_word (number_of_zone_why why) ≡ zone_word why
zone_line zone_why.Board = refl
zone_line zone_why.Wall = refl

letter : (dir : Dir) → code_of dir ∷ [] ≡ dir_word dir
letter L = refl
letter U = refl
letter R = refl
letter D = refl

solution : (fault : ReplayFault) → refusal_spelled (numbers_of_solution fault) ≡ solution_words fault
solution (replay_fault.Move number why) = search (step)
solution (replay_fault.Unsolved boxes) = refl
solution replay_fault.Memory = refl

list : (fault : CheckFault) → refusal_spelled (numbers_of_list fault) ≡ patterns_words fault
list (check_fault.Line n why) = search (line)
list check_fault.Start = refl
list (check_fault.Push n player dir) = search (letter)
list check_fault.Memory = refl

zone : (fault : ZoneFault) → refusal_spelled (numbers_of_zone fault) ≡ zone_words fault
zone (zone_fault.Line n why) = search (zone_line)
zone (zone_fault.Leak n cell dir) = search (letter)
zone (zone_fault.Fits n) = refl
zone zone_fault.Memory = refl

refusal : (why : Refusal) → refusal_spelled (numbers_of_refusal why) ≡ refusal_words why
refusal (Board why) = search (board)
refusal (BadLine n why) = search (bad)
refusal (Solution fault) = solution fault
refusal (Patterns fault) = list fault
refusal (Zone fault) = zone fault

-- a refusal has its own status number, which no other line has
pub refused_status : (why : Refusal) → ((numbers_of_refusal why).status ≡ 0) ⊎ ((3 < (numbers_of_refusal why).status) × ((numbers_of_refusal why).status < 12))
refused_status (Board why) = inr (lit< tt, lit< tt)
refused_status (BadLine n why) = inr (lit< tt, lit< tt)
refused_status (Solution (replay_fault.Move number why)) = inr (lit< tt, lit< tt)
refused_status (Solution (replay_fault.Unsolved boxes)) = inr (lit< tt, lit< tt)
refused_status (Solution replay_fault.Memory) = inl refl
refused_status (Patterns (check_fault.Line n why)) = inr (lit< tt, lit< tt)
refused_status (Patterns check_fault.Start) = inr (lit< tt, lit< tt)
refused_status (Patterns (check_fault.Push n player dir)) = inr (lit< tt, lit< tt)
refused_status (Patterns check_fault.Memory) = inl refl
refused_status (Zone (zone_fault.Line n why)) = inr (lit< tt, lit< tt)
refused_status (Zone (zone_fault.Leak n cell dir)) = inr (lit< tt, lit< tt)
refused_status (Zone (zone_fault.Fits n)) = inr (lit< tt, lit< tt)
refused_status (Zone zone_fault.Memory) = inl refl

-- an entry with such a number spells a refusal
spelled_refused : (l : Line) → (l.status ≡ 0) ⊎ ((3 < l.status) × (l.status < 12)) → spelled l ≡ codes "refused " ++ refusal_spelled l
spelled_refused l (inl none) = rw none refl
spelled_refused l (inr (above, below)) = grind (arith, nat_tests)

pub spelled_words : (status : Status) → spelled (numbers_of status) ≡ words_of status
spelled_words (Solved tally) = refl
spelled_words (Unsolvable patterns) = refl
spelled_words (UnsolvableZone cells) = refl
spelled_words (Refused why) = spelled_refused (numbers_of_refusal why) (refused_status why) ∙ ap (λ words. codes "refused " ++ words) (refusal why)
spelled_words Missing = refl
