-- The words of the report: each line is made of words and decimal numbers with one space between them.
use Rattle.std.specs.Prelude.{ℕ, ◌+◌, List, [], ◌∷◌, ◌++◌, codes, decimal}
use Rattle.cellset.specs.declared.cell.Cell.{Cell}
use Rattle.cellset.specs.declared.dir.Dir.{Dir}
use Rattle.cellset.specs.Words.{dir_word}
use Rattle.board.specs.Words.{board_words}
use Rattle.play.specs.Words.{move_word}
use Rattle.play.specs.declared.fault.ReplayFault.{ReplayFault}
use Rattle.play.specs.declared.fault.ReplayFault.TheVariants as replay_fault
use Rattle.play.specs.declared.tally.Tally.{Tally}
use Rattle.answers.specs.Words.{bad_line_word}
use Rattle.closure.specs.Words.{line_word, zone_word}
use Rattle.closure.specs.declared.fault.CheckFault.{CheckFault}
use Rattle.closure.specs.declared.fault.CheckFault.TheVariants as check_fault
use Rattle.closure.specs.declared.fault.ZoneFault.{ZoneFault}
use Rattle.closure.specs.declared.fault.ZoneFault.TheVariants as zone_fault
use Rattle.report.specs.declared.status.Status.{Status}
use Rattle.report.specs.declared.status.Status.TheVariants.{Solved, Unsolvable, UnsolvableZone, Refused, Missing}
use Rattle.report.specs.declared.status.Refusal.{Refusal}
use Rattle.report.specs.declared.status.Refusal.TheVariants.{Board, BadLine, Solution, Patterns, Zone}
use Rattle.report.specs.declared.summary.Summary.{Summary}
use Rattle.report.specs.Summary.{summary_of}

-- a text is a list of bytes
abbrev pub Text : Type 0
Text = List ℕ

-- the words name a cell by its column and row, and a direction
abbrev pub cell_words : Cell → Dir → Text
cell_words c d = decimal c.column ++ codes "," ++ decimal c.row ++ codes " " ++ dir_word d

-- each fault of a solution has these words; out of memory is no fault of a level, so it has none, here and below
abbrev pub solution_words : ReplayFault → Text
solution_words (replay_fault.Move number why) = codes "move " ++ decimal number ++ codes " " ++ move_word why
solution_words (replay_fault.Unsolved boxes) = codes "unsolved " ++ decimal boxes
solution_words replay_fault.Memory = []

-- each fault of a list of patterns has these words
abbrev pub patterns_words : CheckFault → Text
patterns_words (check_fault.Line line why) = codes "line " ++ decimal line ++ codes " " ++ line_word why
patterns_words check_fault.Start = codes "start"
patterns_words (check_fault.Push line player dir) = codes "line " ++ decimal line ++ codes " push " ++ cell_words player dir
patterns_words check_fault.Memory = []

-- each fault of a zone has these words
abbrev pub zone_words : ZoneFault → Text
zone_words (zone_fault.Line line why) = codes "line " ++ decimal line ++ codes " " ++ zone_word why
zone_words (zone_fault.Leak line cell dir) = codes "line " ++ decimal line ++ codes " leak " ++ cell_words cell dir
zone_words (zone_fault.Fits line) = codes "line " ++ decimal line ++ codes " fits"
zone_words zone_fault.Memory = []

-- a refusal has the words of its fault
abbrev pub refusal_words : Refusal → Text
refusal_words (Board why) = codes "board " ++ board_words why
refusal_words (BadLine line why) = codes "line " ++ decimal line ++ codes " " ++ bad_line_word why
refusal_words (Solution fault) = solution_words fault
refusal_words (Patterns fault) = patterns_words fault
refusal_words (Zone fault) = zone_words fault

-- a solved level has these words, with its counts
abbrev pub solved_words : Tally → Text
solved_words t = codes "solved moves " ++ decimal t.moves ++ codes " pushes " ++ decimal t.pushes ++ codes " changes " ++ decimal t.changes

-- each status has these words
abbrev pub words_of : Status → Text
words_of (Solved tally) = solved_words tally
words_of (Unsolvable k) = codes "unsolvable patterns " ++ decimal k
words_of (UnsolvableZone k) = codes "unsolvable zone " ++ decimal k
words_of (Refused why) = codes "refused " ++ refusal_words why
words_of Missing = codes "missing"

-- the report has this line for the level with this number
abbrev pub line_of : ℕ → Status → Text
line_of n status = codes "level " ++ decimal n ++ codes " " ++ words_of status ++ codes "\n"

-- the report has these lines for the levels from this number on
abbrev pub lines_from : ℕ → List Status → Text
lines_from n [] = []
lines_from n (status ∷ statuses) = line_of n status ++ lines_from (n + 1) statuses

-- the last line of the report has the totals
abbrev pub total_line : Summary → Text
total_line s = codes "total " ++ decimal s.levels ++ codes " solved " ++ decimal s.solved ++ codes " unsolvable " ++ decimal s.unsolvable ++ codes " refused "
    ++ decimal s.refused ++ codes " missing " ++ decimal s.missing ++ codes "\n"

-- the report of levels with these statuses has a line for each, and the totals
abbrev pub report_text : List Status → Text
report_text statuses = lines_from 1 statuses ++ total_line (summary_of statuses)
