-- What a status means, by the rows of its level and the answer to it alone.
--   rows         the lines of the level, in the levels text
--   answer       what the one record with the level's number says; nothing if there is no such record
-- For `Solved` read `Draws`, the game and `Solves`; for the two kinds of unsolvable read `Unsolvable.antt`. You need nothing else.
use Rattle.std.specs.Prelude.{◌≡◌, ℕ, List, Option, None, Some}
use Rattle.std.specs.List.{concat}
use Rattle.board.specs.Game.{Level}
use Rattle.board.specs.Rows.{Draws}
use Rattle.board.specs.Legal.{IsBoardOf}
use Rattle.play.specs.Solution.{Solves}
use Rattle.play.specs.declared.tally.Tally.{Tally}
use Rattle.answers.specs.Body.{Body, LetterLines}
use Rattle.report.specs.Status.{IsFirstFaultOf}
use Rattle.report.specs.Unsolvable.{IsUnsolvable}
use Rattle.report.specs.declared.status.Status.{Status}
use Rattle.report.specs.declared.status.Status.TheVariants.{Solved, Unsolvable, UnsolvableZone, Refused, Missing}

-- the answer solves the level that the rows draw, with exactly these counts: its letters, each of the right case, lead from the start
-- to a state with every box on a goal
abbrev pub IsSolvedBy : List (List ℕ) → Option Body → Tally → Type 0
IsSolvedBy rows answer tally =
    (level : Level) × Draws rows level × (lines : List (List ℕ)) × (answer ≡ Some (LetterLines lines)) × Solves level (concat lines) tally

-- the level is legal, and no record has its number
abbrev pub IsMissing : List (List ℕ) → Option Body → Type 0
IsMissing rows answer = (answer ≡ None) × (level : Level) × IsBoardOf rows level

-- the status means this of the rows of its level and the answer to it
abbrev pub Means : List (List ℕ) → Option Body → Status → Type 0
Means rows answer (Solved tally) = IsSolvedBy rows answer tally
Means rows answer (Unsolvable _) = IsUnsolvable rows
Means rows answer (UnsolvableZone _) = IsUnsolvable rows
Means rows answer (Refused fault) = IsFirstFaultOf rows answer fault
Means rows answer Missing = IsMissing rows answer
