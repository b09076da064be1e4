-- The status of a level, by its rows and its answer alone.
--   rows        the lines of the level
--   answer      what the record of the level's number says, if there is one
--   says        the rows and the answer say this status: the first of these cases that applies has it
use Rattle.std.specs.Prelude.{◌≡◌, ℕ, List, Option, None, Some, length}
use Rattle.std.specs.List.{concat}
use Rattle.std.specs.FinSet as set
use Rattle.board.specs.Game.{Level}
use Rattle.board.specs.Legal.{IsBoardOf, IsRefusal}
use Rattle.board.specs.declared.reading.BoardFault.{BoardFault}
use Rattle.play.specs.Solution.{Solves}
use Rattle.play.specs.FirstFault.{IsFirstSolutionFault}
use Rattle.play.specs.declared.tally.Tally.{Tally}
use Rattle.play.specs.declared.fault.ReplayFault.{ReplayFault}
use Rattle.answers.specs.Body.{Body, LetterLines, PatternLines, OneZone, FirstBad, PatternLine, ZoneLine}
use Rattle.answers.specs.declared.record.BadLineWhy.{BadLineWhy}
use Rattle.certificates.specs.CellLists.{cells_of}
use Rattle.certificates.specs.Pattern.{patterns_of}
use Rattle.certificates.specs.Closed.{Closed}
use Rattle.certificates.specs.Zone.{IsRefuting}
use Rattle.closure.specs.FirstFault.{IsFirstPatternFault, IsFirstZoneFault}
use Rattle.closure.specs.declared.fault.CheckFault.{CheckFault}
use Rattle.closure.specs.declared.fault.ZoneFault.{ZoneFault}
use Rattle.report.specs.declared.status.Status.{Status}
use Rattle.report.specs.declared.status.Status.TheVariants.{Solved, Unsolvable, UnsolvableZone, Refused, Missing}
use Rattle.report.specs.declared.status.Refusal.{Refusal}
use Rattle.report.specs.declared.status.Refusal.TheVariants.{Board, BadLine, Solution, Patterns, Zone}

-- the rows and the answer say this status, by the one case that applies; the lines of a solution are read as one text
pub data Says (rows : List (List ℕ)) : Option Body → Status → Type 0 where
  illegal : {answer : Option Body} {why : BoardFault} → IsRefusal rows why → Says rows answer (Refused (Board why))
  missing : {level : Level} → IsBoardOf rows level → Says rows None Missing
  bad_line : {level : Level} {line : ℕ} {why : BadLineWhy} → IsBoardOf rows level → Says rows (Some (FirstBad line why)) (Refused (BadLine line why))
  solved : {level : Level} {lines : List (List ℕ)} {tally : Tally} → IsBoardOf rows level → Solves level (concat lines) tally
      → Says rows (Some (LetterLines lines)) (Solved tally)
  not_solved : {level : Level} {lines : List (List ℕ)} {fault : ReplayFault} → IsBoardOf rows level → IsFirstSolutionFault level (concat lines) fault
      → Says rows (Some (LetterLines lines)) (Refused (Solution fault))
  closed : {level : Level} {patterns : List PatternLine} → IsBoardOf rows level → Closed level (patterns_of patterns)
      → Says rows (Some (PatternLines patterns)) (Unsolvable (length patterns))
  not_closed : {level : Level} {patterns : List PatternLine} {fault : CheckFault} → IsBoardOf rows level → IsFirstPatternFault level patterns fault
      → Says rows (Some (PatternLines patterns)) (Refused (Patterns fault))
  refuting : {level : Level} {zone : ZoneLine} → IsBoardOf rows level → IsRefuting level (cells_of zone.cells)
      → Says rows (Some (OneZone zone)) (UnsolvableZone (set.len (cells_of zone.cells)))
  not_refuting : {level : Level} {zone : ZoneLine} {fault : ZoneFault} → IsBoardOf rows level → IsFirstZoneFault level zone fault
      → Says rows (Some (OneZone zone)) (Refused (Zone fault))

-- the fault is the first one of a level and its answer: one of the level, otherwise one of a line of the record, otherwise one of the
-- solution, list or zone
abbrev pub IsFirstFaultOf : List (List ℕ) → Option Body → Refusal → Type 0
IsFirstFaultOf rows answer (Board why) = IsRefusal rows why
IsFirstFaultOf rows answer (BadLine line why) = (level : Level) × IsBoardOf rows level × (answer ≡ Some (FirstBad line why))
IsFirstFaultOf rows answer (Solution fault) =
    (level : Level) × IsBoardOf rows level × (lines : List (List ℕ)) × (answer ≡ Some (LetterLines lines)) × IsFirstSolutionFault level (concat lines) fault
IsFirstFaultOf rows answer (Patterns fault) =
    (level : Level) × IsBoardOf rows level × (patterns : List PatternLine) × (answer ≡ Some (PatternLines patterns)) × IsFirstPatternFault level patterns fault
IsFirstFaultOf rows answer (Zone fault) =
    (level : Level) × IsBoardOf rows level × (zone : ZoneLine) × (answer ≡ Some (OneZone zone)) × IsFirstZoneFault level zone fault
