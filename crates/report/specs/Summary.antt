-- The numbers of the report's last line.
use Rattle.std.specs.Prelude.{ℕ, ◌≡◌, ◌==◌, ◌+◌, ◌&&◌, if◌then◌else◌, List, Bool, true, false, length, count_by}
use Rattle.report.specs.declared.status.Status.{Status}
use Rattle.report.specs.declared.status.Status.TheVariants.{Solved, Unsolvable, UnsolvableZone, Refused, Missing}
use Rattle.report.specs.declared.summary.Summary.{Summary}

-- a solved level has this status
abbrev pub is_solved : Status → Bool
is_solved (Solved _) = true
is_solved _ = false

-- an unsolvable level has this status
abbrev pub is_unsolvable : Status → Bool
is_unsolvable (Unsolvable _) = true
is_unsolvable (UnsolvableZone _) = true
is_unsolvable _ = false

-- a refused level has this status
abbrev pub is_refused : Status → Bool
is_refused (Refused _) = true
is_refused _ = false

-- a level without an answer has this status
abbrev pub is_missing : Status → Bool
is_missing Missing = true
is_missing _ = false

-- the summary counts the levels, and the levels of each kind
abbrev pub summary_of : List Status → Summary
summary_of ss = record {
  levels = length ss;
  solved = count_by is_solved ss;
  unsolvable = count_by is_unsolvable ss;
  refused = count_by is_refused ss;
  missing = count_by is_missing ss;
}

-- the exit status after a report is 0 if no level is refused or missing, and otherwise 1
abbrev pub status_of : Summary → ℕ
status_of summary = if summary.refused == 0 && summary.missing == 0 then 0 else 1

-- the numbers of levels of each kind add up to the number of all levels
abbrev pub AddsUp : Summary → Type 0
AddsUp s = s.levels ≡ s.solved + s.unsolvable + s.refused + s.missing

-- the summary counts one more level, by its status
abbrev pub with_status : Summary → Status → Summary
with_status s (Solved _) = record s { levels = s.levels + 1; solved = s.solved + 1 }
with_status s (Unsolvable _) = record s { levels = s.levels + 1; unsolvable = s.unsolvable + 1 }
with_status s (UnsolvableZone _) = record s { levels = s.levels + 1; unsolvable = s.unsolvable + 1 }
with_status s (Refused _) = record s { levels = s.levels + 1; refused = s.refused + 1 }
with_status s Missing = record s { levels = s.levels + 1; missing = s.missing + 1 }
