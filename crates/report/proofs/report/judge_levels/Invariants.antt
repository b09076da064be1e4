-- The statuses so far, put before any statuses of the other levels, are the statuses of all levels.
use Rattle.std.proofs.Common.{◌≡◌, ℕ, ◌+◌, ◌<◌, List, ◌++◌, drop, length, map, vec_capacity}
use Rattle.answers.specs.Reading.{entry_of}
use Rattle.report.specs.Judging.{RiseFrom}
use Rattle.report.specs.Answer.{answer_to}
use Rattle.report.specs.Means.{Means}
use Rattle.report.specs.Report.{AllMean, AllSay, OfEach}
use Rattle.report.specs.Status.{Says}
use Rattle.report.specs.Summary.{AddsUp, summary_of}
use Rattle.report.specs.declared.status.Status.{Status}
use Rattle.report.proofs.report.judge_levels.Given as goal

abbrev pub invariant-loop-before : goal.invariant-loop-before
invariant-loop-before l =
    let entries = map entry_of l.answers in
    record {
      adds_up : AddsUp l.summary;
      room : vec_capacity l.statuses ≡ length l.levels;
      count : l.summary.levels ≡ l.before;
      rise : RiseFrom l.before (drop l.next entries);
      later : (n : ℕ) → l.before < n → answer_to n (drop l.next entries) ≡ answer_to n entries;
      numbers : l.summary ≡ summary_of l.statuses.items;
      say : (rest : List Status) → OfEach Says (l.before + 1) (drop l.before l.levels) entries rest → AllSay l.levels entries (l.statuses.items ++ rest);
      mean : (rest : List Status) → OfEach Means (l.before + 1) (drop l.before l.levels) entries rest → AllMean l.levels entries (l.statuses.items ++ rest);
    }
