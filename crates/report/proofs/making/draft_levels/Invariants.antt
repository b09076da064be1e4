-- The records so far, put before any records of the levels that are left, are the records of all levels.
use Rattle.std.proofs.Common.{◌≡◌, ◌≤◌, List, length}
use Rattle.std.specs.Prelude.{vec_capacity}
use Rattle.answers.specs.declared.record.MadeRecord.{MadeRecord}
use Rattle.report.specs.Making.{AreDraftsOf}
use Rattle.report.proofs.MadeRecords.{AreMadeUpTo}
use Rattle.report.proofs.making.draft_levels.Given as goal

abbrev pub invariant-loop-before : goal.invariant-loop-before
invariant-loop-before l = record {
  records : (so_far : List MadeRecord) × AreMadeUpTo l.before l.levels so_far × AreDraftsOf so_far l.drafts.items;
  few : length l.drafts.items ≤ l.before;
  room : vec_capacity l.drafts ≡ length l.levels;
}
