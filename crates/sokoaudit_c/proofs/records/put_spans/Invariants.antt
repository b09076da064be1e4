-- So far the entries before this one are written, and the others are unchanged.
use Rattle.std.proofs.Common.{◌≡◌, ◌++◌, take, drop, map}
use Rattle.sokoaudit_c.specs.Records.{span_of}
use Rattle.sokoaudit_c.proofs.records.put_spans.Given as goal

abbrev pub invariant-loop-at : goal.invariant-loop-at
invariant-loop-at l = l.spans ≡ take l.at (map (span_of l.total) l.records) ++ drop l.at l.initial.spans
