-- So far the entries before this one are written, and the others are unchanged.
use Rattle.std.proofs.Common.{◌≡◌, ◌++◌, take, drop, map}
use Rattle.sokoaudit_c.specs.Numbers.{numbers_of}
use Rattle.sokoaudit_c.proofs.verdicts.put_lines.Given as goal

abbrev pub invariant-loop-at : goal.invariant-loop-at
invariant-loop-at l = l.lines ≡ take l.at (map numbers_of l.statuses) ++ drop l.at l.initial.lines
