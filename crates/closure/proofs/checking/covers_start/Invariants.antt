use Rattle.std.proofs.Common.{ℕ, ◌<◌}
use Rattle.board.specs.Game.{start}
use Rattle.closure.specs.Tables.{GroupCovers}
use Rattle.closure.proofs.checking.covers_start.Given as goal

abbrev pub invariant-loop-group : goal.invariant-loop-group
invariant-loop-group g l = record { none : (k : ℕ) → k < l.group → GroupCovers l.tables.board.now l.tables.groups k (start l.tables.board.now) → ⊥ }
