use Rattle.std.proofs.Common.{◌<◌}
use Rattle.reach.specs.Pushes.{dir_rank}
use Rattle.certificates.specs.Zone.{Leaks}
use Rattle.closure.proofs.zone.leak_from.Given as goal

abbrev pub invariant-loop-dir : goal.invariant-loop-dir
invariant-loop-dir g l = (d : _) → dir_rank d < l.dir-index → Leaks l.board (g.S.CellSet.members l.zone) l.cell d → ⊥
