use Rattle.std.proofs.Common.{◌<◌}
use Rattle.reach.specs.Pushes.{dir_rank}
use Rattle.maker.specs.Frozen.{IsHeld}
use Rattle.maker.proofs.freezing.is_held.Given as goal

abbrev pub invariant-loop-dir : goal.invariant-loop-dir
invariant-loop-dir g l = (d : _) → dir_rank d < l.dir-index → IsHeld l.board l.dead.members (g.S.CellSet.members l.frozen) l.cell d
