use Rattle.std.proofs.Common.{arith}
use Rattle.answers.proofs.KeptLines.{count_both}
use Rattle.answers.proofs.line.skip_to.Goals as goal

pub overflow_add-before : goal.overflow_add-before
overflow_add-before g c = omega (arith, count_both c.in_ok-start.ensures.some.cut, c.in_ok-start.ensures.some.count)
