use Rattle.std.proofs.Common.{arith, refl}
use Rattle.lines.proofs.Cuts.{some_lines}
use Rattle.answers.proofs.KeptLines.{skipped_count}
use Rattle.answers.proofs.line.find_line.Goals as goal

pub overflow_add-number : goal.overflow_add-number
overflow_add-number g c =
    let found = c.in_ok-found.ensures.some in
    omega (arith, skipped_count _ _ _ found, some_lines _ found.some)

pub returns-clause-some : goal.returns-clause-some
returns-clause-some g c = record { skipped = c.in_ok-found.ensures.some; first = c.first_line.ensures; number = refl; before = refl }
