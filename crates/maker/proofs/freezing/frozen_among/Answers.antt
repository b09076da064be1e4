use Rattle.std.proofs.Common.{ap, arith}
use Rattle.std.specs.FinSet as set
use Rattle.std.proofs.Math.Nat.{mul-le-mul_left}
use Rattle.cellset.proofs.ReadingOrder.{len_on_grid}
use Rattle.maker.proofs.freezing.frozen_among.Goals as goal

pub overflow_mul-len : goal.overflow_mul-len
overflow_mul-len g c =
    let level = c.args.board.now in
    let formed = c.shape.ensures.formed in
    let few = len_on_grid level.shape level.boxes (λ q h. (formed.boxes q h).0) in
    let area = mul-le-mul_left level.shape.width formed.sides.not_too_high in
    let wide = formed.sides.not_too_wide in
    let count = c.len.ensures in
    let same = ap set.len c.boxes-boxes.ensures.members in
    omega arith

pub returns-clause-exact : goal.returns-clause-exact
returns-clause-exact g c = c.thaw.ensures.exact
