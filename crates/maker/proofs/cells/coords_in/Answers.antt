use Rattle.std.proofs.Common.{◌≡◌, [], ap, arith}
use Rattle.cellset.specs.Shape.{Extent}
use Rattle.maker.proofs.RowLists.{all_listed, none_listed}
use Rattle.maker.proofs.cells.coords_in.Goals as goal

pub loop-row-init : goal.loop-row-init
loop-row-init c =
    let empty : c.in_ok-coords.coords.items ≡ [] = grind arith in
    rw empty (none_listed _ (λ q has. (c.requires.on q has).top))

pub returns : goal.returns
returns c =
    let high = ap (λ (e : Extent). e.height) c.shape-shape.ensures in
    all_listed _ _ _ (λ q has. let bottom = (c.requires.on q has).bottom in omega arith) c.loop-row.invariant
