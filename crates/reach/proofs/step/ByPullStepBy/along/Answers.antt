-- Along a row a box can be pulled over a column only if the columns on both sides are free. So pulls go along runs of such columns, and to
-- fill the row along them adds exactly what pulls along it reach (`Lines.antt`, with `pulls_enter` and `pulls_closed`). Each other clause
-- is a fact about one pull (`Pulling.antt`): it leads to a neighbour, within the rows, and to a cell of the grid.
use Rattle.std.proofs.Common.{◌≡◌, ◌<◌, ℕ, [], arith, get_or}
use Rattle.std.specs.Prelude.{◌↔◌}
use Rattle.std.proofs.lemmas.List.{get_or_read}
use Rattle.cellset.specs.declared.cell.Cell.{Cell}
use Rattle.cellset.specs.declared.dir.Dir.{Dir}
use Rattle.cellset.specs.declared.dir.Dir.TheVariants.{L, U, R, D}
use Rattle.cellset.specs.Shape.{Extent}
use Rattle.cellset.specs.Cell.{IsOn, neighbor, opposite}
use Rattle.reach.specs.Bits.{HasBit}
use Rattle.reach.specs.Reached.{PullsTo, IsBetween}
use Rattle.reach.proofs.Lines.{filled_reached, filled_as}
use Rattle.reach.specs.Grown.{Passes, in_rows}
use Rattle.reach.proofs.Loads.{row_below}
use Rattle.reach.proofs.Pulling.{pulls_enter, pulls_closed}
use Rattle.reach.proofs.Walking.{of_test}
use Rattle.reach.proofs.step.ByPullStepBy.along.Goals as goal

pub returns-clause-sound : goal.returns-clause-sound
returns-clause-sound g c = λ k h.
    let free = c.args.free.now in
    let y = c.args.y in
    let row = c.args.row.now in
    let free_is : c.index-free-y.result ≡ get_or free y [] = get_or_read free y _ c.requires.within c.index-free-y.is [] in
    let mids : (i : ℕ) → HasBit c.between.result i ↔ IsBetween (HasBit (get_or free y [])) i =
    rw free_is at c.between.ensures in
    filled_reached (PullsTo (Passes (in_rows free))) y (HasBit row) (IsBetween (HasBit (get_or free y []))) (pulls_enter free y) k
    ((filled_as (HasBit row) (HasBit c.between.result) (IsBetween (HasBit (get_or free y []))) mids k).0 ((c.fill_over.ensures.filled k).0 h))

pub returns-clause-closed : goal.returns-clause-closed
returns-clause-closed g c = λ j k h step.
    let free = c.args.free.now in
    let y = c.args.y in
    let row = c.args.row.now in
    let free_is : c.index-free-y.result ≡ get_or free y [] = get_or_read free y _ c.requires.within c.index-free-y.is [] in
    let mids : (i : ℕ) → HasBit c.between.result i ↔ IsBetween (HasBit (get_or free y [])) i =
    rw free_is at c.between.ensures in
    let same = filled_as (HasBit row) (HasBit c.between.result) (IsBetween (HasBit (get_or free y []))) mids in
    (c.fill_over.ensures.filled k).1 ((same k).1 (pulls_closed free y (HasBit row) c.requires.inside j k step
    ((same j).0 ((c.fill_over.ensures.filled j).0 h))))

ends_by : (n : ℕ) (b c : Cell) (d : Dir) → b ≡ neighbor c d → (neighbor c (opposite d)).row < n → b.row < n → c.row < n
ends_by n b c L e behind low = grind arith
ends_by n b c U e behind low = omega arith
ends_by n b c R e behind low = grind arith
ends_by n b c D e behind low = grind arith

pub returns-clause-ends : goal.returns-clause-ends
returns-clause-ends g c = λ a b p. ends_by _ a b p.dir p.next (row_below c.args.free.now _ (of_test c.args.free.now _ p.behind))

on_by : (shape : Extent) (b c : Cell) (d : Dir) → b ≡ neighbor c d → IsOn shape b → IsOn shape (neighbor c (opposite d)) → IsOn shape c
on_by shape b c L e ahead behind = grind arith
on_by shape b c U e ahead behind = grind arith
on_by shape b c R e ahead behind = grind arith
on_by shape b c D e ahead behind = grind arith

pub returns-clause-on : goal.returns-clause-on
returns-clause-on g c = λ shape a b on p.
    on_by shape a b p.dir p.next (on a (of_test c.args.free.now a p.ahead)) (on _ (of_test c.args.free.now _ p.behind))
