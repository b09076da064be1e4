use Rattle.std.proofs.Common.{◌≡◌, ℕ, [], get_or}
use Rattle.std.specs.Prelude.{◌⊎◌, ◌↔◌}
use Rattle.std.proofs.lemmas.List.{get_or_read}
use Rattle.reach.specs.Bits.{HasBit, IsFilled}
use Rattle.reach.specs.Grown.{Passes, in_rows}
use Rattle.reach.specs.Reached.{WalksTo}
use Rattle.reach.proofs.Lines.{filled_reached}
use Rattle.reach.proofs.Walking.{walks_enter, walks_closed, of_test, beside_by}
use Rattle.reach.proofs.Loads.{row_below}
use Rattle.reach.proofs.step.ByWalkStepBy.along.Goals as goal

pub returns-clause-sound : goal.returns-clause-sound
returns-clause-sound g c = λ k h.
    let free = c.args.free.now in
    let y = c.args.y in
    let free_is : c.index-free-y.result ≡ get_or free y [] = get_or_read free y _ c.requires.within c.index-free-y.is [] in
    filled_reached (WalksTo (Passes (in_rows free))) y (HasBit c.args.row.now) (HasBit (get_or free y [])) (walks_enter free y) k
    (rw free_is at ((c.fill_over.ensures.filled k).0 h))

pub returns-clause-closed : goal.returns-clause-closed
returns-clause-closed g c = λ j k h step.
    let free = c.args.free.now in
    let y = c.args.y in
    let row = c.args.row.now in
    let free_is : c.index-free-y.result ≡ get_or free y [] = get_or_read free y _ c.requires.within c.index-free-y.is [] in
    let filled : (i : ℕ) → HasBit c.fill_over.new.row i ↔ IsFilled (λ n. HasBit row n ⊎ HasBit (get_or free y []) n) (HasBit row) i =
    rw free_is at c.fill_over.ensures.filled in
    (filled k).1 (walks_closed free y (HasBit row) j k step ((filled j).0 h))

pub returns-clause-beside : goal.returns-clause-beside
returns-clause-beside g c = λ a b p. beside_by a b p.dir p.next (c.requires.inside b (of_test c.args.free.now b p.free)).0

pub returns-clause-ends : goal.returns-clause-ends
returns-clause-ends g c = λ a b p _. row_below c.args.free.now b (of_test c.args.free.now b p.free)

pub returns-clause-on : goal.returns-clause-on
returns-clause-on g c = λ shape a b on p. on b (of_test c.args.free.now b p.free)
