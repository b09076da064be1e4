use Rattle.std.proofs.Common.{◌≡◌, ℕ, ◌+◌, ◌-◌, [], get_or}
use Rattle.std.specs.Prelude.{◌⊎◌}
use Rattle.std.proofs.lemmas.List.{get_or_read}
use Rattle.reach.specs.Bits.{HasBit}
use Rattle.reach.specs.Reached.{IsBetween, IsMoved}
use Rattle.reach.proofs.Pushing.{moved_here, pushes_closed}
use Rattle.reach.proofs.Loads.{row_below}
use Rattle.reach.proofs.Walking.{of_test}
use Rattle.reach.proofs.step.ByPushStepBy.along.Goals as goal

pub returns-clause-sound : goal.returns-clause-sound
returns-clause-sound g c = λ k h.
    let free = c.args.free.now in
    let y = c.args.y in
    let row = c.args.row.now in
    let free_is : c.index-free-y.result ≡ get_or free y [] = get_or_read free y _ c.requires.within c.index-free-y.is [] in
    let added : HasBit row k ⊎ IsMoved (HasBit (get_or free y [])) (HasBit row) k =
    rw free_is at (c.slide.ensures.added k h) in
    moved_here free y (HasBit row) k added

pub returns-clause-closed : goal.returns-clause-closed
returns-clause-closed g c = λ j k h step.
    let free = c.args.free.now in
    let y = c.args.y in
    let new = c.slide.new.row in
    let free_is : c.index-free-y.result ≡ get_or free y [] = get_or_read free y _ c.requires.within c.index-free-y.is [] in
    let closed : (i : ℕ) → HasBit new i → IsBetween (HasBit (get_or free y [])) i → HasBit new (i - 1) × HasBit new (i + 1) =
    rw free_is at c.slide.ensures.closed in
    pushes_closed free y (HasBit new) c.requires.inside closed j k step h

pub returns-clause-ends : goal.returns-clause-ends
returns-clause-ends g c = λ a b p _. row_below c.args.free.now b (of_test c.args.free.now b p.ahead)

pub returns-clause-on : goal.returns-clause-on
returns-clause-on g c = λ shape a b on p. on b (of_test c.args.free.now b p.ahead)
