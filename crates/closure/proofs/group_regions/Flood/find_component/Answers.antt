use Rattle.std.proofs.Common.{◌≡◌, inr, refl}
use Rattle.cellset.{specs.CellSet.Has, proofs.Members.has_empty, proofs.Truth.either}
use Rattle.reach.specs.Reached.{at_seed}
use Rattle.reach.proofs.Instances.{joined_is, walked_more}
use Rattle.closure.proofs.group_regions.Flood.find_component.Goals as goal

pub returns-then-self-clause-component : goal.returns-then-self-clause-component
returns-then-self-clause-component c = λ q has. c.requires.whole c.if-self.true c.args.player q c.requires.player (rw c.if-self.true at has)

pub returns-clause-component : goal.returns-clause-component
returns-clause-component c = λ q has.
    let Free = Has c.args.self.now.free.members in
    (joined_is Free (λ s. s ≡ c.args.player) q).1 (walked_more Free Free (Has c.insert.new.self.members) (λ s. (s ≡ c.args.player) × Free s) (λ _ h. h)
    (λ s h. either ((c.insert.ensures.members s).0 h)
    (λ old. absurd (has_empty s (rw c.clear.ensures.members at old)))
    (λ e. (e, rw e c.requires.player)))
    q ((c.grow.ensures.exact q).0 (rw c.if-self.false at has)))

pub returns-clause-player : goal.returns-clause-player
returns-clause-player c =
    rw c.if-self.false ((c.grow.ensures.exact c.args.player).1 (at_seed ((c.insert.ensures.members c.args.player).1 (inr refl))))
