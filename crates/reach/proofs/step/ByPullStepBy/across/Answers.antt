use Rattle.reach.proofs.Pulling.{pulls_across}
use Rattle.reach.proofs.step.ByPullStepBy.across.Goals as goal

pub returns : goal.returns
returns g c = λ k.
    let free = c.args.free.now in
    let before = rw c.saturating_sub.ensures at (c.row_at.ensures k) in
    let after = c.row_at-2.ensures k in
    let steps = pulls_across free c.args._from c.args.to k c.requires.beside in (
      (λ h. let (a, b) = (c.both.ensures k).0 h in steps.0 (before.0 a, after.0 b)),
      (λ s. let (a, b) = steps.1 s in (c.both.ensures k).1 (before.1 a, after.1 b)),
    )
