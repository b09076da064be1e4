use Rattle.std.specs.Prelude.{◌⊎◌}
use Rattle.reach.specs.Bits.{HasBit}
use Rattle.reach.proofs.Lines.{filled_more}
use Rattle.reach.proofs.columns.fill_over.Goals as goal

pub returns-clause-filled : goal.returns-clause-filled
returns-clause-filled g c = λ k.
    let row = c.args.row.now in
    let over = c.args.over.now in
    let runs = c.either-runs.result in (
      (λ h. filled_more (HasBit runs) (λ j. HasBit row j ⊎ HasBit over j) (HasBit row) (λ j b. (c.either-runs.ensures j).0 b) k
          ((c.fill.ensures.filled k).0 h)),
      (λ h. (c.fill.ensures.filled k).1 (filled_more (λ j. HasBit row j ⊎ HasBit over j) (HasBit runs) (HasBit row)
          (λ j b. (c.either-runs.ensures j).1 b) k h)),
    )
