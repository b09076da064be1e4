use Rattle.std.proofs.Common.{◌∙◌}
use Rattle.reach.specs.Bits.{HasBit}
use Rattle.reach.proofs.Runs.{filled, filled_seed}
use Rattle.reach.proofs.Joins.{room_shrinks}
use Rattle.reach.proofs.fills.fill.Goals as goal

pub returns-clause-filled : goal.returns-clause-filled
returns-clause-filled g c = filled (HasBit c.args.free.now) (HasBit c.args.row.now) (HasBit c.fill_up.new.row)
    (HasBit c.fill_down.new.row) c.fill_up.ensures.filled c.fill_down.ensures.filled

pub returns-clause-room : goal.returns-clause-room
returns-clause-room g c = λ within.
    room_shrinks c.fill_down.new.row c.args.row.now (c.fill_down.ensures.long ∙ c.fill_up.ensures.long) c.fill_up.ensures.fit
    (λ k h. (returns-clause-filled g c k).1 (filled_seed (HasBit c.args.free.now) (HasBit c.args.row.now) k h (within k h)))
