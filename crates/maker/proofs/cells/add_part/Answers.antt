use Rattle.std.proofs.Common.{arith}
use Rattle.reach.proofs.Loads.{row_tells}
use Rattle.maker.proofs.RowLists.{listing_starts, listing_ends, bit_listed, fewer_bits}
use Rattle.maker.proofs.cells.add_part.Goals as goal

pub loop-bits-init : goal.loop-bits-init
loop-bits-init c = grind (arith, listing_starts, row_tells)

pub loop-bits-smaller : goal.loop-bits-smaller
loop-bits-smaller c = fewer_bits _ _ _ _ _ (omega arith) (omega arith) c.loop-bits.invariant

pub loop-bits-preserved : goal.loop-bits-preserved
loop-bits-preserved c = grind (arith, bit_listed)

pub returns : goal.returns
returns c = listing_ends _ _ _ _ _ (omega arith) c.loop-bits.invariant
