use Rattle.std.proofs.Common.{ℕ, eqb, false, map, ap, ◌∙◌, arith, w8}
use Rattle.std.proofs.lemmas.Simd.{bitmask_splat}
use Rattle.std.proofs.lemmas.List.{get_or-map, get_or_past, length-map}
use Rattle.cellset.specs.Bits.{bit}
use Rattle.board.proofs.Blocks.{bit_of_lanes}
use Rattle.board.proofs.characters.equal_to.Goals as goal

pub returns-clause-inside : goal.returns-clause-inside
returns-clause-inside g c k h =
    let is_byte = λ (x : ℕ). eqb x c.args.byte in
    ap (λ n. bit n k) (bitmask_splat w8 eqb c.args.block g.row.N c.args.byte c.fits-block.0 (omega arith)) ∙ bit_of_lanes (map is_byte c.args.block) k
    ∙ get_or-map is_byte c.args.block k 0 false (omega arith)

pub returns-clause-past : goal.returns-clause-past
returns-clause-past g c k h =
    let is_byte = λ (x : ℕ). eqb x c.args.byte in
    ap (λ n. bit n k) (bitmask_splat w8 eqb c.args.block g.row.N c.args.byte c.fits-block.0 (omega arith)) ∙ bit_of_lanes (map is_byte c.args.block) k
    ∙ get_or_past (map is_byte c.args.block) k false (omega (arith, length-map c.args.block is_byte, c.fits-block.0))
