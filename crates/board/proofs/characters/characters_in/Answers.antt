use Rattle.std.proofs.Common.{refl, bit_and, bit_or, get_or, sym, arith}
use Rattle.std.proofs.lemmas.List.{map-id}
use Rattle.std.proofs.lemmas.Simd.{zip2_splat, zip2_of_maps}
use Rattle.board.specs.Characters.{is_board_character}
use Rattle.board.specs.declared.characters.TheConstants.{BY_LOW_BITS}
use Rattle.board.proofs.Blocks.{hit, of_kind, low_places, looked_up, past_lanes}
use Rattle.board.proofs.characters.characters_in.Goals as goal

pub swizzle-likely : goal.swizzle-likely
swizzle-likely c = low_places c.args.block c.fits-block.0

pub returns-clause-inside : goal.returns-clause-inside
returns-clause-inside c =
    let block = c.args.block in
    of_kind _ is_board_character 16 block _ (omega arith) c.fits-block
    (zip2_of_maps bit_or _ _ block
    (zip2_of_maps hit (λ b. get_or BY_LOW_BITS (bit_and b 15) 0) (λ b. b) block (looked_up BY_LOW_BITS block c.fits-block.0) (sym (map-id block)))
    (zip2_splat hit block 16 64 c.fits-block.0))
    refl

pub returns-clause-past : goal.returns-clause-past
returns-clause-past c =
    let block = c.args.block in
    past_lanes _ 16 block _ (omega arith) c.fits-block.0
    (zip2_of_maps bit_or _ _ block
    (zip2_of_maps hit (λ b. get_or BY_LOW_BITS (bit_and b 15) 0) (λ b. b) block (looked_up BY_LOW_BITS block c.fits-block.0) (sym (map-id block)))
    (zip2_splat hit block 16 64 c.fits-block.0))
