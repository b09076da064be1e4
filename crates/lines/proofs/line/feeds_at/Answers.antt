use Rattle.std.proofs.Common.{eqb, false, map, ap, ◌∙◌, arith, w8}
use Rattle.std.specs.Simd.Lanes.{chunk}
use Rattle.std.proofs.lemmas.Simd.{bitmask_splat, length-chunk, get_or-chunk}
use Rattle.std.proofs.lemmas.List.{get_or_past, length-map}
use Rattle.std.specs.Prelude.{nat_eq}
use Rattle.std.specs.Int.{bit_at}
use Rattle.lines.proofs.Lanes.{bit_of_lanes, compared}
use Rattle.lines.proofs.line.feeds_at.Goals as goal

pub returns : goal.returns
returns c =
    let text = c.args.text.now in
    let at = c.args.at in
    let long = length-chunk at 32 text c.requires in
    record {
      inside = λ k small. compared (chunk at 32 text) 32 10 k long (omega arith) small ∙ ap (λ x. eqb x 10) (get_or-chunk at 32 text k 0 small);
      past = λ k past.
          ap (λ n. nat_eq (bit_at n k) 1) (bitmask_splat w8 eqb (chunk at 32 text) 32 10 long (omega arith))
          ∙ bit_of_lanes (map (λ x. eqb x 10) (chunk at 32 text)) k
          ∙ get_or_past (map (λ x. eqb x 10) (chunk at 32 text)) k false (let size = length-map (chunk at 32 text) (λ x. eqb x 10) in omega arith);
    }
