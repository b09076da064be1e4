use Rattle.std.proofs.Common.{ℕ, sym, ◌∙◌, arith}
use Rattle.std.proofs.Math.ListN.{replicate}
use Rattle.std.proofs.lemmas.List.{same_lists, length-replicate}
use Rattle.reach.proofs.Sets.{none_in}
use Rattle.reach.proofs.bit_rows.empty.Goals as goal

pub returns : goal.returns
returns g c =
    let items_are = c.in_ok-rows.ensures.items_if_clones_equal
    (λ y e. same_lists y (replicate g.row.N 0) (e.long ∙ sym (length-replicate {A = ℕ} g.row.N 0)) (λ k d low. e.at k d d (omega arith))) in
    (omega (arith, c.in_ok-rows.ensures.len, c.in_ok-rows.rows.ok.0), λ q h. none_in _ _ q (rw items_are at h))
