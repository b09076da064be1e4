use Rattle.std.proofs.Common.{◌≡◌, ℕ, ◌+◌, ◌-◌, ◌<◌, length, slice_index, refl, ◌∙◌, ap, arith}
use Rattle.std.proofs.Math.ListN as lists
use Rattle.closure.specs.Kept.{rows_of}
use Rattle.closure.specs.declared.kept.Region.{Region}
use Rattle.closure.proofs.KeptRows.{in_kept, same_after, same_again}
use Rattle.closure.proofs.kept.Kept.add.Goals as goal
use Rattle.closure.proofs.kept.Kept.add.Goals.{then-is_repeated, else-is_repeated}

pub returns-clause-exact : goal.returns-clause-exact
returns-clause-exact c =
    let (more, is, long, rows) = c.in_ok-add_rows.ensures in
    let cells = c.args.cells.now in
    let old = c.args.self.now.words.items in
    let kept = c.if-is_repeated.self in
    let region : Region = record { at = c.in_ok-to_u32.field-0; first = c.args.first; last = c.args.first + c.args.rows - 1; lacks = c.args.lacks } in
    let at : c.len-at.result ≡ length old = c.len-at.ensures ∙ c.args.self.now.words.ok.0 in
    let words : (i : ℕ) → i < length more → slice_index kept.words.items (kept.last + i) ≡ slice_index more i = elim c.if-is_repeated.branch [
      | then-is_repeated w ↦
          rw w.self-is (same_again old more w.truncate.new.self.items c.args.self.now.last c.len-at.result c.requires.kept.last at
          (w.truncate.ensures.items ∙ ap (λ l. lists.take c.len-at.result l) is)
          (rw (c.deref.ensures.value, is) at (w.if-is_repeated.ensures refl)))
      | else-is_repeated w ↦ rw w.self-is (same_after old more c.add_rows.new.words.items c.len-at.result at is)
    ] in
    let parts : kept.parts ≡ c.args.self.now.parts = elim c.if-is_repeated.branch [
      | then-is_repeated w ↦ ap (λ k. k.parts) w.self-is
      | else-is_repeated w ↦ ap (λ k. k.parts) w.self-is
    ] in
    let some = c.if-rows-eq0.false in
    let count : rows_of region ≡ c.args.rows = omega arith in
    in_kept cells.extent cells.members kept region more (parts ∙ c.requires.kept.parts) (rw count c.requires.all)
    (λ i lt. rw c.in_ok-to_u32.ensures.value (words i (rw (long, ← count, ← parts) lt)))
    (rw (count, parts) rows)
