-- Each turn stores the bytes of sixteen columns. The invariant says that the cells before these columns are drawn, and that the floor that
-- is left is the bits of the part, shifted down to the first of these columns; columns off the grid are no floor. So the sixteen bytes
-- show their cells without boxes (`bytes_drawn` in `Mailboxes.antt`), and with them the cells up to the next columns are drawn
-- (`drawn_next`). The columns begin at a multiple of 64 and rise by 16, so no turn goes past the part.
use Rattle.std.proofs.Common.{◌≡◌, ℕ, ◌+◌, ◌-◌, ◌*◌, ◌/◌, ◌^◌, ◌≤◌, pow-add, sym, ◌∙◌, ap, arith}
use Rattle.std.proofs.Math.Nat.{div-div-eq-div-mul}
use Rattle.play.proofs.Mailboxes.{AreBytesOf, drawn_next, bytes_drawn}
use Rattle.play.proofs.mailbox.draw_part.Goals as goal

shifted : (w s : ℕ) {m : ℕ} → m ≡ s + 16 → w / 2 ^ s / 65536 ≡ w / 2 ^ m
shifted w s next = div-div-eq-div-mul w (2 ^ s) (2 ^ 16) ∙ ap (λ p. w / p) (sym (pow-add 2 s 16) ∙ ap (λ n. 2 ^ n) (sym next))

pub lanes-preserved : goal.lanes-preserved
lanes-preserved g c =
    let level = c.args.board.now in
    let formed = c.shape.ensures.formed in
    let row = c.args.row in
    let part = c.args.part in
    let column = c.lanes.column in
    let kept = c.lanes.invariant in
    let s = column - 64 * part in
    let is_floor = c.floor_at-floor.ensures in
    let high : column + 16 ≤ 64 * part + 64 = let w = kept.whole in omega arith in
    let there : 64 * part + s ≡ column = let f = kept.from in omega arith in
    let next : column + 16 - 64 * part ≡ s + 16 = let f = kept.from in omega arith in
    let are : AreBytesOf level row column c.bytes_of-bytes.result =
    rw there at (bytes_drawn level formed row part c.floor_at-floor.result is_floor.0 is_floor.1 is_floor.2 s
    (omega arith) kept.floor c.bytes_of-bytes.ensures.len c.bytes_of-bytes.ensures.bytes) in
    let up : 256 * row + column + 16 ≡ 256 * row + (column + 16) = omega arith in
    record {
      drawn =
          rw up at (drawn_next level formed row column c.bytes_of-bytes.result c.lanes.mailbox
          (omega arith) c.requires.row c.ranges.row.fits are kept.drawn);
      whole = let w = kept.whole in omega arith;
      from = omega arith;
      to = high;
      floor = ap (λ w. w / 65536) kept.floor ∙ shifted c.floor_at-floor.result s next;
    }
