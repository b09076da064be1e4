-- A call of `draw_board` keeps the length, so the vector has just the bytes that it wrote, as many as there are in a number of rows that is
-- a power of two.
use Rattle.std.proofs.Common.{◌≡◌, ◌+◌, ◌*◌, ◌++◌, length, take, drop, pow-add, sym, ◌∙◌, ap, subst, arith}
use Rattle.std.proofs.Math.Seq.{take-append_seam}
use Rattle.play.proofs.mailbox.draw_mailbox.Goals as goal

pub returns-clause-masked : goal.returns-clause-masked
returns-clause-masked g c =
    let (k, small, is) = c.rows_for.ensures.power in
    let new = c.draw_board.new.mailbox in
    let rest = drop (length new) c.resize.new.self.items in
    let same : length new ≡ c.resize.new.self.len = c.draw_board.auto.mailbox ∙ c.deref_mut.ensures.len in
    let long = subst (λ n. length (take n (new ++ rest)) ≡ 256 * c.rows_for.result) same
    (ap length (take-append_seam new rest) ∙ same ∙ c.in_ok-resize.ensures.len) in
    (8 + k, omega arith, long ∙ ap (λ n. 256 * n) is ∙ sym (pow-add 2 8 k))

pub returns-clause-shown : goal.returns-clause-shown
returns-clause-shown g c =
    let same : length c.draw_board.new.mailbox ≡ c.resize.new.self.len = c.draw_board.auto.mailbox ∙ c.deref_mut.ensures.len in
    rw (← same, take-append_seam) c.draw_board.ensures
