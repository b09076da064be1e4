use Rattle.std.proofs.Common.{refl, sym, inl, inr, arith}
use Rattle.cellset.proofs.Members.{has_remove, not_both}
use Rattle.cellset.proofs.Truth.{either}
use Rattle.certificates.proofs.Counts.{len-remove_member}
use Rattle.maker.proofs.Thawing.{reviewed_held, reviewed_gone}
use Rattle.maker.proofs.freezing.review.Goals as goal

pub returns-then-not-contains-clause-reviewed : goal.returns-then-not-contains-clause-reviewed
returns-then-not-contains-clause-reviewed g c = grind (arith, not_both)

pub wait_around-requires-clause-space : goal.wait_around-requires-clause-space
wait_around-requires-clause-space g c =
    let one = len-remove_member (g.S.CellSet.members c.args.frozen.now) c.args.cell (sym c.if-not-contains.ensures) in
    let space = c.requires.space in
    omega arith

pub returns-then-not-is_held-clause-reviewed : goal.returns-then-not-is_held-clause-reviewed
returns-then-not-is_held-clause-reviewed g c =
    let loose = c.if-not-is_held.ensures.loose refl in
    let frozen = g.S.CellSet.members c.args.frozen.now in
    let dead = c.args.dead.now.members in
    rw c.remove.ensures.members (reviewed_gone c.args.board.now dead c.args.cell frozen c.args.work.now.items c.wait_around.new.work.items
    (sym c.if-not-contains.ensures) loose.0 loose.1 c.wait_around.ensures.waiting
    (λ d h. c.wait_around.ensures.around d (rw c.remove.ensures.members h))
    c.wait_around.ensures.more)

pub returns-then-not-is_held-clause-listed : goal.returns-then-not-is_held-clause-listed
returns-then-not-is_held-clause-listed g c = λ q h.
    either (c.wait_around.ensures.listed q h)
    (λ old. inl old)
    (λ new. inr (has_remove _ _ q (rw c.remove.ensures.members at new)).1)

pub returns-else-not-is_held-clause-reviewed : goal.returns-else-not-is_held-clause-reviewed
returns-else-not-is_held-clause-reviewed g c = reviewed_held c.args.board.now _ c.args.cell _ _ (c.if-not-is_held.ensures.held refl)
