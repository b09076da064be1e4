use Rattle.std.proofs.Common.{sym, ◌∙◌}
use Rattle.board.proofs.DrawnParts.{first_is_only}
use Rattle.board.proofs.reading.only_member.Goals as goal

pub returns : goal.returns
returns g c =
    let corner = rw c.shape.ensures.value at c.in_ok-cell.ensures.0 in
    first_is_only _ _ _ _ (sym c.len.ensures ∙ c.if-len-ne1.false) c.shape.ensures.on corner c.in_ok-cell.ensures.1 c.next_from.ensures.first
