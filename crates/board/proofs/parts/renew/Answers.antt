use Rattle.board.proofs.Drawing.{blank_drawn}
use Rattle.board.proofs.parts.renew.Goals as goal

pub returns-clause-drawn : goal.returns-clause-drawn
returns-clause-drawn g c =
    blank_drawn g.S.CellSet.members _ c.in_ok-renew.ensures.empty c.in_ok-renew-2.ensures.empty c.in_ok-renew-3.ensures.empty c.in_ok-renew-4.ensures.empty
