use Rattle.std.proofs.Common.{arith}
use Rattle.devices.proofs.WrittenTexts.{handed_item, handed_some, passed_on}
use Rattle.report.specs.Making.{draft_text}
use Rattle.report.proofs.making.write_drafts.Goals as goal

pub loop-draft-preserved : goal.loop-draft-preserved
loop-draft-preserved g c =
    handed_item draft_text c.args.drafts.now c.loop-draft.draft-index c.draft-item.result _ _ _ _ _ (omega arith) c.draft-item.is c.loop-draft.invariant
    c.in_ok-write_draft.ensures

pub returns-in_err-write_draft : goal.returns-in_err-write_draft
returns-in_err-write_draft g c =
    let cut = handed_item draft_text c.args.drafts.now c.loop-draft.draft-index c.draft-item.result _ _ _ _ _ (omega arith) c.draft-item.is
    c.loop-draft.invariant c.in_err-write_draft.ensures in
    passed_on _ _ _ _ _ c.from_residual.ensures.0 (handed_some draft_text c.args.drafts.now c.loop-draft.draft-index _ _ _ cut)
