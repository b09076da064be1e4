-- The texts of the drafts so far are written, and the sink has not failed.
use Rattle.std.proofs.Common.{take}
use Rattle.std.specs.List.{flat_map}
use Rattle.devices.proofs.WrittenTexts.{Whole}
use Rattle.report.specs.Making.{draft_text}
use Rattle.report.proofs.making.write_drafts.Given as goal

abbrev pub invariant-loop-draft : goal.invariant-loop-draft
invariant-loop-draft g l = Whole g.W.Sink l.fn.answers l.answers (flat_map draft_text (take l.draft-index l.drafts)) tt
