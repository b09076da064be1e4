use Rattle.std.proofs.Common.{ℕ, List, ap}
use Rattle.std.specs.List.{flat_map, list_any}
use Rattle.answers.specs.Canonical.{header_line}
use Rattle.devices.proofs.WrittenTexts.{handed_as, handed_both, handed_part, passed_on}
use Rattle.report.specs.Making.{draft_text, is_zone}
use Rattle.report.specs.declared.making.Draft.{Draft}
use Rattle.report.proofs.making.write_text.Goals as goal

abbrev header : List Draft → List ℕ
header drafts = header_line (list_any (λ d. is_zone d.found) drafts)

pub returns-in_err-write_header : goal.returns-in_err-write_header
returns-in_err-write_header g c =
    let line = handed_as _ _ _ (header c.args.drafts.now) _ (ap header_line c.some_zone.ensures) c.in_err-write_header.ensures in
    passed_on _ _ _ _ _ c.from_residual.ensures.0 (handed_part _ _ (header c.args.drafts.now) (flat_map draft_text c.args.drafts.now) _ line)

pub returns : goal.returns
returns g c =
    let line = handed_as _ _ _ (header c.args.drafts.now) _ (ap header_line c.some_zone.ensures) c.in_ok-write_header.ensures in
    handed_both _ _ _ (header c.args.drafts.now) (flat_map draft_text c.args.drafts.now) _ _ line c.write_drafts.ensures
