use Rattle.std.proofs.Common.{ap, ap₂, sym, ◌∙◌}
use Rattle.answers.specs.Canonical.{list_lines, text_with, zone_lines}
use Rattle.devices.proofs.WrittenTexts.{handed_as}
use Rattle.report.specs.Making.{found_lines}
use Rattle.report.proofs.making.write_draft.Goals as goal

pub returns-in-List : goal.returns-in-List
returns-in-List g c =
    let level = c.args.draft.now.level in
    handed_as _ _ _ _ _ (ap₂ (λ dead frozen. text_with level (list_lines dead frozen)) c.deref.ensures.value c.deref-in-List.ensures.value
    ∙ ap (λ found. text_with level (found_lines found)) (sym c.in-List.is)) c.write_list_record.ensures

pub returns-in-Zone : goal.returns-in-Zone
returns-in-Zone g c =
    let level = c.args.draft.now.level in
    handed_as _ _ _ _ _ (ap (λ cells. text_with level (zone_lines cells)) c.deref-in-Zone.ensures.value
    ∙ ap (λ found. text_with level (found_lines found)) (sym c.in-Zone.is)) c.write_zone_record.ensures
