-- The calls write the kind line, and then what the body holds.
use Rattle.std.proofs.Common.{◌≡◌, ◌++◌, ℕ, List, take, drop, take-append-drop, ap, sym, ◌∙◌}
use Rattle.std.proofs.lemmas.Grind.{flat_map-append}
use Rattle.std.specs.List.{flat_map}
use Rattle.answers.specs.declared.record.MadeBody.{MadeBody}
use Rattle.answers.specs.Canonical.{made_lines, ended}
use Rattle.devices.proofs.WrittenTexts.{handed_as, handed_both, handed_part, passed_on}
use Rattle.answers.proofs.writing.write_body.Goals as goal

abbrev kind : MadeBody → List ℕ
kind body = flat_map ended (take 1 (made_lines body))

abbrev rest : MadeBody → List ℕ
rest body = flat_map ended (drop 1 (made_lines body))

joined : (body : MadeBody) → kind body ++ rest body ≡ flat_map ended (made_lines body)
joined body =
    let lines = made_lines body in
    sym (flat_map-append ended (take 1 lines) (drop 1 lines)) ∙ ap (flat_map ended) (take-append-drop 1 lines)

pub returns-in_err-write_bytes : goal.returns-in_err-write_bytes
returns-in_err-write_bytes g c =
    let body = c.args.body.now in
    let line = handed_as _ _ _ (kind body) _ c.kind_line.ensures c.in_err-write_bytes.ensures in
    passed_on _ _ _ _ _ c.from_residual.ensures.0 (handed_as _ _ _ _ _ (joined body) (handed_part _ _ (kind body) (rest body) _ line))

pub returns : goal.returns
returns g c =
    let body = c.args.body.now in
    let line = handed_as _ _ _ (kind body) _ c.kind_line.ensures c.in_ok-write_bytes.ensures in
    handed_as _ _ _ _ _ (joined body) (handed_both _ _ _ (kind body) (rest body) _ _ line c.write_said.ensures)
