use Rattle.std.proofs.Common.{ℕ, List, drop, ap, sym, ◌∙◌}
use Rattle.std.proofs.lemmas.List.Folds.{flat_map-map}
use Rattle.std.specs.List.{flat_map}
use Rattle.answers.specs.declared.pattern.Pattern.{Pattern}
use Rattle.answers.specs.declared.record.MadeBody.{MadeBody}
use Rattle.answers.specs.Canonical.{made_lines, ended, line_of_made}
use Rattle.devices.proofs.WrittenTexts.{handed_as}
use Rattle.answers.proofs.writing.write_said.Goals as goal

-- The text of the lines of a body.
abbrev text : MadeBody → List ℕ
text body = flat_map ended (drop 1 (made_lines body))

-- the text of the lines of patterns
abbrev lines_of : List Pattern → List ℕ
lines_of patterns = flat_map (λ p. ended (line_of_made p)) patterns

pub returns-in-Patterns : goal.returns-in-Patterns
returns-in-Patterns g c =
    let patterns = c.in-Patterns.patterns.items in
    handed_as _ _ _ _ _ (ap lines_of c.deref.ensures.value ∙ sym (flat_map-map ended line_of_made patterns) ∙
    ap text (sym c.in-Patterns.is)) c.write_patterns.ensures
