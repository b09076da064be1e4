-- The calls write the kind line, the lines of the first cells and the line of the last boxes.
use Rattle.std.proofs.Common.{◌≡◌, ◌++◌, [], ◌∷◌, List, ℕ, ap, sym, ◌∙◌, codes}
use Rattle.std.proofs.lemmas.Grind.{flat_map-append}
use Rattle.std.proofs.lemmas.List.{append_assoc}
use Rattle.std.proofs.lemmas.List.Folds.{flat_map-map}
use Rattle.std.specs.List.{flat_map}
use Rattle.answers.specs.Body.{PatternLine}
use Rattle.answers.specs.Canonical.{ended, last_pattern, list_lines, list_patterns, lone_line, lone_patterns, made_pattern}
use Rattle.answers.specs.Grammar.{pattern_text}
use Rattle.answers.specs.declared.pattern.Coord.{Coord}
use Rattle.answers.proofs.ThreeParts.{first_cut, second_cut, all_written}
use Rattle.answers.proofs.writing.write_list_body.Goals as goal

abbrev kind : List ℕ
kind = codes "unsolvable\n"

-- The lines of patterns, each with its end.
abbrev text : List PatternLine → List ℕ
text patterns = flat_map (λ p. ended (pattern_text p)) patterns

abbrev lone : List Coord → List ℕ
lone cells = flat_map (λ c. ended (lone_line c)) cells

joined : (cells last : List Coord) → kind ++ lone cells ++ text (last_pattern last) ≡ flat_map ended (list_lines cells last)
joined cells last =
    append_assoc kind (lone cells) (text (last_pattern last))
    ∙ ap (λ l. kind ++ l) (ap (λ l. l ++ text (last_pattern last)) (sym (flat_map-map (λ p. ended (pattern_text p)) (λ c. made_pattern (c ∷ [])) cells))
    ∙ sym (flat_map-append (λ p. ended (pattern_text p)) (lone_patterns cells) (last_pattern last))
    ∙ sym (flat_map-map ended pattern_text (list_patterns cells last)))

pub returns-in_err-write_bytes : goal.returns-in_err-write_bytes
returns-in_err-write_bytes g c =
    let cells = c.args.cells.now in
    let last = c.args.last.now in
    first_cut kind (lone cells) (text (last_pattern last)) _ (joined cells last) c.from_residual.ensures.0 c.in_err-write_bytes.ensures

pub returns-in_err-write_lone : goal.returns-in_err-write_lone
returns-in_err-write_lone g c =
    let cells = c.args.cells.now in
    let last = c.args.last.now in
    second_cut kind (lone cells) (text (last_pattern last)) _ (joined cells last) c.from_residual-in_err-write_lone.ensures.0 c.in_ok-write_bytes.ensures
    c.in_err-write_lone.ensures

pub returns : goal.returns
returns g c =
    let cells = c.args.cells.now in
    let last = c.args.last.now in
    all_written kind (lone cells) (text (last_pattern last)) _ (joined cells last) c.in_ok-write_bytes.ensures c.in_ok-write_lone.ensures c.write_last.ensures
