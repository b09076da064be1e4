-- The line is three texts: the word, the boxes, and the seeds with what is around them. Each call writes one of them.
use Rattle.std.proofs.Common.{◌≡◌, ℕ, List, [], ◌∷◌, ◌++◌, ap, sym, ◌∙◌, codes}
use Rattle.std.proofs.lemmas.List.{append_assoc}
use Rattle.std.specs.Prelude.{Option}
use Rattle.answers.specs.Canonical.{ended}
use Rattle.answers.specs.declared.pattern.Coord.{Coord}
use Rattle.answers.specs.Grammar.{cells_text, pattern_text, said_seeds, seeds_text}
use Rattle.answers.proofs.ThreeParts.{first_cut, second_cut, all_written}
use Rattle.answers.proofs.writing.write_pattern.Goals as goal

abbrev word : List ℕ
word = codes "pattern "

-- The text after the boxes.
abbrev rest : Option (List Coord) → List ℕ
rest seeds = codes " @ " ++ seeds_text seeds ++ 10 ∷ []

joined : (boxes : List Coord) (seeds : Option (List Coord))
    → word ++ cells_text boxes ++ rest seeds ≡ ended (pattern_text (record { line = 0; boxes = boxes; seeds = seeds }))
joined boxes seeds =
    let front = word ++ cells_text boxes in
    sym (append_assoc front (codes " @ " ++ seeds_text seeds) (10 ∷ []))
    ∙ ap (λ l. l ++ 10 ∷ []) (sym (append_assoc front (codes " @ ") (seeds_text seeds)))

pub returns-in_err-write_bytes : goal.returns-in_err-write_bytes
returns-in_err-write_bytes g c =
    let boxes = c.args.boxes.now in
    let seeds = said_seeds c.args.seeds.now in
    first_cut word (cells_text boxes) (rest seeds) _ (joined boxes seeds) c.from_residual.ensures.0 c.in_err-write_bytes.ensures

pub returns-in_err-write_cells : goal.returns-in_err-write_cells
returns-in_err-write_cells g c =
    let boxes = c.args.boxes.now in
    let seeds = said_seeds c.args.seeds.now in
    second_cut word (cells_text boxes) (rest seeds) _ (joined boxes seeds) c.from_residual-in_err-write_cells.ensures.0 c.in_ok-write_bytes.ensures
    c.in_err-write_cells.ensures

pub returns : goal.returns
returns g c =
    let boxes = c.args.boxes.now in
    let seeds = said_seeds c.args.seeds.now in
    all_written word (cells_text boxes) (rest seeds) _ (joined boxes seeds) c.in_ok-write_bytes.ensures c.in_ok-write_cells.ensures c.write_seeds.ensures
