-- The text is the first cell, and then each other cell after a space.
use Rattle.std.proofs.Common.{◌≡◌, ℕ, List, [], ◌∷◌, ◌++◌, ap, sym, ◌∙◌, append-nil}
use Rattle.std.specs.List.{flat_map}
use Rattle.answers.specs.CellTexts.{between}
use Rattle.answers.specs.declared.pattern.Coord.{Coord}
use Rattle.answers.specs.Grammar.{cell_text, cells_text}
use Rattle.devices.proofs.WrittenTexts.{handed_as, handed_both, handed_part, passed_on}
use Rattle.answers.proofs.writing.write_cells.Goals as goal

abbrev one : Coord → List ℕ
one first = flat_map (between [] []) (first ∷ [])

abbrev more : List Coord → List ℕ
more cells = flat_map (between (32 ∷ []) []) cells

only_one : (first : Coord) → one first ≡ cell_text first
only_one first = append-nil (cell_text first ++ []) ∙ append-nil (cell_text first)

first_and_more : (first : Coord) (rest : List Coord) → cell_text first ++ more rest ≡ cells_text (first ∷ rest)
first_and_more first [] = append-nil (cell_text first)
first_and_more first (next ∷ rest) = ap (λ l. cell_text first ++ (32 ∷ (l ++ more rest))) (append-nil (cell_text next)) ∙
    ap (λ l. cell_text first ++ (32 ∷ l)) (first_and_more next rest)

all : (first : Coord) (rest : List Coord) → one first ++ more rest ≡ cells_text (first ∷ rest)
all first rest = ap (λ l. l ++ more rest) (only_one first) ∙ first_and_more first rest

pub returns-in_err-write_each : goal.returns-in_err-write_each
returns-in_err-write_each g c =
    let first = c.in-Some.first.now in
    let rest = c.in-Some.rest.now in
    let cut = handed_part _ _ (one first) (more rest) _ c.in_err-write_each.ensures in
    passed_on _ _ _ _ _ c.from_residual.ensures.0 (handed_as _ _ _ _ _ (all first rest ∙ ap cells_text (sym c.in-Some.ensures.cases.0)) cut)

pub returns : goal.returns
returns g c =
    let first = c.in-Some.first.now in
    let rest = c.in-Some.rest.now in
    let both = handed_both _ _ _ (one first) (more rest) _ _ c.in_ok-write_each.ensures c.write_each-2.ensures in
    handed_as _ _ _ _ _ (all first rest ∙ ap cells_text (sym c.in-Some.ensures.cases.0)) both
