-- Cells in a buffer that is filled from its end to its front: the text of a cell comes before the texts of the cells after it.
use Rattle.std.proofs.Common.{◌≡◌, ℕ, ◌+◌, ◌<◌, ◌≤◌, List, ◌∷◌, ◌++◌, length, take, drop, get_or, sym, ap, ◌∙◌, arith, append_assoc}
use Rattle.std.proofs.Math.Seq.{drop-cons}
use Rattle.std.proofs.lemmas.Grind.{flat_map-append}
use Rattle.std.proofs.lemmas.List.{drop-append-le, drop-drop, take-append-drop}
use Rattle.std.specs.List.{flat_map}
use Rattle.answers.specs.CellTexts.{between}
use Rattle.answers.specs.Grammar.{numeral}
use Rattle.answers.specs.declared.pattern.Coord.{Coord}

-- ---- one cell
-- What was put whole is there from each of its bytes on.
pub put_from : (bytes rest text : List ℕ) (at start : ℕ) → start ≤ length bytes → drop at text ≡ bytes ++ rest
    → drop (at + start) text ≡ drop start bytes ++ rest
put_from bytes rest text at start within put = sym (drop-drop start at text) ∙ ap (drop start) put ∙ drop-append-le start bytes rest within

-- A text, the column and the tail are the text of the cell between two others.
pub cell_whole : (before after rest tail : List ℕ) (cell : Coord) → tail ≡ 44 ∷ (numeral cell.row ++ after)
    → before ++ (numeral cell.column ++ (tail ++ rest)) ≡ between before after cell ++ rest
cell_whole before after rest tail cell is = grind (arith, append_assoc)

-- ---- cell by cell
-- The texts of the cells from one on are its text and the texts of the cells after it.
pub cells_put : (f : Coord → List ℕ) (cells : List Coord) (i : ℕ) (d : Coord) → i < length cells
    → f (get_or cells i d) ++ flat_map f (drop (i + 1) cells) ≡ flat_map f (drop i cells)
cells_put f cells i d within = grind (arith, drop-cons)

-- ---- part by part
pub parts_on : (f : Coord → List ℕ) (front : List ℕ) {part next : List Coord} (rest all : List Coord) (n : ℕ) → part ≡ take n rest → next ≡ drop n rest
    → front ++ flat_map f rest ≡ flat_map f all → (front ++ flat_map f part) ++ flat_map f next ≡ flat_map f all
parts_on f front {part} {next} rest all n p q whole =
    let both = ap (flat_map f) ((λ i. p i ++ q i) ∙ take-append-drop n rest) in
    append_assoc front (flat_map f part) (flat_map f next) ∙ ap (λ l. front ++ l) (sym (flat_map-append f part next) ∙ both) ∙ whole
