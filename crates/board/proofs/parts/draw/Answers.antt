-- The invariant says that the lines of the text that is left are the rows after the first `row` ones, and that the parts show those
-- first ones. The first line of the text that is left is the next row, so after it the parts show one row more.
use Rattle.std.proofs.Common.{◌≡◌, ℕ, ◌+◌, ◌<◌, ◌≤◌, List, [], ◌∷◌, length, take, drop, get_or, sym, ◌∙◌, ap, arith, length-drop, get_or-take}
use Rattle.std.proofs.lemmas.List.{get_or-drop, length-take-le}
use Rattle.std.proofs.lemmas.List.Elements.{All-get_or}
use Rattle.lines.proofs.Cuts.{first_lines, lines_in-nil}
use Rattle.board.specs.Lines.{first_row, lines_in}
use Rattle.board.proofs.FirstRows.{next_row}
use Rattle.board.proofs.parts.draw.Goals as goal

some_text : (text : List ℕ) (lines : List (List ℕ)) (row : ℕ) → lines_in text ≡ drop row lines → row < length lines → 0 < length text
some_text [] lines row left inside = absurd (let none = ap length (sym lines_in-nil ∙ left) ∙ length-drop row lines in omega arith)
some_text (b ∷ bs) lines row left inside = omega arith

next_is : (text : List ℕ) (lines : List (List ℕ)) (row : ℕ) → lines_in text ≡ drop row lines → first_row text ≡ get_or lines row []
next_is text lines row left =
    let place : row + 0 ≡ row = omega arith in
    ap (λ l. get_or l 0 []) left ∙ get_or-drop row lines 0 [] ∙ ap (λ k. get_or lines k []) place

pub draw_row-next-requires-clause-some : goal.draw_row-next-requires-clause-some
draw_row-next-requires-clause-some g c = some_text c.loop-row.rest.now (lines_in c.args.text.now) c.loop-row.row c.loop-row.invariant.left (omega arith)

pub draw_row-next-requires-clause-wide : goal.draw_row-next-requires-clause-wide
draw_row-next-requires-clause-wide g c =
    let was = c.loop-row.invariant in
    let lines = lines_in c.args.text.now in
    let row = c.loop-row.row in
    let height = c.args.parts.now.shape.height in
    let long = length-take-le height lines c.requires.high in
    let fits = All-get_or (λ r. length r ≤ c.args.parts.now.shape.width) (take height lines) row [] (omega arith) c.requires.wide in
    rw (was.shape, next_is c.loop-row.rest.now lines row was.left) (rw (get_or-take height lines row [] (omega arith)) at fits)

pub loop-row-preserved : goal.loop-row-preserved
loop-row-preserved g c =
    let was = c.loop-row.invariant in
    let lines = lines_in c.args.text.now in
    let next = next_row lines c.loop-row.row _ _ (sym was.left ∙ first_lines _ _ _ c.draw_row-next.ensures.next) in
    record {
      left = ap lines_in c.split_at.ensures.back ∙ sym next.2;
      shape = c.draw_row-next.ensures.shape ∙ was.shape;
      rows = c.draw_row-next.ensures.rows;
      drawn = rw next.1 (c.draw_row-next.ensures.drawn (take c.loop-row.row lines) (let long = length-take-le c.loop-row.row lines (omega arith) in omega arith) was.drawn);
    }
