use Rattle.std.proofs.Common.{◌≡◌, length, take, sym, ◌∙◌, inl, inr, arith}
use Rattle.std.proofs.lemmas.List.{length-take-le}
use Rattle.board.specs.Lines.{first_row, past_end}
use Rattle.board.proofs.FirstRows.{front_board, front_line, front_text, row_is}
use Rattle.board.proofs.collection.board_line.Goals as goal
use Rattle.board.proofs.collection.board_line.Goals.{then-not-has_wall-via-then-not-has_wall, then-not-has_wall-via-else-not-has_wall+then-end-text, then-end-len, else-end-len}

pub returns-then-not-has_wall-clause-none : goal.returns-then-not-has_wall-clause-none
returns-then-not-has_wall-clause-none c = elim c.then-not-has_wall.branch [
  | then-not-has_wall-via-then-not-has_wall w ↦ front_text _ _ _ c.front-len.ensures c.requires (inl w.if-not-has_wall.true)
  | then-not-has_wall-via-else-not-has_wall+then-end-text w ↦ front_text _ _ _ c.front-len.ensures c.requires (inr (grind arith, grind arith))
]

pub returns-clause-some : goal.returns-clause-some
returns-clause-some c =
    let text = c.args.text.now in
    let n = c.front-len.result.0 in
    let front = c.front-len.ensures in
    let ends : past_end text n ≡ n → n ≡ length text = λ same. elim c.if-end-text.either [
      | inl (_, past) ↦ omega (arith, front.within, c.past_end-end.ensures ∙ same)
      | inr other ↦ absurd (other (c.past_end-end.ensures ∙ same))
    ] in
    let first = front_line _ _ _ front c.requires ends in
    let row : first_row text ≡ take n text = row_is _ _ _ first in
    (rw row (sym (length-take-le n text front.within)), rw (row, c.split_at.ensures.back, c.past_end-end.ensures) first, front_board _ _ _ front _ first c.if-not-has_wall.false)
