-- The buffer is filled from its end to its front. The invariant says that it has the texts of the cells from `left` on after place `at`,
-- and that there is room before `at` for the texts of the cells that are left, each of at most 24 bytes. A turn puts the last cell that is
-- left before `at`, so its text comes before the texts of the cells after it (`cells_put` in `CellBuffers.antt`). At the end no cell is
-- left, so the texts of all cells are in the buffer.
use Rattle.std.proofs.Common.{◌≡◌, ◌+◌, ◌-◌, ◌∷◌, ◌++◌, length, drop, get_or, ap, sym, ◌∙◌, arith}
use Rattle.std.proofs.lemmas.List.{drop_all}
use Rattle.std.specs.List.{flat_map}
use Rattle.answers.specs.CellTexts.{between}
use Rattle.answers.specs.Grammar.{numeral}
use Rattle.answers.specs.declared.pattern.Coord.{Coord}
use Rattle.answers.proofs.CellBuffers.{cell_whole, cells_put}
use Rattle.answers.proofs.cells.put_each.Goals as goal

pub loop-left-init : goal.loop-left-init
loop-left-init c =
    let cells = c.args.cells.now in
    record {
      left = omega arith;
      room = omega arith;
      within = omega arith;
      long = c.told-text;
      tail = c.tail_of-tail.ensures.tail;
      put =
          drop_all 768 c.args.text.now (omega arith)
          ∙ ap (flat_map (between c.args.before.now c.args.after.now)) (sym (drop_all (length cells) cells (omega arith)));
    }

pub loop-left-preserved : goal.loop-left-preserved
loop-left-preserved c =
    let l = c.loop-left in
    let kept = l.invariant in
    let cells = c.args.cells.now in
    let none : Coord = record { row = 0; column = 0 } in
    let k = l.left - 1 in
    let cell = get_or cells k none in
    let next : l.left ≡ k + 1 = omega arith in
    let f = between c.args.before.now c.args.after.now in
    let spelled = c.renew_tail.ensures.tail.text ∙ ap (λ r. 44 ∷ (numeral r ++ c.args.after.now)) c.renew_tail.ensures.row in
    record {
      left = let h = kept.left in omega arith;
      room = let h = kept.left in let r = kept.room in omega arith;
      within = let w = kept.within in omega arith;
      long = c.put_cell-at.ensures.len ∙ kept.long;
      tail = c.renew_tail.ensures.tail;
      put =
          c.put_cell-at.ensures.put ∙ cell_whole c.args.before.now c.args.after.now _ _ cell spelled
          ∙ ap (λ r. f cell ++ r) (kept.put ∙ ap (λ n. flat_map f (drop n cells)) next)
          ∙ cells_put f cells k none (let h = kept.left in omega arith);
    }
