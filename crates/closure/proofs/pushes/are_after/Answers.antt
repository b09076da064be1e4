-- Each cell that the loop has passed has a box after the push: it is the pushed box's new cell, or one of the boxes that isn't on the old
-- cell. None is the old cell. At the end these are all cells.
use Rattle.std.proofs.{Common.◌≡◌, Common.◌≢◌, Common.◌<◌, Common.ℕ, Common.length, Common.get_or, Common.refl, lemmas.List.Elements.All-more}
use Rattle.std.specs.FinSet as set
use Rattle.cellset.{specs.CellSet.Has, proofs.Members.inserted, proofs.Members.kept_by_insert, proofs.Members.kept_by_remove, proofs.Members.lacks_where}
use Rattle.board.specs.Game.{moved}
use Rattle.certificates.specs.CellLists.{cell_no, cells_in}
use Rattle.certificates.proofs.CellLists.{each_of, in_list, no_cell}
use Rattle.closure.proofs.pushes.are_after.Goals as goal
use Rattle.closure.proofs.pushes.are_after.Goals.{then-number-boxes+in-Some, else-number-boxes+else-not-is_same}

pub loop-number-preserved-then-is_same-2 : goal.loop-number-preserved-then-is_same-2
loop-number-preserved-then-is_same-2 c =
    let boxes = cells_in c.args.boxes.now in
    let push = c.args.push in
    let n = c.loop-number.number in
    let lt = c.loop-number-test.true in
    record {
      stand = All-more (Has (moved boxes push.from push.to)) c.args.after.now n no_cell lt c.loop-number.invariant.stand
          (rw c.if-is_same-2.ensures (inserted (set.remove boxes push.from) push.to));
      left = All-more (λ q. q ≢ push.from) c.args.after.now n no_cell lt c.loop-number.invariant.left c.if-is_same.ensures;
    }

pub loop-number-preserved : goal.loop-number-preserved
loop-number-preserved c =
    let list = c.args.boxes.now in
    let push = c.args.push in
    let n = c.loop-number.number in
    let lt = c.loop-number-test.true in
    let at = get_or c.args.after.now n no_cell in
    let box : (n : ℕ) × (n < length list) × (cell_no list n ≡ at) = elim c.if-number-boxes.branch [
      | then-number-boxes+in-Some w ↦ (w.in-Some.found, w.in-Some.ensures.0, w.in-Some.ensures.1)
      | else-number-boxes+else-not-is_same w ↦ (n, w.if-number-boxes.false, w.if-not-is_same.ensures)
    ] in
    record {
      stand = All-more (Has (moved (cells_in list) push.from push.to)) c.args.after.now n no_cell lt c.loop-number.invariant.stand
          (kept_by_insert (set.remove (cells_in list) push.from) push.to at (kept_by_remove (cells_in list) push.from at
          c.if-is_same.ensures (rw box.2 at (in_list list box.0 no_cell box.1))));
      left = All-more (λ q. q ≢ push.from) c.args.after.now n no_cell lt c.loop-number.invariant.left c.if-is_same.ensures;
    }

pub returns-clause-there : goal.returns-clause-there
returns-clause-there c = λ _. each_of (Has (moved (cells_in c.args.boxes.now) c.args.push.from c.args.push.to)) c.args.after.now c.loop-number.number c.loop-number-test.false
    c.loop-number.invariant.stand

pub returns-clause-left : goal.returns-clause-left
returns-clause-left c = λ _. lacks_where (cells_in c.args.after.now) c.args.push.from (λ has. each_of (λ q. q ≢ c.args.push.from) c.args.after.now c.loop-number.number
    c.loop-number-test.false c.loop-number.invariant.left c.args.push.from has refl)
