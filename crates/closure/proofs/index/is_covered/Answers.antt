-- The invariant says that no group in the bucket of a box that came covers the state. A group that covers it has a box of the state for its
-- bucket, so once all boxes of the state have come, no group covers it. A player outside the room is in no region (`player_in_room`).
use Rattle.std.proofs.{Common.refl, Common.◌∙◌, Common.ap, Common.sym, Common.subst, Common.arith, lemmas.Bool.false≢true, lemmas.List.Elements.Contains-push_cases}
use Rattle.cellset.{specs.Cell.IsOn, proofs.Members.not_both, proofs.MemberLists.all_came, proofs.MemberLists.next_has, proofs.MemberLists.next_came, proofs.Truth.either}
use Rattle.cellset.specs.SortedList.{index}
use Rattle.closure.proofs.InBuckets.{no_group_covers, player_in_room}
use Rattle.closure.proofs.index.is_covered.Goals as goal

pub loop-cell-init : goal.loop-cell-init
loop-cell-init g c = grind arith

pub loop-cell-preserved : goal.loop-cell-preserved
loop-cell-preserved g c =
    let inv = c.loop-cell.invariant in
    let whole = rw c.in-Some.ensures.steps at inv.all in
    let found = c.if-is_covered_in_bucket.ensures in
    record {
      can_next = tt;
      is_finite = tt;
      all = next_came c.loop-cell.yielded c.next.new.self c.in-Some.cell whole;
      passed = λ q k came key. either (Contains-push_cases c.loop-cell.yielded c.in-Some.cell q came)
          (λ old. inv.passed q k old key)
          (λ here. found k (key ∙ sym (ap (index c.args.tables.now.board.now.shape) here)));
    }

pub returns-then-not-contains : goal.returns-then-not-contains
returns-then-not-contains g c = (
  λ h. absurd (false≢true h),
  λ covered.
      let inside = player_in_room c.args.tables.now c.requires.tables _ c.requires.tables.formed covered in
      absurd (not_both (g.S.CellSet.members c.room.result.now) c.args.player (rw c.room.ensures.members inside) (sym c.if-not-contains.ensures)),
)

pub returns-then-is_covered_in_bucket : goal.returns-then-is_covered_in_bucket
returns-then-is_covered_in_bucket g c =
    (λ _. c.if-is_covered_in_bucket.ensures, λ _. refl)

pub returns : goal.returns
returns g c = (
  λ h. absurd (false≢true h),
  λ covered.
      let shape = g.S.CellSet.extent c.args.boxes.now in
      let boxes = g.S.CellSet.members c.args.boxes.now in
      let whole = rw c.in-None.ensures.steps.0 at c.loop-cell.invariant.all in
      absurd (no_group_covers c.args.tables.now c.requires.tables _
      (λ k covers.
      let bucket = c.requires.buckets.each k covers.0 in
      c.loop-cell.invariant.passed bucket.cell k (((all_came shape boxes c.loop-cell.yielded whole).exact bucket.cell).1
      (covers.1.boxes bucket.cell bucket.has)) bucket.key covers)
      covered),
)

pub is_covered_in_bucket-requires-clause-cell : goal.is_covered_in_bucket-requires-clause-cell
is_covered_in_bucket-requires-clause-cell g c =
    let whole = rw c.in-Some.ensures.steps at c.loop-cell.invariant.all in
    subst (λ e. IsOn e c.in-Some.cell) c.requires.boxes (next_has c.loop-cell.yielded c.next.new.self c.in-Some.cell whole).1
