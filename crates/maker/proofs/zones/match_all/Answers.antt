-- The invariant says that the boxes handled so far are the first boxes of the board, and that the table is a matching of them. At the start
-- there are none, and the table matches nothing. If `match_box` succeeds, the invariant holds with the next box. If it fails, its Hall
-- violator is the least zone, because the next box is the first one that can't be matched. After the last box all boxes are matched, and
-- then no closed set refutes the level.
use Rattle.cellset.proofs.MemberLists.{next_has, next_came}
use Rattle.maker.proofs.Matchings.{matched_none, matched_more, matched_end, violator_here, pairs_none}
use Rattle.maker.proofs.zones.match_all.Goals as goal

pub loop-cell-init : goal.loop-cell-init
loop-cell-init g c =
    let level = c.args.board.now in
    record {
      can_next = tt;
      is_finite = tt;
      all = rw c.into_iter-cell-iterator.ensures.into_iter_gives (rw (c.boxes.ensures.members, c.boxes.ensures.extent) at c.new-cell-items.ensures);
      ready = c.requires.ready;
      matching = c.requires.matching;
      so_far = matched_none level c.args.matching.now.table.items (pairs_none level.shape c.args.matching.now.table.items c.requires.unmatched);
    }

pub match_box-requires : goal.match_box-requires
match_box-requires g c =
    let level = c.args.board.now in
    let inv = c.loop-cell.invariant in
    let whole = rw c.in-Some.ensures.steps at inv.all in
    record {
      ready = inv.ready;
      matching = inv.matching;
      valid = (inv.so_far.matched, inv.so_far.valid);
      start = (next_has c.loop-cell.yielded c.next.new.self c.in-Some.cell whole).0;
    }

pub returns-then-not-match_box-clause-exact : goal.returns-then-not-match_box-clause-exact
returns-then-not-match_box-clause-exact g c =
    let level = c.args.board.now in
    let whole = rw c.in-Some.ensures.steps at c.loop-cell.invariant.all in
    violator_here level c.loop-cell.yielded c.next.new.self c.in-Some.cell c.loop-cell.matching.table.items whole c.loop-cell.invariant.so_far
    c.match_box.new.search.visited.members c.if-not-match_box.ensures.exact

pub loop-cell-preserved : goal.loop-cell-preserved
loop-cell-preserved g c =
    let level = c.args.board.now in
    let whole = rw c.in-Some.ensures.steps at c.loop-cell.invariant.all in
    record {
      can_next = tt;
      is_finite = tt;
      all = next_came c.loop-cell.yielded c.next.new.self c.in-Some.cell whole;
      ready = c.match_box.ensures.ready;
      matching = c.match_box.ensures.matching;
      so_far = matched_more level c.loop-cell.yielded c.next.new.self c.in-Some.cell c.loop-cell.matching.table.items whole c.loop-cell.invariant.so_far
          c.match_box.new.matching.table.items c.if-not-match_box.ensures.exact;
    }

pub returns-clause-exact : goal.returns-clause-exact
returns-clause-exact g c =
    let level = c.args.board.now in
    matched_end level c.loop-cell.matching.table.items c.loop-cell.yielded (rw c.in-None.ensures.steps.0 at c.loop-cell.invariant.all) c.loop-cell.invariant.so_far
