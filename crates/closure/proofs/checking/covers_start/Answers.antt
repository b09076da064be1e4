-- The player of the start is in the room. If no box of the start is on the trap, the groups are asked.
use Rattle.std.proofs.{Common.refl, Common.arith, lemmas.Bool.false≢true}
use Rattle.board.specs.Game.{start}
use Rattle.closure.specs.Groups.{list_of}
use Rattle.closure.proofs.{Grouped.covered_of_group, InBuckets.no_group_covers, Traps.start_trapped}
use Rattle.closure.proofs.checking.covers_start.Goals as goal

pub returns-then-meets : goal.returns-then-meets
returns-then-meets g c = (
  λ _.
      let met = c.if-meets.ensures in
      start_trapped c.args.tables.now.board.now c.requires.formed (list_of c.args.tables.now.groups) c.args.tables.now.trap c.requires.trap met.0 met.2
      (rw c.boxes-boxes.ensures.members at met.1),
  λ _. refl,
)

pub returns-then-is_covering : goal.returns-then-is_covering
returns-then-is_covering g c = (
  λ _. covered_of_group c.args.tables.now.board.now c.args.tables.now.groups c.requires.grouped (start c.args.tables.now.board.now) c.loop-group.group
      (rw (c.player-player.ensures.value, c.boxes-boxes.ensures.members) at (c.is_covering.ensures.0 c.if-is_covering.true)),
  λ _. refl,
)

pub returns : goal.returns
returns g c = (
  λ h. absurd (false≢true h),
  λ covered. absurd (no_group_covers c.args.tables.now c.requires (start c.args.tables.now.board.now)
      (λ k covers.
      let low = covers.0 in
      let end = c.loop-group-test.false in
      let count = c.len-group-end.ensures in
      c.loop-group.invariant.none k (omega arith) covers)
      covered),
)
