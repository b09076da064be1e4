-- Each turn adds the cells of 64 columns to each of the four sets: the bits of its word are the columns whose character is of the kind
-- (`row_word` in `RowBytes.antt`, `part_added` in `Drawing.antt`). All bits are of columns of the row, so their cells are on the grid
-- (`word_on`). The row ends in the part that has its line feed, or right after the last part. Then every column of the row is added, and no
-- other row has changed (`row_drawn`). The walls that are added are taken from the floor.
use Rattle.std.proofs.Common.{◌+◌, ◌*◌, ◌<◌, length, refl, ◌∙◌, arith}
use Rattle.board.specs.Characters.{is_wall, is_player, is_box, is_goal}
use Rattle.board.specs.Lines.{first_row}
use Rattle.board.proofs.Drawing.{word_on, part_added, row_drawn, rows_more}
use Rattle.board.proofs.RowBytes.{next_in_part, next_past_parts, row_word, seen_more, short_row}
use Rattle.board.proofs.parts.draw_row.Goals as goal

pub insert_row-requires : goal.insert_row-requires
insert_row-requires g c =
    let was = c.loop-part.invariant in
    word_on is_wall refl (first_row c.args.text.now) c.args.row c.loop-part.part _ _ _ (was.rows.wall ∙ was.shape) c.requires.high c.requires.wide
    (row_word is_wall refl refl c.args.text.now c.requires.some c.loop-part.part c.loop-part.from _ c.kinds_from-kinds.result c.lead-lead.ensures was.from was.before c.kinds_from-kinds.ensures _ c.kinds_from-kinds.ensures.wall)

pub insert_row-requires-in-loop-part : goal.insert_row-requires-in-loop-part
insert_row-requires-in-loop-part g c =
    let was = c.loop-part.invariant in
    word_on is_goal refl (first_row c.args.text.now) c.args.row c.loop-part.part _ _ _ (was.rows.goal ∙ was.shape) c.requires.high c.requires.wide
    (row_word is_goal refl refl c.args.text.now c.requires.some c.loop-part.part c.loop-part.from _ c.kinds_from-kinds.result c.lead-lead.ensures was.from was.before c.kinds_from-kinds.ensures _ c.kinds_from-kinds.ensures.goal)

pub insert_row-requires-in-loop-part-2 : goal.insert_row-requires-in-loop-part-2
insert_row-requires-in-loop-part-2 g c =
    let was = c.loop-part.invariant in
    word_on is_box refl (first_row c.args.text.now) c.args.row c.loop-part.part _ _ _ (was.rows.box ∙ was.shape) c.requires.high c.requires.wide
    (row_word is_box refl refl c.args.text.now c.requires.some c.loop-part.part c.loop-part.from _ c.kinds_from-kinds.result c.lead-lead.ensures was.from was.before c.kinds_from-kinds.ensures _ c.kinds_from-kinds.ensures.box)

pub insert_row-requires-in-loop-part-3 : goal.insert_row-requires-in-loop-part-3
insert_row-requires-in-loop-part-3 g c =
    let was = c.loop-part.invariant in
    word_on is_player refl (first_row c.args.text.now) c.args.row c.loop-part.part _ _ _ (was.rows.player ∙ was.shape) c.requires.high c.requires.wide
    (row_word is_player refl refl c.args.text.now c.requires.some c.loop-part.part c.loop-part.from _ c.kinds_from-kinds.result c.lead-lead.ensures was.from was.before c.kinds_from-kinds.ensures _ c.kinds_from-kinds.ensures.player)

pub returns-then-kinds-lt64-clause-next : goal.returns-then-kinds-lt64-clause-next
returns-then-kinds-lt64-clause-next g c =
    let is = c.kinds_from-kinds.ensures in
    next_in_part c.args.text.now c.requires.some c.loop-part.from c.kinds_from-kinds.result.count _ c.loop-part.invariant.before is.before (is.feed c.if-kinds-lt64.true)
    c.min.ensures

pub returns-then-kinds-lt64-clause-rows : goal.returns-then-kinds-lt64-clause-rows
returns-then-kinds-lt64-clause-rows g c =
    let was = c.loop-part.invariant in
    rows_more g.S.CellSet.extent g.S.CellSet.members c.loop-part.parts _ _ _ _ _ _ _ was.rows c.insert_row.ensures.extent c.insert_row-in-loop-part.ensures.extent
    c.insert_row-in-loop-part-2.ensures.extent c.insert_row-in-loop-part-3.ensures.extent c.insert_row.ensures.members c.remove_row.ensures.extent c.remove_row.ensures.members

pub returns-then-kinds-lt64-clause-drawn : goal.returns-then-kinds-lt64-clause-drawn
returns-then-kinds-lt64-clause-drawn g c = λ done at s.
    let text = c.args.text.now in
    let line = first_row text in
    let was = c.loop-part.invariant in
    let is = c.kinds_from-kinds.ensures in
    let short = short_row text c.requires.some c.loop-part.from c.kinds_from-kinds.result.count was.before is.before (is.feed c.if-kinds-lt64.true) in
    let long : length line < 64 * (c.loop-part.part + 1) = omega (arith, was.from, c.if-kinds-lt64.true) in
    record {
      wall = row_drawn is_wall refl done line c.args.row (c.loop-part.part + 1) _ _ at long s.wall
          (part_added is_wall refl line c.args.row c.loop-part.part _ _ _ _ (row_word is_wall refl refl text c.requires.some c.loop-part.part c.loop-part.from _ c.kinds_from-kinds.result c.lead-lead.ensures was.from was.before is _ is.wall) c.insert_row.ensures.members was.wall);
      goal = row_drawn is_goal refl done line c.args.row (c.loop-part.part + 1) _ _ at long s.goal
          (part_added is_goal refl line c.args.row c.loop-part.part _ _ _ _ (row_word is_goal refl refl text c.requires.some c.loop-part.part c.loop-part.from _ c.kinds_from-kinds.result c.lead-lead.ensures was.from was.before is _ is.goal) c.insert_row-in-loop-part.ensures.members was.goal);
      box = row_drawn is_box refl done line c.args.row (c.loop-part.part + 1) _ _ at long s.box
          (part_added is_box refl line c.args.row c.loop-part.part _ _ _ _ (row_word is_box refl refl text c.requires.some c.loop-part.part c.loop-part.from _ c.kinds_from-kinds.result c.lead-lead.ensures was.from was.before is _ is.box) c.insert_row-in-loop-part-2.ensures.members was.box);
      player = row_drawn is_player refl done line c.args.row (c.loop-part.part + 1) _ _ at long s.player
          (part_added is_player refl line c.args.row c.loop-part.part _ _ _ _ (row_word is_player refl refl text c.requires.some c.loop-part.part c.loop-part.from _ c.kinds_from-kinds.result c.lead-lead.ensures was.from was.before is _ is.player) c.insert_row-in-loop-part-3.ensures.members was.player);
    }

pub loop-part-preserved : goal.loop-part-preserved
loop-part-preserved g c =
    let text = c.args.text.now in
    let line = first_row text in
    let was = c.loop-part.invariant in
    let is = c.kinds_from-kinds.ensures in
    let more = seen_more text c.loop-part.from c.kinds_from-kinds.result.count c.lead-lead.result was.within was.before is.before c.if-kinds-lt64.false in
    record {
      from = omega (arith, was.from, c.lead-lead.ensures);
      within = more.0;
      before = more.1;
      shape = was.shape;
      rows = rows_more g.S.CellSet.extent g.S.CellSet.members c.loop-part.parts _ _ _ _ _ _ _ was.rows c.insert_row.ensures.extent c.insert_row-in-loop-part.ensures.extent
          c.insert_row-in-loop-part-2.ensures.extent c.insert_row-in-loop-part-3.ensures.extent c.insert_row.ensures.members c.remove_row.ensures.extent c.remove_row.ensures.members;
      wall = part_added is_wall refl line c.args.row c.loop-part.part _ _ _ _ (row_word is_wall refl refl text c.requires.some c.loop-part.part c.loop-part.from _ c.kinds_from-kinds.result c.lead-lead.ensures was.from was.before is _ is.wall) c.insert_row.ensures.members was.wall;
      goal = part_added is_goal refl line c.args.row c.loop-part.part _ _ _ _ (row_word is_goal refl refl text c.requires.some c.loop-part.part c.loop-part.from _ c.kinds_from-kinds.result c.lead-lead.ensures was.from was.before is _ is.goal) c.insert_row-in-loop-part.ensures.members was.goal;
      box = part_added is_box refl line c.args.row c.loop-part.part _ _ _ _ (row_word is_box refl refl text c.requires.some c.loop-part.part c.loop-part.from _ c.kinds_from-kinds.result c.lead-lead.ensures was.from was.before is _ is.box) c.insert_row-in-loop-part-2.ensures.members was.box;
      player = part_added is_player refl line c.args.row c.loop-part.part _ _ _ _ (row_word is_player refl refl text c.requires.some c.loop-part.part c.loop-part.from _ c.kinds_from-kinds.result c.lead-lead.ensures was.from was.before is _ is.player) c.insert_row-in-loop-part-3.ensures.members was.player;
    }

pub returns-clause-next : goal.returns-clause-next
returns-clause-next g c =
    let was = c.loop-part.invariant in
    rw c.past_end.ensures (next_past_parts c.args.text.now c.requires.some c.loop-part.from was.within was.before (omega (arith, was.from, c.requires.wide)))

pub returns-clause-drawn : goal.returns-clause-drawn
returns-clause-drawn g c = λ done at s.
    let line = first_row c.args.text.now in
    let drawn = c.loop-part.invariant in
    let long : length line < 64 * c.loop-part.part = omega (arith, c.requires.wide) in
    record {
      wall = row_drawn is_wall refl done line c.args.row c.loop-part.part _ _ at long s.wall drawn.wall;
      goal = row_drawn is_goal refl done line c.args.row c.loop-part.part _ _ at long s.goal drawn.goal;
      box = row_drawn is_box refl done line c.args.row c.loop-part.part _ _ at long s.box drawn.box;
      player = row_drawn is_player refl done line c.args.row c.loop-part.part _ _ at long s.player drawn.player;
    }
