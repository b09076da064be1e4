-- Pushes lead from each source to the cell of the hub, and from there to each target.
use Rattle.std.proofs.Common.{◌∙◌}
use Rattle.cellset.proofs.ReadingOrder.{cell_on}
use Rattle.maker.proofs.Hubs.{floods_link}
use Rattle.maker.proofs.zones.hub.Hub.move_to.Goals as goal

pub returns : goal.returns
returns g c =
    let level = c.args.board.now in
    let room = c.room_rows-room.ensures.members in
    let (from, is_from, pushed) = c.flood.ensures.exact in
    let (to, is_to, pulled) = c.flood-2.ensures.exact in
    record {
      sources_on = c.flood-2.ensures.extent ∙ c.requires.extents.0;
      targets_on = c.flood.ensures.extent ∙ c.requires.extents.1;
      linked = floods_link level c.room_rows-room.ensures.formed c.args.cell from to _ _ is_from (rw room at pushed) is_to (rw room at pulled);
      from_on = rw c.shape.ensures.value at (cell_on c.shape.result _ _ c.cell-self.ensures);
    }
