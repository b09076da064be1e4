-- The player is at the start at first.
use Rattle.std.proofs.Common.{◌∙◌, ap, inr}
use Rattle.cellset.proofs.Truth.{either}
use Rattle.closure.proofs.{Asked.onward_asked, Grouped.boxes_on, Components.room_is_one}
use Rattle.closure.proofs.lookups.Lookups.begin.Goals as goal

pub load_rows-requires : goal.load_rows-requires
load_rows-requires g c =
    let tables = c.args.task.now.tables.now in
    let is = c.requires.task in
    λ q has. rw c.requires.are.place.extent (boxes_on tables.board.now tables.groups is.tables.lawful is.tables.grouped c.args.task.now.group is.group
    c.args.task.now.boxes.now is.boxes q has)

pub take_out-requires-clause-on : goal.take_out-requires-clause-on
take_out-requires-clause-on g c =
    let tables = c.args.task.now.tables.now in
    let is = c.requires.task in
    λ q has. rw c.requires.are.free (either has
    (λ room. (is.tables.formed.room q (rw c.room_rows.ensures.members at room)).0)
    (λ box. boxes_on tables.board.now tables.groups is.tables.lawful is.tables.grouped c.args.task.now.group is.group
    c.args.task.now.boxes.now is.boxes q box))

pub take_out-requires-clause-whole : goal.take_out-requires-clause-whole
take_out-requires-clause-whole g c =
    rw c.room_rows.ensures.members (room_is_one c.args.task.now.tables.now.board.now c.requires.task.tables.formed)

pub ask_hints-requires : goal.ask_hints-requires
ask_hints-requires g c =
    let begun = c.in_ok-begin.ensures.settling c.args.self.now.buckets in
    record { task = c.requires.task; boxes = c.load_rows.ensures.members; away = begun.away; here = begun.here }

pub returns-clause-ready : goal.returns-clause-ready
returns-clause-ready g c =
    let is = c.requires.task in
    let are = c.requires.are in
    let free = c.take_out.ensures in
    let asked = c.ask_hints.ensures in
    let begun = c.in_ok-begin.ensures.settling c.args.self.now.buckets in
    record {
      are = record {
        buckets = are.buckets;
        place = record {
          extent = c.load_rows.ensures.extent ∙ are.place.extent;
          room = rw c.player-self.ensures.value is.tables.formed.here;
        };
        free = free.same.0 ∙ are.free;
        region = ap (λ r. r.extent) free.same.1 ∙ are.region;
        away = asked.away.extent ∙ begun.away.extent;
        here = asked.here.extent ∙ begun.here.extent;
      };
      boxes = c.load_rows.ensures.members;
      free = record { extent = free.same.0 ∙ are.free; members = λ q. rw c.room_rows.ensures.members at (free.free q) };
      whole = free.whole;
      settling = (onward_asked _ c.args.self.now.buckets _ _ (c.in_ok-begin.ensures.settling c.args.self.now.buckets) asked).settling;
    }

pub returns-clause-all : goal.returns-clause-all
returns-clause-all g c = λ push out. either (c.in_ok-begin.ensures.all push out) (c.ask_hints.ensures.away.kept push) inr
