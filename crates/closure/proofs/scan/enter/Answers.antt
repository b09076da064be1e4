-- An entry has the cells of the boxes, and the region unless the pattern says `*`. The pattern is lawful, so its boxes lie on the grid: that is the
-- invariant of entries. With `*` the cells of the room without a box are the region, and with listed seeds the cells of the found region are,
-- where there is no box (`RegionCells.antt`). So in both cases the entry covers what its pattern covers.
use Rattle.std.{proofs.Common.◌≡◌, proofs.Common.sym, proofs.Common.◌∙◌, proofs.Common.ap, proofs.Common.inl, specs.Prelude.Some, specs.Prelude.None}
use Rattle.cellset.proofs.Truth.{either}
use Rattle.certificates.specs.CellLists.{cells_in}
use Rattle.certificates.proofs.CellLists.{in_list}
use Rattle.closure.specs.{Arena.pattern_in, Component.IsFreeOf}
use Rattle.certificates.proofs.RegionCells.{region_outside}
use Rattle.closure.proofs.Components.{room_is_one}
use Rattle.closure.proofs.scan.enter.Goals as goal
use Rattle.closure.proofs.scan.enter.Goals.{then-find_line, else-find_line+in_ok-to_set}

pub take_out-requires : goal.take_out-requires
take_out-requires g c = record {
  room = c.room_rows.ensures.extent ∙ sym c.requires.free;
  on = λ q has. rw c.requires.free (either has
      (λ room. (c.shape-shape.ensures.formed.room q (rw c.room_rows.ensures.members at room)).0)
      (λ box. c.requires.lawful.board q (inl box)));
  whole = rw c.room_rows.ensures.members (room_is_one c.args.board.now c.shape-shape.ensures.formed);
}

pub find_line-requires : goal.find_line-requires
find_line-requires g c =
    let same = c.take_out.ensures.same in
    record {
      region = rw (same.1, same.0) (c.requires.region ∙ sym c.requires.free);
      on = λ q has. rw (same.0, c.requires.free) (c.shape-shape.ensures.formed.room q (rw c.room_rows.ensures.members at ((c.take_out.ensures.free q).0 has).0)).0;
    }

pub invariant_of-result : goal.invariant_of-result
invariant_of-result g c =
    let same = c.in_ok-boxes.ensures.items_if_clones_equal (λ x y e. e) in (
      λ k d lt. rw c.shape-shape.ensures.value (c.requires.lawful.board _ (inl (rw (← same) (in_list c.in_ok-boxes.boxes.items k d lt)))),
      λ x is. elim c.if-find_line.branch [
        | then-find_line w ↦ let none : None ≡ Some x = sym w.region-is ∙ is in cc
        | else-find_line+in_ok-to_set w ↦
            let both = sym w.region-is ∙ is in
            let same : w.in_ok-to_set.field-0 ≡ x = cc in
            rw same at (w.in_ok-to_set.ensures.0 ∙ w.found.ensures.extent ∙ ap (λ r. r.extent) c.find_line.ensures.same.0 ∙ c.take_out.ensures.same.0
            ∙ c.requires.free ∙ sym c.shape-shape.ensures.value)
      ],
    )

pub returns-clause-ok : goal.returns-clause-ok
returns-clause-ok g c =
    let level = c.args.board.now in
    let formed = c.shape-shape.ensures.formed in
    let free : IsFreeOf level (cells_in c.args.pattern.boxes.now) c.take_out.new.self.free = record {
      extent = c.take_out.ensures.same.0 ∙ c.requires.free;
      members = λ q. rw c.room_rows.ensures.members at (c.take_out.ensures.free q);
    } in
    let exact = c.find_line.ensures.exact level formed c.requires.lawful free in
    record {
      extent = c.shape-shape.ensures.value;
      boxes = ap cells_in (c.in_ok-boxes.ensures.items_if_clones_equal (λ x y e. e));
      region = λ q. elim c.if-find_line.branch [
        | then-find_line w ↦
            let inside = rw (w.if-find_line.true, c.find_line.ensures.same.0) at (exact q) in
            rw w.region-is (λ both. inside.0 ((free.members q).1 both), λ there. (free.members q).0 (inside.1 there))
        | else-find_line+in_ok-to_set w ↦
            rw (w.region-is, w.in_ok-to_set.ensures.1, w.found.ensures.members)
            (region_outside level (pattern_in c.args.pattern) c.find_line.new.self.region.members q (rw w.if-find_line.false at (exact q)))
      ];
    }
