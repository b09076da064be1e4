-- The invariant says that the free cells are the room without the boxes so far, and that they are in one component if `whole` still holds. The
-- room is in one component at the start. If the free neighbours of a box are joined without it, the free cells stay in one component when it is
-- taken out (`one_component_without` in `Components.antt`). If that isn't sure, `whole` is false from then on and claims nothing.
use Rattle.std.proofs.{Common.sym, Common.◌∙◌, Common.inl, Common.arith, lemmas.Bool.false≢true}
use Rattle.cellset.{specs.CellSet.Has, proofs.Members.inserted, proofs.Members.kept_by_insert, proofs.Members.lacks_where, proofs.Members.not_both}
use Rattle.certificates.proofs.CellLists.{over_cells}
use Rattle.closure.proofs.Components.{one_component_without}
use Rattle.closure.proofs.group_regions.Flood.take_out.Goals.{then-self, else-self}
use Rattle.closure.proofs.group_regions.Flood.take_out.Goals as goal

pub loop-cell-preserved : goal.loop-cell-preserved
loop-cell-preserved c =
    let inv = c.loop-cell.invariant in
    record {
      region = inv.region;
      extent = c.remove.ensures.extent ∙ inv.extent;
      whole = elim c.if-self.branch [
        | then-self w ↦ λ joined. one_component_without (Has c.loop-cell.self.free.members) (Has c.remove.new.self.members) _ c.args.self.now.free.extent
            (λ q has. c.requires.on q (inl ((inv.free q).0 has).0)) c.remove.ensures.members
            (w.are_sides_joined-self.ensures (sym w.self-is ∙ joined)) (inv.whole w.if-self.true)
        | else-self w ↦ λ joined. absurd (false≢true (sym w.if-self.false ∙ (sym w.self-is ∙ joined)))
      ];
      free = grind (arith, over_cells, inserted, kept_by_insert, lacks_where, not_both);
    }
