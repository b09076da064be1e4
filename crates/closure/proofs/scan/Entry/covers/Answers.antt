use Rattle.cellset.specs.Cell.{IsOn}
use Rattle.certificates.proofs.CellLists.{each_in}
use Rattle.closure.proofs.scan.Entry.covers.Goals as goal

pub are_in-requires : goal.are_in-requires
are_in-requires g c = λ q has.
    rw (c.requires.boxes, ← c.self.view_is) (each_in (IsOn c.self.inside.shape) c.self.inside.boxes.items c.self.invariant.0 q (rw c.deref.ensures.value at has))
