use Rattle.std.{proofs.Common.◌≡◌, proofs.Common.◌&&◌, proofs.Common.true, proofs.Common.rules, proofs.Common.tests, specs.Prelude.◌==◌}
use Rattle.std.proofs.lemmas.Slice.Eq.{slice_eq-Decides}
use Rattle.cellset.specs.declared.cell.Cell.{Cell}
use Rattle.certificates.proofs.Sets.{same_cell}
use Rattle.closure.proofs.groups.are_same.Goals as goal

itself : (a : Cell) → ((a.row == a.row) && (a.column == a.column)) ≡ true
itself a = search (rules, tests)

pub returns : goal.returns
returns c = search (rules, slice_eq-Decides, same_cell, itself)
