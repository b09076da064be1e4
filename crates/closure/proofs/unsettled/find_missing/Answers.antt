-- The invariant says that each box so far is there, or that one isn't and each other that isn't there is the same cell.
use Rattle.std.proofs.Common.{arith}
use Rattle.std.proofs.lemmas.Bool.{false≢true}
use Rattle.std.proofs.lemmas.List.{get_or_default}
use Rattle.cellset.{proofs.Members.lacks_where}
use Rattle.certificates.proofs.CellLists.{in_list, no_cell}
use Rattle.cellset.proofs.CellLists.{has_listed}
use Rattle.closure.proofs.unsettled.find_missing.Goals as goal

pub returns-then-not-is_same : goal.returns-then-not-is_same
returns-then-not-is_same c = grind (arith, in_list, no_cell, lacks_where, false≢true)

pub returns-in-None-missing : goal.returns-in-None-missing
returns-in-None-missing c = grind (arith, has_listed, get_or_default, no_cell)

pub returns-in-Some-missing : goal.returns-in-Some-missing
returns-in-Some-missing c = (grind (arith, in_list, no_cell), grind arith, grind (arith, has_listed, get_or_default, no_cell))
