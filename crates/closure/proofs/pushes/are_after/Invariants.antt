use Rattle.std.{proofs.Common.◌≢◌, proofs.Common.take, specs.List.All}
use Rattle.cellset.specs.CellSet.{Has}
use Rattle.board.specs.Game.{moved}
use Rattle.certificates.specs.CellLists.{cells_in}
use Rattle.closure.proofs.pushes.are_after.Given as goal

abbrev pub invariant-loop-number : goal.invariant-loop-number
invariant-loop-number l = record {
  stand : All (Has (moved (cells_in l.boxes) l.push.from l.push.to)) (take l.number l.after);
  left : All (λ c. c ≢ l.push.from) (take l.number l.after);
}
