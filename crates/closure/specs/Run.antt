-- What pushes lead to.
use Rattle.cellset.specs.CellSet.{Cells}
use Rattle.reach.specs.declared.pushes.Push.{Push}
use Rattle.board.specs.Game.{State, moved}

-- the state after a push of one of the boxes
abbrev pub state_after : Cells → Push → State
state_after boxes push = record { player = push.from; boxes = moved boxes push.from push.to }
