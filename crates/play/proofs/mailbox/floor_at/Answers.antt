-- Beyond the last row or column of the grid there is no floor, so no bit is set.
use Rattle.std.proofs.Common.{ℕ, arith}
use Rattle.std.specs.Prelude.{◌↔◌}
use Rattle.cellset.specs.CellSet.{Cells, Has}
use Rattle.cellset.specs.RowBits.{row_cell, IsRowOf}
use Rattle.cellset.specs.declared.cell.Cell.{Cell}
use Rattle.cellset.proofs.Members.{lacks_where}
use Rattle.cellset.proofs.WordLoops.{zero_bit}
use Rattle.board.specs.Game.{Level, IsFloor}
use Rattle.play.proofs.mailbox.floor_at.Goals as goal
use Rattle.play.proofs.mailbox.floor_at.Goals.{then-row-height-via-then-row-height, then-row-height-via-else-row-height+then-part-width}

no_floor : (level : Level) (floor : Cells) (row part : ℕ) → ((c : Cell) → Has floor c ↔ IsFloor level c)
    → ((k : ℕ) → IsFloor level (row_cell row part k) → ⊥) → IsRowOf floor row part 0
no_floor level floor row part is none k small = grind (arith, zero_bit, lacks_where)

pub returns-then-row-height : goal.returns-then-row-height
returns-then-row-height g c =
    let level = c.args.board.now in (
      c.floor-floor.result.now.members,
      c.floor-floor.ensures.members,
      no_floor level c.floor-floor.result.now.members c.args.row c.args.part c.floor-floor.ensures.members (λ k floor.
          grind (arith, then-row-height-via-then-row-height, then-row-height-via-else-row-height+then-part-width)),
    )
