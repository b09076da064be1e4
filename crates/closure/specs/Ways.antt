-- The directions in which a box can be pushed.
use Rattle.std.specs.Prelude.{Bool, IsTrue, ◌↔◌}
use Rattle.cellset.specs.{Bits.bit, Cell.neighbor, Cell.opposite, declared.cell.Cell.Cell, declared.dir.Dir.Dir}
use Rattle.cellset.specs.declared.dir.Dir.TheVariants.{L, U, R, D}
use Rattle.closure.specs.declared.ways.Ways.{Ways}

-- whether a push goes in the direction
abbrev pub goes : Ways → Dir → Bool
goes w L = bit w.bits 0
goes w U = bit w.bits 1
goes w R = bit w.bits 2
goes w D = bit w.bits 3

-- the directions in which a player in the region can push a box on the cell to a free cell
abbrev pub AreWays : (Cell → Type 0) → (Cell → Type 0) → Cell → Ways → Type 0
AreWays Region Free c w = (d : Dir) → IsTrue (goes w d) ↔ (Region (neighbor c (opposite d)) × Free (neighbor c d))
