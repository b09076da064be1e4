use Rattle.std.proofs.Common.{◌≡◌, Bool, ◌&&◌, arith}
use Rattle.std.specs.Prelude.{IsTrue, ◌↔◌}
use Rattle.cellset.specs.declared.dir.Dir.TheVariants.{L, U, R, D}
use Rattle.cellset.specs.{CellSet.Cells, CellSet.Has, declared.cell.Cell.Cell}
use Rattle.reach.specs.{Rings.IsRing, declared.rings.Ring.Ring}
use Rattle.closure.specs.{Ways.AreWays, Ways.goes, declared.ways.Ways.Ways}
use Rattle.closure.proofs.group_regions.Flood.ways_at.Goals as goal

-- a way is there if the player can stand on the far side of the box and the cell ahead is free
way : {A B : Type 0} (w by to : Bool) → w ≡ (by && to) → IsTrue by ↔ A → IsTrue to ↔ B → IsTrue w ↔ (A × B)
way w by to is is_by is_to = grind arith

each : (region free : Cells) (cell : Cell) (by to : Ring) (w : Ways) → IsRing (Has region) cell by → IsRing (Has free) cell to
    → goes w L ≡ (by.right && to.left) → goes w U ≡ (by.down && to.up) → goes w R ≡ (by.left && to.right) → goes w D ≡ (by.up && to.down)
    → AreWays (Has region) (Has free) cell w
each region free cell by to w is_by is_to left up right down L = way _ _ _ left is_by.right is_to.left
each region free cell by to w is_by is_to left up right down U = way _ _ _ up is_by.down is_to.up
each region free cell by to w is_by is_to left up right down R = way _ _ _ right is_by.left is_to.right
each region free cell by to w is_by is_to left up right down D = way _ _ _ down is_by.up is_to.down

pub returns-then-whole : goal.returns-then-whole
returns-then-whole c =
    let is = c.between.ensures in
    rw c.if-whole.true (each c.args.self.now.free.members c.args.self.now.free.members c.args.cell c.ring-to.result c.ring-to.result c.between.result c.ring-to.ensures
    c.ring-to.ensures is.left is.up is.right is.down)

pub returns : goal.returns
returns c =
    let is = c.between-2.ensures in
    rw c.if-whole.false (each c.args.self.now.region.members c.args.self.now.free.members c.args.cell c.ring-by.result c.ring-to.result c.between-2.result c.ring-by.ensures
    c.ring-to.ensures is.left is.up is.right is.down)
