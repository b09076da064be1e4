-- Each of four links joins one neighbour to the next one, by the corner between them. If the function returns true, three of them hold in a
-- row, wherever the gap is, so all neighbours are joined (`Components.antt`).
use Rattle.std.proofs.Common.{◌≡◌, Bool, true, ◌&&◌, ◌||◌, arith}
use Rattle.std.specs.Prelude.{IsTrue, ◌↔◌}
use Rattle.cellset.specs.{Cell.neighbor, CellSet.Has, declared.cell.Cell.Cell, declared.dir.Dir.Dir}
use Rattle.cellset.specs.declared.dir.Dir.TheVariants.{L, U, R, D}
use Rattle.closure.proofs.Components.{IsLinked, gap_last, gap_left, gap_right, gap_up}
use Rattle.closure.proofs.group_regions.Flood.are_sides_joined.Goals as goal

-- a link by the cells of a ring
linked : (Free : Cell → Type 0) (c : Cell) (d e : Dir) {side corner next : Bool} → IsTrue side ↔ Free (neighbor c d)
    → IsTrue corner ↔ Free (neighbor (neighbor c d) e) → IsTrue next ↔ Free (neighbor c e) → (IsTrue side → IsTrue next × IsTrue corner) → IsLinked Free c d e
linked Free c d e is_side is_corner is_next link free = grind arith

-- three links in a row, if one of four may be missing
three_links : {G : Type 0} (l u r d : Bool) → (l && u && (r || d) || (l || u) && r && d) ≡ true → (IsTrue l → IsTrue u → IsTrue r → G)
    → (IsTrue d → IsTrue l → IsTrue u → G) → (IsTrue r → IsTrue d → IsTrue l → G) → (IsTrue u → IsTrue r → IsTrue d → G) → G
three_links l u r d h last right up left = grind arith

pub returns : goal.returns
returns c =
    let Free = Has c.args.self.now.free.members in
    let inside = c.requires.free in
    let shape = c.args.self.now.free.extent in
    let ring = c.ring-ring.ensures in
    let cell = c.args.cell in
    let lu = λ (yes : IsTrue c.is_linked-left.result). linked Free cell L U ring.left ring.left_up ring.up (c.is_linked-left.ensures yes) in
    let ur = λ (yes : IsTrue c.is_linked-up.result). linked Free cell U R ring.up ring.up_right ring.right (c.is_linked-up.ensures yes) in
    let rd = λ (yes : IsTrue c.is_linked-right.result). linked Free cell R D ring.right ring.right_down ring.down (c.is_linked-right.ensures yes) in
    let dl = λ (yes : IsTrue c.is_linked-down.result). linked Free cell D L ring.down ring.down_left ring.left (c.is_linked-down.ensures yes) in
    λ joined. three_links _ _ _ _ joined
    (λ l u r. gap_last Free shape inside cell (lu l) (ur u) (rd r))
    (λ d l u. gap_right Free shape inside cell (dl d) (lu l) (ur u))
    (λ r d l. gap_up Free shape inside cell (rd r) (dl d) (lu l))
    (λ u r d. gap_left Free shape inside cell (ur u) (rd r) (dl d))
