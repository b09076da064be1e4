-- The flood of a group: when none is needed, and what it finds.
use Rattle.std.specs.Prelude.{◌≡◌, ◌↔◌, ℕ}
use Rattle.cellset.specs.{Cell.neighbor, CellSet.Cells, CellSet.Has, declared.cell.Cell.Cell, declared.dir.Dir.Dir}
use Rattle.reach.specs.{Region.Joined, Reached.Reached, Reached.WalksTo}
use Rattle.closure.specs.{Groups.IsSeedOf, declared.groups.Groups.Groups}

-- chains of neighbours lead from each of these cells to each other
abbrev pub IsOneComponent : (Cell → Type 0) → Type 0
IsOneComponent Free = (x y : Cell) → Free x → Free y → Joined Free (λ seed. seed ≡ x) y

-- chains of neighbours lead from each free neighbour of the cell to each other one
abbrev pub AreSidesJoined : (Cell → Type 0) → Cell → Type 0
AreSidesJoined Free c = (d e : Dir) → Free (neighbor c d) → Free (neighbor c e) → Joined Free (λ seed. seed ≡ neighbor c d) (neighbor c e)

-- the region is what walks over free cells reach from the free seeds of a group
abbrev pub IsFlooded : Groups → ℕ → Cells → Cells → Type 0
IsFlooded groups g free region = (c : Cell) → Has region c ↔ Reached (WalksTo (Has free)) (λ s. Has free s × IsSeedOf groups g s) c
