-- What chains of steps reach, and three kinds of step.
--     Reached Leads IsSeed      reached from a seed by a chain of steps
--     IsClosedUnder Leads Cells      no step leads out of the cells
--     WalksTo, PullsTo, PushesTo      one step from a cell to another one, by what is free
use Rattle.std.specs.Prelude.{◌≡◌, ℕ, ◌+◌, ◌-◌, ◌≤◌, ◌⊎◌}
use Rattle.reach.specs.Bits.{IsFilled}
use Rattle.cellset.specs.Cell.{neighbor, opposite}
use Rattle.cellset.specs.declared.cell.Cell.{Cell}
use Rattle.cellset.specs.declared.dir.Dir.{Dir}

-- a chain of steps leads from a seed to the cell
pub data Reached (Leads : Cell → Cell → Type 0) (IsSeed : Cell → Type 0) : Cell → Type 0 where
  at_seed : {c : Cell} → IsSeed c → Reached Leads IsSeed c
  by_step : {c : Cell} (b : Cell) → Reached Leads IsSeed b → Leads b c → Reached Leads IsSeed c

-- no step leads out of the cells
abbrev pub IsClosedUnder : (Cell → Cell → Type 0) → (Cell → Type 0) → Type 0
IsClosedUnder Leads Cells = (b c : Cell) → Cells b → Leads b c → Cells c

-- a walk leads to a free neighbour
pub record WalksTo (IsFree : Cell → Type 0) (b c : Cell) : Type 0 where
  pub dir : Dir
  pub next : c ≡ neighbor b dir
  pub free : IsFree c

-- a pull leads to a neighbour from which a push brings a box back to the cell; the player starts on the neighbour's far side
pub record PullsTo (IsFree : Cell → Type 0) (b c : Cell) : Type 0 where
  pub dir : Dir
  pub next : b ≡ neighbor c dir
  pub behind : IsFree (neighbor c (opposite dir))
  pub ahead : IsFree b

-- a push leads to the neighbour to which a player on the opposite side of the cell pushes a box
pub record PushesTo (IsFree : Cell → Type 0) (b c : Cell) : Type 0 where
  pub dir : Dir
  pub next : c ≡ neighbor b dir
  pub behind : IsFree (neighbor b (opposite dir))
  pub ahead : IsFree c

-- the columns before and after the column are free
abbrev pub IsBetween : (ℕ → Type 0) → ℕ → Type 0
IsBetween IsFree k = (1 ≤ k) × IsFree (k - 1) × IsFree (k + 1)

-- the column is beside one that lies between two free ones and that a run of such columns joins to a seed
abbrev pub IsMoved : (ℕ → Type 0) → (ℕ → Type 0) → ℕ → Type 0
IsMoved IsFree Seed k = (j : ℕ) × IsFilled (IsBetween IsFree) Seed j × IsBetween IsFree j × ((k ≡ j + 1) ⊎ (k + 1 ≡ j))
