-- Open pushes as contracts see them: a grid, and pushes of boxes on it.
use Rattle.std.specs.Prelude.{◌≡◌, ℕ, ◌+◌, ◌*◌, ◌<◌, zero, suc, List, length, slice_index_or, refl}
use Rattle.std.specs.Coded.{Coded, code_by, coded×, coded_ℕ, coded_list}
use Rattle.cellset.specs.{Shape.Extent, Cell.IsOn, Cell.neighbor, Cell.opposite, Coding.coded_cell, SortedList.index}
use Rattle.cellset.specs.{declared.cell.Cell.Cell, declared.dir.Dir.Dir}
use Rattle.cellset.specs.declared.dir.Dir.TheVariants.{L, U, R, D}
use Rattle.reach.specs.{Pushes.dir_rank, declared.pushes.Push.Push}

pub record OpenPushes : Type 0 where
  pub extent : Extent
  pub pushes : List Push

-- the push moves the box on the cell in the direction
pub record IsThat (from : Cell) (dir : Dir) (push : Push) : Type 0 where
  pub cell : push.from ≡ from
  pub way : push.dir ≡ dir

-- the player comes from behind the box, which goes to the next cell
pub record IsStep (push : Push) : Type 0 where
  pub player : push.player ≡ neighbor push.from (opposite push.dir)
  pub to : push.to ≡ neighbor push.from push.dir

-- where the number of the push of a box in a direction is kept
abbrev pub key : Extent → Cell → Dir → ℕ
key shape from dir = 4 * index shape from + dir_rank dir

-- a push of a box on the grid, whose number is kept
pub record IsNumbered (shape : Extent) (numbers : List ℕ) (n : ℕ) (push : Push) : Type 0 where
  pub on : IsOn shape push.from
  pub step : IsStep push
  pub number : slice_index_or numbers (key shape push.from push.dir) 0 ≡ n

-- the number of each push is kept
pub record AreNumbered (shape : Extent) (pushes : List Push) (numbers : List ℕ) : Type 0 where
  pub long : length numbers ≡ 4 * (shape.width * shape.height)
  pub each : (n : ℕ) (d : Push) → n < length pushes → IsNumbered shape numbers n (slice_index_or pushes n d)

-- the codings as numbers, which a model needs
abbrev pub dir_at : ℕ → Dir
dir_at zero = L
dir_at (suc zero) = U
dir_at (suc (suc zero)) = R
dir_at (suc (suc (suc _))) = D

pub dir_back : (d : Dir) → dir_at (dir_rank d) ≡ d
dir_back L = refl
dir_back U = refl
dir_back R = refl
dir_back D = refl

abbrev pub coded_dir : Coded Dir
coded_dir = code_by ℕ coded_ℕ dir_rank dir_at dir_back

abbrev pub coded_push : Coded Push
coded_push = code_by ((Cell × Dir) × (Cell × Cell)) (coded× (coded× coded_cell coded_dir) (coded× coded_cell coded_cell)) (λ p. ((p.player, p.dir), (p.from, p.to)))
    (λ p. record { player = p.0.0; dir = p.0.1; from = p.1.0; to = p.1.1 }) (λ _. refl)

abbrev pub coded_open : Coded OpenPushes
coded_open = code_by ((ℕ × ℕ) × List Push) (coded× (coded× coded_ℕ coded_ℕ) (coded_list coded_push)) (λ o. ((o.extent.width, o.extent.height), o.pushes))
    (λ p. record { extent = record { width = p.0.0; height = p.0.1 }; pushes = p.1 }) (λ _. refl)
