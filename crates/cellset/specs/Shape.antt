-- The shape of a grid. Columns run from 1 to its width, rows from 1 to its height.
use Rattle.std.specs.Prelude.{ℕ, ◌≤◌}

-- the largest side of a grid
abbrev pub largest_side : ℕ
largest_side = 255

-- how many columns and how many rows a grid has
pub record Extent : Type 0 where
  pub width : ℕ
  pub height : ℕ

-- neither side is 0 or above the largest
pub record HasSides (width height : ℕ) : Type 0 where
  pub wide : 1 ≤ width
  pub not_too_wide : width ≤ largest_side
  pub high : 1 ≤ height
  pub not_too_high : height ≤ largest_side
