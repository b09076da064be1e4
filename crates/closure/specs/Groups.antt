-- Groups: the lines of equal boxes. The position of a group is one pattern, of these boxes and of the seeds of all its lines.
use Rattle.std.specs.Prelude.{◌≡◌, ℕ, ◌<◌, ◌≤◌, List, [], ◌∷◌, length, slice_index, cond, nat_eq}
use Rattle.std.specs.FinSet as set
use Rattle.cellset.specs.{CellSet.Cells, CellSet.Has, declared.cell.Cell.Cell}
use Rattle.board.specs.Game.{Level}
use Rattle.certificates.specs.CellLists.{cells_in}
use Rattle.certificates.specs.Pattern.{Pattern, Seeds, whole_room, listed, seed_cells}
use Rattle.closure.specs.Chains.{AreChains}
use Rattle.closure.specs.{declared.groups.Groups.Groups, Arena.boxes_at, Arena.line_at, Arena.list_in, Arena.pattern_at}
use Rattle.closure.specs.{Spans.AreSpans, Spans.part, Spans.span_at, declared.arena.Arena.Arena, declared.arena.Span.Span}

-- `of` has the group of each of the first n lines, and `spans` the boxes of each group, which are the boxes of one of these lines
pub record AreGroups (arena : Arena) (of : List ℕ) (spans : List Span) (n : ℕ) : Type 0 where
  pub long : length of ≡ n
  pub inside : AreSpans (length arena.boxes.items) spans
  pub first : (g : ℕ) → g < length spans → (j : ℕ) × (j < n) × (slice_index of j ≡ g) × (span_at spans g ≡ (line_at arena j).boxes)
  pub into : (j : ℕ) → j < n → slice_index of j < length spans
  pub same : (j : ℕ) → j < n → part arena.boxes.items (span_at spans (slice_index of j)) ≡ boxes_at arena j

abbrev pub list_of : Groups → List Pattern
list_of groups = list_in groups.arena

abbrev pub boxes_of : Groups → ℕ → List Cell
boxes_of groups g = part groups.arena.boxes.items (span_at groups.spans.items g)

-- all lines are grouped, and chained by their groups
pub record IsGrouped (groups : Groups) : Type 0 where
  pub all : AreGroups groups.arena groups.of.items groups.spans.items (length groups.arena.lines.items)
  pub chained : AreChains groups.of.items (length groups.spans.items) groups.chains.first.items groups.chains.next.items

-- the fact holds of the pattern of some line of the group
pub record HasLine (groups : Groups) (g : ℕ) (P : Pattern → Type 0) : Type 0 where
  pub line : ℕ
  pub within : line < length groups.arena.lines.items
  pub grouped : slice_index groups.of.items line ≡ g
  pub fact : P (pattern_at (list_of groups) line)

-- the seeds of the patterns that have this number
unfoldable pub seeds_with : Level → ℕ → List Pattern → List ℕ → Cells
seeds_with level g [] of = set.empty
seeds_with level g (p ∷ ps) [] = set.empty
seeds_with level g (p ∷ ps) (k ∷ of) = set.union (cond (nat_eq k g) (seed_cells level p.boxes p.seeds) set.empty) (seeds_with level g ps of)

-- the position of a group: the pattern of its boxes and of the seeds of all its lines
abbrev pub position_at : Level → Groups → ℕ → Pattern
position_at level groups g = record { boxes = cells_in (boxes_of groups g); seeds = listed (seeds_with level g (list_of groups) groups.of.items) }

-- the line lists seeds, and the fact holds of each of them
abbrev pub SeedsAreIn : Seeds → (Cell → Type 0) → Type 0
SeedsAreIn whole_room P = ⊥
SeedsAreIn (listed cells) P = (c : Cell) → Has cells c → P c

-- the seeds have the cell; `*` has every cell
abbrev pub IsSeed : Seeds → Cell → Type 0
IsSeed whole_room c = Unit {0}
IsSeed (listed cells) c = Has cells c

-- the cell is a seed of a line of the group
abbrev pub IsSeedOf : Groups → ℕ → Cell → Type 0
IsSeedOf groups g c = HasLine groups g (λ p. IsSeed p.seeds c)

-- a line of the group says `*`
abbrev pub HasStar : Groups → ℕ → Type 0
HasStar groups g = HasLine groups g (λ p. p.seeds ≡ whole_room)

-- the region has the free seeds of each line of the group from this one on
abbrev pub HasSeedsFrom : (Cell → Type 0) → (Cell → Type 0) → Groups → ℕ → ℕ → Type 0
HasSeedsFrom Free Region groups g from =
    (j : ℕ) → from ≤ j → j < length groups.arena.lines.items → slice_index groups.of.items j ≡ g → SeedsAreIn (pattern_at (list_of groups) j).seeds (λ c. Free c → Region c)

-- each cell of the region is a free seed of the group
abbrev pub HasSeedsOnly : (Cell → Type 0) → (Cell → Type 0) → Groups → ℕ → Type 0
HasSeedsOnly Free Region groups g = (c : Cell) → Region c → Free c × IsSeedOf groups g c
