-- One breadth-first search for an augmenting path: the table of the matching, and the goals that are found.
--     table        for each cell of the grid the box matched to the goal there, or none
--     visit        a found goal: the first box can be pushed to it, or the box matched to the goal of an earlier visit
--     listing      the visited cells are floor, and no push leads out of them; each goal among them is found, once, and the others are left
--     search       a listing in which an alternating path leads to each found goal, and every set that confines the paths has the visited cells
use Rattle.std.specs.Prelude.{◌≡◌, ◌≢◌, ℕ, ◌+◌, ◌*◌, ◌<◌, ◌≤◌, ◌⊎◌, Option, None, Some, List, length, vec_capacity, slice_index_or}
use Rattle.std.specs.FinSet as set
use Rattle.cellset.specs.Shape.{Extent}
use Rattle.cellset.specs.Cell.{IsOn, cell_at}
use Rattle.cellset.specs.CellSet.{Cells, Has, Lacks}
use Rattle.cellset.specs.SortedList.{index}
use Rattle.cellset.specs.declared.cell.Cell.{Cell}
use Rattle.reach.specs.Reached.{IsClosedUnder, PushesTo}
use Rattle.board.specs.Game.{Level, IsFloor}
use Rattle.maker.specs.Matching.{InReach, IsMatching, ConfinesPaths}
use Rattle.maker.specs.declared.zones.search.Visit.{Visit}
use Rattle.maker.specs.declared.zones.search.Search.{Search}

-- ---- the table
-- the table matches goal g to box b
pub record Pairs (shape : Extent) (matching : List (Option Cell)) (g b : Cell) : Type 0 where
  pub on : IsOn shape g
  pub entry : slice_index_or matching (index shape g) None ≡ Some b

-- the table has an entry for each cell of the grid
abbrev pub HasEntries : Extent → List (Option Cell) → Type 0
HasEntries shape matching = length matching ≡ shape.width * shape.height

-- the table matches the goal to a box
abbrev pub IsPaired : Extent → List (Option Cell) → Cell → Type 0
IsPaired shape matching g = (b : Cell) × Pairs shape matching g b

-- ---- the visits
-- the visit that is read at an index past the end of the list, at no cell of the grid
abbrev pub no_visit : Visit
no_visit = record { cell = cell_at 0 0; via = None }

-- visit i of the list
abbrev pub visit_at : List Visit → ℕ → Visit
visit_at found i = slice_index_or found i no_visit

-- the goal of visit i of the list
abbrev pub cell_visited : List Visit → ℕ → Cell
cell_visited found i = (visit_at found i).cell

-- an alternating path leads to the cell of visit i: it is in the reach of the box `start`, or of the box matched to the goal of an
-- earlier visit
abbrev pub IsTraced : Level → List (Option Cell) → Cell → List Visit → ℕ → Cell → Option ℕ → Type 0
IsTraced level matching start found i c None = InReach level start c
IsTraced level matching start found i c (Some j) = (j < i) × (b : Cell) × Pairs level.shape matching (cell_visited found j) b × InReach level b c

-- alternating paths lead to the found goals, which are on the grid, each once
pub record AreTraced (level : Level) (matching : List (Option Cell)) (start : Cell) (found : List Visit) : Type 0 where
  pub on : (i : ℕ) → i < length found → IsOn level.shape (cell_visited found i)
  pub once : (i j : ℕ) → i < j → j < length found → cell_visited found i ≢ cell_visited found j
  pub traced : (i : ℕ) → i < length found → IsTraced level matching start found i (cell_visited found i) (visit_at found i).via

-- the goal is found
abbrev pub IsFound : List Visit → Cell → Type 0
IsFound found g = (i : ℕ) × (i < length found) × (cell_visited found i ≡ g)

-- each goal is found, once, or left
pub record AreListed (goals : Cells) (found : List Visit) (left : Cells) : Type 0 where
  pub rest : (g : Cell) → Has left g → Has goals g
  pub goal : (i : ℕ) → i < length found → Has goals (cell_visited found i) × Lacks left (cell_visited found i)
  pub once : (i j : ℕ) → i < j → j < length found → cell_visited found i ≢ cell_visited found j
  pub all : (g : Cell) → Has goals g → Has left g ⊎ IsFound found g
  pub count : length found + set.len left ≤ set.len goals

-- a later state of the list: no visit was lost or changed, and each new one is at a visited goal that was left
pub record IsLonger (visited left : Cells) (via : Option ℕ) (found found' : List Visit) : Type 0 where
  pub longer : length found ≤ length found'
  pub same : (i : ℕ) → i < length found → visit_at found' i ≡ visit_at found i
  pub new : (i : ℕ) → length found ≤ i → i < length found'
      → Has visited (cell_visited found' i) × Has left (cell_visited found' i) × ((visit_at found' i).via ≡ via)

-- ---- a search
-- a search can begin: the rows are on the grid, and the list has space for all goals
pub record IsReady (level : Level) (s : Search) : Type 0 where
  pub visited_on : s.visited.extent ≡ level.shape
  pub left_on : s.left.extent ≡ level.shape
  pub goals_on : s.goals.extent ≡ level.shape
  pub goals : s.goals.members ≡ level.goals
  pub space : set.len level.goals ≤ vec_capacity s.found

-- the visited cells are floor, and no push leads out of them; each goal among them is found, once, and the others are left
pub record IsListing (level : Level) (s : Search) : Type 0 where
  pub floor : (q : Cell) → Has s.visited.members q → IsFloor level q
  pub closed : IsClosedUnder (PushesTo (Has level.room)) (Has s.visited.members)
  pub listed : AreListed level.goals s.found.items s.left.members
  pub visited : (i : ℕ) → i < length s.found.items → Has s.visited.members (cell_visited s.found.items i)
  pub unseen : (g : Cell) → Has s.left.members g → Lacks s.visited.members g

-- alternating paths from the box `start` lead to the found goals, and every set that confines these paths has the visited cells
pub record IsSearch (level : Level) (matching : List (Option Cell)) (start : Cell) (s : Search) : Type 0 where
  pub least : (zone : Cells) (q : Cell) → ConfinesPaths level (Pairs level.shape matching) start zone → Has s.visited.members q → Has zone q
  pub traced : (i : ℕ) → i < length s.found.items
      → IsTraced level matching start s.found.items i (cell_visited s.found.items i) (visit_at s.found.items i).via

-- an alternating path from the box `start` leads to the box at c, which the search visits next
pub record IsNext (level : Level) (matching : List (Option Cell)) (start : Cell) (s : Search) (c : Cell) (via : Option ℕ) : Type 0 where
  pub confined : (zone : Cells) → ConfinesPaths level (Pairs level.shape matching) start zone → Has zone c
  pub traced : IsTraced level matching start s.found.items (length s.found.items) c via

-- whatever the matching and the start: if the old state is that of a search and the box at c is visited next, the new state is that of a search
abbrev pub VisitsBox : Level → Search → Cell → Option ℕ → Search → Type 0
VisitsBox level s c via s' = (matching : List (Option Cell)) (start : Cell) → IsSearch level matching start s → IsNext level matching start s c via
    → IsSearch level matching start s'

-- a later state of a search: no visited cell was lost, and no visit was lost or changed
pub record IsFurther (s s' : Search) : Type 0 where
  pub kept : (q : Cell) → Has s.visited.members q → Has s'.visited.members q
  pub longer : length s.found.items ≤ length s'.found.items
  pub same : (i : ℕ) → i < length s.found.items → visit_at s'.found.items i ≡ visit_at s.found.items i

-- there is a goal at g, and the table matches it to no box
pub record IsFreeGoal (level : Level) (matching : List (Option Cell)) (g : Cell) : Type 0 where
  pub on : IsOn level.shape g
  pub goal : Has level.goals g
  pub unmatched : slice_index_or matching (index level.shape g) None ≡ None

-- the search found an augmenting path, which ends with this visit at a free goal
pub record EndsPath (level : Level) (matching : List (Option Cell)) (start : Cell) (found : List Visit) (end : Visit) : Type 0 where
  pub path : AreTraced level matching start found
  pub free : IsFreeGoal level matching end.cell
  pub traced : IsTraced level matching start found (length found) end.cell end.via

-- ---- all boxes
-- the table is a matching of these boxes of the start
pub record IsMatchingOf (level : Level) (matched : Cells) (matching : List (Option Cell)) : Type 0 where
  pub boxes : (c : Cell) → Has matched c → Has level.boxes c
  pub pairs : IsMatching level matched (Pairs level.shape matching)

-- if the old table is a matching of some boxes without `start`, the new table is a matching of these boxes and `start`
abbrev pub MatchesOneMore : Level → List (Option Cell) → Cell → List (Option Cell) → Type 0
MatchesOneMore level matching start matching' = (matched : Cells) → IsMatchingOf level matched matching → Has level.boxes start → Lacks matched start
    → IsMatchingOf level (set.insert matched start) matching'
