-- The map of a level with its dead squares.
--   character   of a cell, the first that applies: `#` (35) for a wall; `+` (43) for the player on a goal, `@` (64) elsewhere;
--               `*` (42) for a box on a goal, `$` (36) elsewhere; `.` (46) for a goal; `x` (120) for a dead square of the room;
--               a space (32) for any other cell
--   map         a line for each row of the level, at full width, each ended by LF (10)
use Rattle.std.specs.Prelude.{ℕ, zero, suc, ◌≡◌, ◌==◌, ◌&&◌, if◌then◌else◌, List, [], ◌∷◌, ◌++◌, Some, None, Option, Result, Err}
use Rattle.std.specs.List.{slice_get}
use Rattle.std.specs.FinSet.{contains}
use Rattle.cellset.specs.Cell.{cell_at}
use Rattle.cellset.specs.CellSet.{Cells}
use Rattle.cellset.specs.declared.cell.Cell.{Cell}
use Rattle.board.specs.Game.{Level}
use Rattle.board.specs.Legal.{IsBoardOf, IsRefusal}
use Rattle.board.specs.declared.reading.BoardFault.{BoardFault}
use Rattle.maker.specs.Dead.{AreDead}
use Rattle.report.specs.Collection.{Count, Stays, IsCollection, IsDueFor, CountsError}
use Rattle.report.specs.declared.fault.AuditError.TheVariants.{Read, Write}
use Rattle.report.specs.declared.fault.DeadError.{DeadError}
use Rattle.report.specs.declared.fault.DeadError.TheVariants.{Audit, NoLevel, Board}

-- the character of a cell is the first that applies
abbrev pub character_of : Level → Cells → Cell → ℕ
character_of level dead c =
    if contains level.walls c then 35
    else (if c.row == level.player.row && c.column == level.player.column then (if contains level.goals c then 43 else 64)
    else (if contains level.boxes c then (if contains level.goals c then 42 else 36)
    else (if contains level.goals c then 46
    else (if contains level.room c && contains dead c then 120 else 32))))

-- the text has the characters of the first n cells of a row, from the left
abbrev pub row_text : Level → Cells → ℕ → ℕ → List ℕ
row_text level dead row zero = []
row_text level dead row (suc n) = row_text level dead row n ++ character_of level dead (cell_at (suc n) row) ∷ []

-- the text has the lines of the first n rows, from the top
abbrev pub rows_text : Level → Cells → ℕ → List ℕ
rows_text level dead zero = []
rows_text level dead (suc n) = rows_text level dead n ++ (row_text level dead (suc n) level.shape.width ++ 10 ∷ [])

-- the text is the map of the level
abbrev pub IsMap : Level → List ℕ → Type 0
IsMap level text = (dead : Cells) × AreDead level dead × (text ≡ rows_text level dead level.shape.height)

-- the level with this number has these rows, if there is one; levels are counted from 1
abbrev pub level_at : List (List (List ℕ)) → ℕ → Option (List (List ℕ))
level_at levels zero = None
level_at levels (suc i) = slice_get levels i

-- the text is the map of the level with number n
pub record IsMapOf (levels_text : List ℕ) (n : ℕ) (text : List ℕ) : Type 0 where
  pub levels : List (List (List ℕ))
  pub collection : IsCollection levels_text levels
  pub rows : List (List ℕ)
  pub level_is : level_at levels n ≡ Some rows
  pub level : Level
  pub legal : IsBoardOf rows level
  pub map : IsMap level text

-- there is no level with number n
abbrev pub HasNoLevel : List ℕ → ℕ → Type 0
HasNoLevel levels_text n = (levels : List (List (List ℕ))) × IsCollection levels_text levels × (level_at levels n ≡ None)

-- the level with number n is refused for this reason
abbrev pub IsRefusedLevel : List ℕ → ℕ → BoardFault → Type 0
IsRefusedLevel levels_text n why =
    (levels : List (List (List ℕ))) × IsCollection levels_text levels × (rows : List (List ℕ)) × (level_at levels n ≡ Some rows) × IsRefusal rows why

-- the error comes at its place in the order of work
abbrev pub IsDueMap : List ℕ → ℕ → DeadError → Type 0
IsDueMap levels_text n (Audit error) = IsDueFor (IsMapOf levels_text n) levels_text error
IsDueMap levels_text n NoLevel = HasNoLevel levels_text n
IsDueMap levels_text n (Board why) = IsRefusedLevel levels_text n why

-- the call counts one failure of the device that failed, and none of the other
abbrev pub CountsMap : {A : Type 0} → Count → Count → Result A DeadError → Type 0
CountsMap levels map (Err (Audit error)) = CountsError levels map error
CountsMap levels map _ = Stays levels × Stays map

-- the error comes from no device
abbrev pub IsOfNoDevice : DeadError → Type 0
IsOfNoDevice (Audit (Read _)) = ⊥
IsOfNoDevice (Audit Write) = ⊥
IsOfNoDevice _ = Unit {0}
