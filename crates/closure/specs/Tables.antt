-- The tables of a list.
use Rattle.std.specs.Prelude.{◌≡◌, ℕ, ◌<◌, IsTrue, length}
use Rattle.std.specs.FinSet as set
use Rattle.board.specs.{Board.IsWellFormed, Game.Level, Game.State}
use Rattle.certificates.specs.Pattern.{Covers, AreLawful}
use Rattle.closure.specs.{Trap.IsTrapOf, declared.tables.Tables.Tables}
use Rattle.closure.specs.{declared.groups.Groups.Groups, GroupRegions.AreRegions, Groups.IsGrouped, Groups.list_of, Groups.position_at}

pub record AreTables {S : Type 0} (tables : Tables S) : Type 0 where
  pub formed : IsWellFormed tables.board.now
  pub lawful : AreLawful tables.board.now (list_of tables.groups)
  pub trap : IsTrapOf tables.board.now (list_of tables.groups) tables.trap
  pub trapless : IsTrue tables.trapless → tables.trap.members ≡ set.empty
  pub grouped : IsGrouped tables.groups
  pub regions : AreRegions tables.board.now tables.trap.members tables.groups tables.regions

-- a group covers the state
abbrev pub GroupCovers : Level → Groups → ℕ → State → Type 0
GroupCovers level groups g s = (g < length groups.spans.items) × Covers level (position_at level groups g) s
