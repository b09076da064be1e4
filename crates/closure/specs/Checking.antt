-- What the check keeps of a list whose pushes need lookups.
use Rattle.std.specs.Prelude.{◌≡◌, ℕ, Some}
use Rattle.certificates.specs.CellLists.{cells_in}
use Rattle.closure.specs.{GroupPushes.AreNoted, Groups.boxes_of, Lookups.AreLookups, Lookups.IsRest, Component.IsFreeOf, declared.tables.Tables.Tables}
use Rattle.closure.specs.declared.checking.Checker.{Checker}

-- the notes are true, and the lookups are for the tables, and have what is left of the pushes of the group that was settled last
pub record IsChecker {S : Type 0} (tables : Tables S) (checker : Checker) : Type 0 where
  pub noted : AreNoted tables.board.now tables.groups checker.covered.items
  pub are : AreLookups tables checker.lookups
  pub free : (g : ℕ) → checker.settled ≡ Some g → IsFreeOf tables.board.now (cells_in (boxes_of tables.groups g)) checker.lookups.flood.free
  pub rest : (g : ℕ) → checker.settled ≡ Some g → IsRest tables.board.now tables.groups g checker.lookups.left.items
