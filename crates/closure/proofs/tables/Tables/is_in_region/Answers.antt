-- No box of a group is in its region.
use Rattle.std.specs.Prelude.{MatchOption, Option, None, List}
use Rattle.std.proofs.{Common.◌≡◌, Common.ℕ, Common.◌<◌, Common.Some, Common.length, Common.refl, Common.sym, Common.◌∙◌, lemmas.Bool.false≢true, lemmas.Option.none-some}
use Rattle.cellset.specs.{CellSet.Has, CellSet.Lacks, declared.cell.Cell.Cell}
use Rattle.cellset.proofs.Members.{not_both}
use Rattle.certificates.specs.CellLists.{cell_no, cells_in}
use Rattle.certificates.proofs.{CellLists.in_list, CellLists.no_cell, RegionCells.region_lacks}
use Rattle.closure.specs.Groups.{boxes_of, position_at}
use Rattle.closure.proofs.tables.Tables.is_in_region.Goals as goal

-- a cell with a number is one of the cells
numbered : (xs : List Cell) (q : Cell) (r : Option ℕ) → MatchOption r (Lacks (cells_in xs) q) (λ n. (n < length xs) × (cell_no xs n ≡ q)) → {n : ℕ} → r ≡ Some n
    → Has (cells_in xs) q
numbered xs q None is same = absurd (none-some _ same)
numbered xs q (Some n) is same = rw (sym is.1) (in_list xs n no_cell is.0)

pub returns-then-not-is_inside : goal.returns-then-not-is_inside
returns-then-not-is_inside g c = λ room.
    let level = c.args.self.now.board.now in
    let groups = c.args.self.now.groups in (
      λ h. absurd (false≢true h),
      λ region. sym c.if-not-is_inside.true ∙ (c.is_inside.ensures room (region_lacks level (position_at level groups c.args.group) c.args.cell region)).1 region,
    )

pub returns-in-Some : goal.returns-in-Some
returns-in-Some g c = λ room.
    let level = c.args.self.now.board.now in
    let groups = c.args.self.now.groups in
    let own = boxes_of groups c.args.group in (
      λ h. absurd (false≢true h),
      λ region. absurd (not_both (cells_in own) c.args.cell (numbered own c.args.cell c.number_of.result (rw c.boxes.ensures at c.number_of.ensures) c.in-Some.is)
          (region_lacks level (position_at level groups c.args.group) c.args.cell region)),
    )

pub returns-in-None : goal.returns-in-None
returns-in-None g c = λ room. (
  λ _. (c.is_inside.ensures room (rw c.boxes.ensures at c.in-None.ensures)).0 c.if-not-is_inside.false,
  λ _. refl,
)
