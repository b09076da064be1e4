use Rattle.std.proofs.Common.{◌≡◌, ℕ, ◌<◌, ◌≤◌, length, get_or, List, Bor, refl, sym, ◌∙◌, ap, Option, Some, None}
use Rattle.std.specs.Prelude.{slice_get, IfSome}
use Rattle.std.specs.Option.{MatchOption, option_copied}
use Rattle.std.specs.List.{HoldsAt}
use Rattle.std.proofs.lemmas.Option.{slice_get_read, slice_get_past}
use Rattle.cellset.specs.declared.cell.Cell.{Cell}
use Rattle.cellset.proofs.SortedCells.{first_gap}
use Rattle.cellset.proofs.list_set.ListSetCellSet.next_from.Goals as goal

-- what `get` gives
got : (xs : List Cell) (i : ℕ) (r : Option (Bor Cell)) → IfSome r (λ x. x.now ≡ get_or xs i x.now)
    → MatchOption r (length xs ≤ i) (λ x. (i < length xs) × HoldsAt (λ y. x.now ≡ y) xs i) → slice_get xs i ≡ option_copied r
got xs i None is past = slice_get_past xs i past
got xs i (Some x) is at = slice_get_read xs (length xs) i x.now refl at.0 is

pub returns-in-Err-clause-first : goal.returns-in-Err-clause-first
returns-in-Err-clause-first c =
    let xs = c.self.inside.cells.items in
    let gap = rw c.deref.ensures.value at c.in-Err.ensures in
    let lookup = c.get.ensures.lookup in
    let is = ap (λ xs. slice_get xs c.in-Err.at) (sym c.deref-in-Err.ensures.value)
    ∙ got c.deref-in-Err.result.now c.in-Err.at c.get.result lookup.1 lookup.3 ∙ sym c.copied.ensures in
    rw (← c.self.view_is) (rw is at (first_gap xs c.args.cell c.in-Err.at c.self.invariant.sorted gap))
