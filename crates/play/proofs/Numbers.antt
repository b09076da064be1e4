-- The numbers of the pushed boxes, as a replay finds them. Each box is on a cell of its own, so the box that is pushed
-- from a cell has the number of the last one exactly if the last push led to that cell.
-- A push moves one box and keeps every number, and a walk moves none.
use Rattle.std.proofs.Common.{◌≡◌, ℕ, zero, suc, ◌+◌, ◌≤◌, false, cond, None, Some, List, [], ◌∷◌, ◌++◌, length, refl, sym, ◌∙◌, ap, arith}
use Rattle.std.specs.Prelude.{map, slice_get, ◌==◌, if◌then◌else◌}
use Rattle.std.specs.List.{position_from}
use Rattle.std.specs.Ordering.{eq_by_cmp}
use Rattle.std.specs.FinSet as set
use Rattle.std.proofs.lemmas.Bool.{false≢true}
use Rattle.std.proofs.lemmas.Option.{none-some, same_Some, slice_get-map}
use Rattle.std.proofs.lemmas.Iterator.Adapters.{position_from-zero}
use Rattle.cellset.specs.Cell.{cell_cmp, neighbor}
use Rattle.cellset.specs.CellSet.{Cells, Has, Lacks}
use Rattle.cellset.specs.declared.cell.Cell.{Cell}
use Rattle.cellset.specs.declared.dir.Dir.{Dir}
use Rattle.cellset.proofs.Members.{same, same_itself, same_or_other, other_false, not_both, inserted, kept_by_insert, has_insert, kept_by_remove, has_remove}
use Rattle.board.specs.Game.{moved}
use Rattle.play.specs.Counts.{number_at, stepped, changes_from, changes}
use Rattle.play.specs.Progress.{AreNumbered}

-- ---- changes
-- 0 if two numbers are equal, otherwise 1
abbrev pub differs : ℕ → ℕ → ℕ
differs n last = if n == last then 0 else 1

changes_from_push : (last : ℕ) (ns : List ℕ) (m n : ℕ) → changes_from last ((ns ++ m ∷ []) ++ n ∷ []) ≡ changes_from last (ns ++ m ∷ []) + differs n m
changes_from_push last [] m n = omega arith
changes_from_push last (x ∷ ns) m n = grind (arith, changes_from_push x ns m n)

pub changes_push : (ns : List ℕ) (m n : ℕ) → changes ((ns ++ m ∷ []) ++ n ∷ []) ≡ changes (ns ++ m ∷ []) + differs n m
changes_push [] m n = omega arith
changes_push (x ∷ ns) m n = grind (arith, changes_from_push)

changes_from_few : (last : ℕ) (ns : List ℕ) → changes_from last ns ≤ length ns
changes_from_few last [] = omega arith
changes_from_few last (n ∷ ns) = grind (arith, changes_from_few n ns)

pub changes_few : (ns : List ℕ) → changes ns ≤ length ns
changes_few [] = omega arith
changes_few (n ∷ ns) = grind (arith, changes_from_few)

-- ---- the number of the box at a cell
position_from_none : {c : Cell} (i : ℕ) (xs : List Cell) → ((n : ℕ) → slice_get xs n ≡ Some c → ⊥) → position_from (same c) i xs ≡ None
position_from_none i [] none = refl
position_from_none {c} i (x ∷ xs) none =
    same_or_other c x
    (λ e. absurd (none 0 (ap Some (sym e))))
    (λ f. grind (arith, position_from_none (i + 1) xs (λ n is. none (suc n) is)))

position_from_some : {c : Cell} (i : ℕ) (xs : List Cell) (k : ℕ) → slice_get xs k ≡ Some c
    → (n : ℕ) × (slice_get xs n ≡ Some c) × (position_from (same c) i xs ≡ Some (i + n))
position_from_some {c} i [] k is = absurd (none-some c is)
position_from_some {c} i (x ∷ xs) k is =
    same_or_other c x
    (λ e. grind (arith, same_itself))
    (λ f. let later = position_from_some (i + 1) xs (before k f is).0 (before k f is).1 in
    (suc later.0, later.1, ap (λ b. cond b (Some i) (position_from (same c) (i + 1) xs)) f ∙ (later.2 ∙ ap Some (omega arith))))
  where
    before : (k : ℕ) → same c x ≡ false → slice_get (x ∷ xs) k ≡ Some c → (j : ℕ) × (slice_get xs j ≡ Some c)
    before zero f is = absurd (false≢true (sym f ∙ (ap (same c) (same_Some x c is) ∙ same_itself c)))
    before (suc k) f is = (k, is)

pub number_none : (boxes : List Cell) {c : Cell} → ((n : ℕ) → slice_get boxes n ≡ Some c → ⊥) → number_at boxes c ≡ None
number_none boxes {c} none = position_from-zero (same c) boxes ∙ position_from_none 0 boxes none

pub number_some : {boxes : List Cell} {s : Cells} {c : Cell} {n : ℕ} → AreNumbered boxes s → slice_get boxes n ≡ Some c → number_at boxes c ≡ Some n
number_some {boxes} {c} {n} numbered is =
    let found = position_from_some 0 boxes n is in
    position_from-zero (same c) boxes ∙ (found.2 ∙ ap Some (let one = numbered.apart found.0 n c found.1 is in omega arith))

-- ---- a step
abbrev goes : Cell → Cell → Cell → Cell
goes from to b = if eq_by_cmp cell_cmp from b then to else b

goes_there : {from : Cell} (to : Cell) {b : Cell} → from ≡ b → goes from to b ≡ to
goes_there to e = grind (arith, same_itself)

goes_nowhere : (from to : Cell) {b : Cell} → same from b ≡ false → goes from to b ≡ b
goes_nowhere from to f = search

-- a walk moves no box
pub stepped_none : (boxes : List Cell) {c : Cell} (d : Dir) → ((n : ℕ) → slice_get boxes n ≡ Some c → ⊥) → stepped boxes c d ≡ boxes
stepped_none [] d none = refl
stepped_none (x ∷ xs) {c} d none =
    let first = goes_nowhere c (neighbor c d) (same_or_other c x (λ e. absurd (none 0 (ap Some (sym e)))) (λ f. f)) in
    grind (arith, stepped_none xs d (λ n is. none (suc n) is))

-- the box that a push moves is on the next cell afterwards
pub stepped_there : (boxes : List Cell) {c : Cell} (d : Dir) (n : ℕ) → slice_get boxes n ≡ Some c → slice_get (stepped boxes c d) n ≡ Some (neighbor c d)
stepped_there boxes d n is = grind (arith, slice_get-map, goes_there)

-- an element of a mapped list comes from an element of the list
mapped : {f : Cell → Cell} (xs : List Cell) (n : ℕ) {c : Cell} → slice_get (map f xs) n ≡ Some c → (b : Cell) × (slice_get xs n ≡ Some b) × (f b ≡ c)
mapped [] n {c} is = absurd (none-some c is)
mapped (x ∷ xs) zero is = search (same_Some)
mapped (x ∷ xs) (suc n) is = mapped xs n is

-- a push keeps the numbers
pub numbered_push : {boxes : List Cell} {s : Cells} (c : Cell) (d : Dir) → AreNumbered boxes s → Has s c → Lacks s (neighbor c d)
    → AreNumbered (stepped boxes c d) (moved s c (neighbor c d))
numbered_push {boxes} {s} c d numbered has free = record { each = each; all = all; apart = apart }
  where
    to : Cell
    to = neighbor c d

    each : (n : ℕ) (q : Cell) → slice_get (stepped boxes c d) n ≡ Some q → Has (moved s c to) q
    each n q is =
        let (b, at, goes_to) = mapped boxes n is in
        same_or_other c b
        (λ e. rw (← (sym (goes_there to e) ∙ goes_to)) (inserted (set.remove s c) to))
        (λ f. grind (arith, goes_nowhere, kept_by_insert, kept_by_remove, false≢true, same_itself))

    all : (q : Cell) → Has (moved s c to) q → (n : ℕ) × (slice_get (stepped boxes c d) n ≡ Some q)
    all q h = grind (arith, has_insert, stepped_there, has_remove, slice_get-map, goes_nowhere, other_false)

    apart : (n m : ℕ) (q : Cell) → slice_get (stepped boxes c d) n ≡ Some q → slice_get (stepped boxes c d) m ≡ Some q → n ≡ m
    apart n m q x y = grind (arith, mapped, same_or_other, goes_there, goes_nowhere, not_both)
