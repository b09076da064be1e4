-- Items of lists, and lists to which an item is added.
use Rattle.std.proofs.Common.{◌≡◌, ℕ, ◌+◌, ◌<◌, List, [], ◌∷◌, ◌++◌, length, get_or, refl, ◌∙◌, ap, arith}
use Rattle.std.{specs.Prelude.map, specs.List.Contains, proofs.lemmas.Bool.cases_lt, proofs.lemmas.List.Elements.Contains-append_right}
use Rattle.std.proofs.lemmas.List.{get_or-map, get_or_append_left, get_or_push, length-append, length-map}
use Rattle.cellset.specs.declared.dir.Dir.TheVariants.{L}
use Rattle.reach.specs.declared.pushes.Push.{Push}
use Rattle.certificates.proofs.CellLists.{no_cell}

-- The push that a read past the end of a list gives.
abbrev pub no_push : Push
no_push = record { player = no_cell; dir = L; from = no_cell; to = no_cell }

-- What stands within a list is one of its items.
pub middle : {X : Type 0} (before : List X) (x : X) (after : List X) → Contains (before ++ x ∷ after) x
middle before x after = Contains-append_right before (x ∷ after) x (0, omega arith, refl)

pub mapped : {X Y : Type 0} (f : X → Y) (xs : List X) (x : X) → Contains xs x → Contains (map f xs) (f x)
mapped f xs x (k, lt, is) = let long = length-map xs f in (k, omega arith, get_or-map f xs k x (f x) lt ∙ ap f is)

pub old_item : {X : Type 0} (xs : List X) (x : X) (i : ℕ) (d : X) → i < length xs → get_or (xs ++ x ∷ []) i d ≡ get_or xs i d
old_item xs x i d lt = search (get_or_append_left)

pub new_item : {X : Type 0} (xs : List X) (x : X) (i : ℕ) (d : X) → i ≡ length xs → get_or (xs ++ x ∷ []) i d ≡ x
new_item xs x i d e = grind (arith, get_or_push)

pub length_more : {X : Type 0} (xs : List X) (x : X) → length (xs ++ x ∷ []) ≡ length xs + 1
length_more xs x = length-append xs (x ∷ [])

-- What holds of each item, and of one more, holds of each item of the longer list.
pub each_more : {X : Type 0} (P : ℕ → X → Type 0) (xs : List X) (x d : X) → ((i : ℕ) → i < length xs → P i (get_or xs i d)) → P (length xs) x
    → (i : ℕ) → i < length xs + 1 → P i (get_or (xs ++ x ∷ []) i d)
each_more P xs x d old new i lt = grind (arith, cases_lt, old_item, new_item)
