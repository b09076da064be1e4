-- Facts about tests: what makes an `or` true, what an `and` says, a way to regroup an `or`, and what follows from
-- either side. Each is proved by cases on the tests.
use Rattle.std.proofs.Common.{◌≡◌, ◌⊎◌, Bool, true, false, not, ◌&&◌, ◌||◌, refl, inl, inr}
use Rattle.std.proofs.lemmas.Bool.{false≢true}

pub left_true : (a b : Bool) → a ≡ true → (a || b) ≡ true
left_true a b h = search

pub right_true : (a b : Bool) → b ≡ true → (a || b) ≡ true
right_true true b h = refl
right_true false b h = h

pub or_cases : {G : Type 0} (a b : Bool) → (a || b) ≡ true → (a ≡ true → G) → (b ≡ true → G) → G
or_cases true b h f g = f refl
or_cases false b h f g = g h

pub and_parts : (a b : Bool) → (a && b) ≡ true → (a ≡ true) × (b ≡ true)
and_parts true b h = (refl, h)
and_parts false b h = absurd (false≢true h)

pub not_true : (a : Bool) → not a ≡ true → a ≡ false
not_true true h = absurd (false≢true h)
not_true false h = refl

pub never_true : (a : Bool) → (a ≡ true → ⊥) → a ≡ false
never_true true never = absurd (never refl)
never_true false never = refl

pub or_front : (a b c : Bool) → (a || (b || c)) ≡ (b || (a || c))
or_front true true c = refl
or_front true false c = refl
or_front false b c = refl

-- what follows from each of two facts follows if one of them holds
pub either : {A B G : Type 0} → A ⊎ B → (A → G) → (B → G) → G
either (inl a) f g = f a
either (inr b) f g = g b
