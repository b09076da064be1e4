-- The letters of a solution as pieces of its text.
--   unbroken    the bytes of a text without LF and CR
--   comment     it begins with a `;` that is first in its line
use Rattle.std.specs.Prelude.{◌≡◌, ◌⊎◌, ℕ, ◌-◌, ◌<◌, ◌==◌, ◌||◌, not, List, filter, flat_map, map, slice_index}
use Rattle.std.specs.List.{concat}
use Rattle.std.specs.Borrow.{Bor}
use Rattle.answers.specs.Grammar.{Line}
use Rattle.answers.specs.Held.{kept_after}

abbrev pub unbroken : List ℕ → List ℕ
unbroken text = filter (λ b. not (b == 10 || b == 13)) text

-- The pieces, one after the other.
abbrev pub joined : List (Bor (List ℕ)) → List ℕ
joined pieces = flat_map (λ (piece : Bor (List ℕ)). piece.now) pieces

-- The joined pieces and the joined lines have the same bytes, without LF and CR.
abbrev pub ArePiecesOf : List (List ℕ) → List (Bor (List ℕ)) → Type 0
ArePiecesOf lines pieces = unbroken (joined pieces) ≡ unbroken (concat lines)

-- A comment begins at this place of the lines.
pub record BeginsComment (lines : List ℕ) (k : ℕ) : Type 0 where
  pub mark : slice_index lines k ≡ 59
  pub first : (k ≡ 0) ⊎ (slice_index lines (k - 1) ≡ 10)

abbrev pub NoCommentBelow : ℕ → List ℕ → Type 0
NoCommentBelow n lines = (k : ℕ) → k < n → BeginsComment lines k → ⊥

-- The kept lines of the bytes, one after the other, without LF and CR.
abbrev pub letters_in : List ℕ → List ℕ
letters_in bytes = unbroken (concat (map (λ (l : Line). l.text) (kept_after 0 bytes)))
