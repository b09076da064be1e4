-- What holds of patterns by their numbers.
use Rattle.std.proofs.Common.{ℕ, ◌+◌, ◌≤◌, ◌<◌, List, length, get_or, ◌∙◌, subst, arith}
use Rattle.std.{specs.List.Contains, proofs.lemmas.Bool.cases_lt}
use Rattle.std.proofs.lemmas.List.{get_or_default}
use Rattle.certificates.specs.Pattern.{Pattern}

-- What holds of each pattern by its number holds of each pattern of the list.
pub each_pattern : (P : Pattern → Type 0) (patterns : List Pattern) (n : ℕ) (d : Pattern) → length patterns ≤ n → ((j : ℕ) → j < n → P (get_or patterns j d))
    → (pattern : Pattern) → Contains patterns pattern → P pattern
each_pattern P patterns n d past each pattern (k, lt, is) = subst P (get_or_default patterns k d pattern lt ∙ is) (each k (omega arith))

-- What holds of the first numbers and of the next one holds of one number more.
pub one_more : (P : ℕ → Type 0) (n : ℕ) → ((j : ℕ) → j < n → P j) → P n → (j : ℕ) → j < n + 1 → P j
one_more P n each here j lt = grind (arith, cases_lt)
