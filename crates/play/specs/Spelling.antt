-- Solution texts, and the plays that they spell.
--   blank       a space, a tab, an LF or a CR; blanks may be anywhere and mean nothing
--   letters     the bytes of a text that are not blank
--   spells      each letter names the direction of its step, small for a walk and a capital for a push
use Rattle.std.specs.Prelude.{◌≡◌, ◌⊎◌, ℕ, Bool, not, ◌==◌, ◌||◌, List, [], ◌∷◌, filter}
use Rattle.std.specs.Borrow.{Bor}
use Rattle.std.specs.List.{flat_map}
use Rattle.cellset.specs.declared.dir.Dir.{Dir}
use Rattle.cellset.specs.declared.dir.Dir.TheVariants.{L, U, R, D}
use Rattle.board.specs.Game.{Level, State, Walks, Pushes}

-- a space, a tab, an LF or a CR
abbrev pub is_blank : ℕ → Bool
is_blank b = b == 32 || (b == 9 || (b == 10 || b == 13))

-- the bytes of a text that are not blank
abbrev pub letters : List ℕ → List ℕ
letters text = filter (λ b. not (is_blank b)) text

-- the lines of a text, one after the other
abbrev pub joined : List (Bor (List ℕ)) → List ℕ
joined lines = flat_map (λ (line : Bor (List ℕ)). line.now) lines

-- l, u, r and d
abbrev pub small : Dir → ℕ
small L = 108
small U = 117
small R = 114
small D = 100

-- L, U, R and D
abbrev pub capital : Dir → ℕ
capital L = 76
capital U = 85
capital R = 82
capital D = 68

-- the letter b is that of a step by d from s to t
abbrev pub SpellsStep : Level → State → ℕ → Dir → State → Type 0
SpellsStep level s b d t = (Walks level s d t × (b ≡ small d)) ⊎ (Pushes level s d t × (b ≡ capital d))

-- the letters spell the steps by which the directions lead from s to t
abbrev pub SpellsPlay : Level → State → List ℕ → List Dir → State → Type 0
SpellsPlay level s [] [] t = s ≡ t
SpellsPlay level s (b ∷ bs) (d ∷ ds) t = (u : State) × SpellsStep level s b d u × SpellsPlay level u bs ds t
SpellsPlay level s _ _ t = ⊥
