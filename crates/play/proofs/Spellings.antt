-- A text spells at most one play. The eight letters differ, so a letter names one direction and says whether its step
-- is a walk or a push, and each of these leads to one state only. So the letters of a text determine the directions and
-- the last state, letter by letter. One text after another spells one play after another, and conversely.
use Rattle.std.proofs.Common.{◌≡◌, ℕ, cond, nat_eq, ◌||◌, ◌≤◌, lit≤, List, [], ◌∷◌, ◌++◌, length, refl, sym, ◌∙◌, inl, inr, arith}
use Rattle.cellset.specs.Cell.{neighbor}
use Rattle.cellset.specs.declared.dir.Dir.{Dir}
use Rattle.cellset.specs.declared.dir.Dir.TheVariants.{L, U, R, D}
use Rattle.board.specs.Game.{Level, State, Steps, Plays, moved}
use Rattle.play.specs.FirstFault.{Names}
use Rattle.play.specs.Spelling.{small, capital, SpellsStep, SpellsPlay}

-- the direction that a letter names, whatever its case
abbrev named : ℕ → Dir
named b = cond (nat_eq b 108 || nat_eq b 76) L (cond (nat_eq b 117 || nat_eq b 85) U (cond (nat_eq b 114 || nat_eq b 82) R D))

named_small : (d : Dir) → named (small d) ≡ d
named_small L = refl
named_small U = refl
named_small R = refl
named_small D = refl

named_capital : (d : Dir) → named (capital d) ≡ d
named_capital L = refl
named_capital U = refl
named_capital R = refl
named_capital D = refl

small_above : (d : Dir) → 100 ≤ small d
small_above L = lit≤ tt
small_above U = lit≤ tt
small_above R = lit≤ tt
small_above D = lit≤ tt

capital_below : (d : Dir) → capital d ≤ 85
capital_below L = lit≤ tt
capital_below U = lit≤ tt
capital_below R = lit≤ tt
capital_below D = lit≤ tt

pub small_one : (b : ℕ) (d e : Dir) → b ≡ small d → b ≡ small e → d ≡ e
small_one b d e x y = grind (arith, named_small)

pub capital_one : (b : ℕ) (d e : Dir) → b ≡ capital d → b ≡ capital e → d ≡ e
capital_one b d e x y = grind (arith, named_capital)

pub small_not_capital : {G : Type 0} {b : ℕ} (d e : Dir) → b ≡ small d → b ≡ capital e → G
small_not_capital d e x y = grind (arith, capital_below, small_above)

-- a letter names one direction at most
pub names_one : {b : ℕ} {d e : Dir} → Names b d → Names b e → d ≡ e
names_one x y = grind (arith, named_small, named_capital)

-- the states that a walk and a push lead to
abbrev pub walked_by : State → Dir → State
walked_by s d = record { player = neighbor s.player d; boxes = s.boxes }

abbrev pub pushed_by : State → Dir → State
pushed_by s d = let ahead = neighbor s.player d in record { player = ahead; boxes = moved s.boxes ahead (neighbor ahead d) }

-- a letter spells one step at most
pub step_alike : (level : Level) (s : State) {b : ℕ} {d e : Dir} {t u : State} → SpellsStep level s b d t → SpellsStep level s b e u → (d ≡ e) × (t ≡ u)
step_alike level s (inl (walk, x)) (inl (other, y)) = grind (arith, small_one)
step_alike level s {d} {e} (inl (walk, x)) (inr (other, y)) = small_not_capital d e x y
step_alike level s {d} {e} (inr (push, x)) (inl (other, y)) = small_not_capital e d y x
step_alike level s (inr (push, x)) (inr (other, y)) = grind (arith, capital_one)

-- letters spell one play at most
pub spells_alike : (level : Level) (s : State) (bs : List ℕ) (ds es : List Dir) (t u : State) → SpellsPlay level s bs ds t → SpellsPlay level s bs es u
    → (ds ≡ es) × (t ≡ u)
spells_alike level s [] [] [] t u a b = (refl, sym a ∙ b)
spells_alike level s [] [] (e ∷ es) t u a b = absurd b
spells_alike level s [] (d ∷ ds) es t u a b = absurd a
spells_alike level s (x ∷ bs) [] es t u a b = absurd a
spells_alike level s (x ∷ bs) (d ∷ ds) [] t u a b = absurd b
spells_alike level s (x ∷ bs) (d ∷ ds) (e ∷ es) t u (v, first, rest) (w, other, more) =
    let same = step_alike level s first other in
    grind (arith, spells_alike level v bs ds es t u rest (rw same.1 more))

-- one text after another spells one play after another
pub spells_join : (level : Level) (s : State) (bs : List ℕ) (ds : List Dir) (u : State) (cs : List ℕ) (es : List Dir) (t : State) → SpellsPlay level s bs ds u
    → SpellsPlay level u cs es t → SpellsPlay level s (bs ++ cs) (ds ++ es) t
spells_join level s [] [] u cs es t a b = grind arith
spells_join level s [] (d ∷ ds) u cs es t a b = absurd a
spells_join level s (x ∷ bs) [] u cs es t a b = absurd a
spells_join level s (x ∷ bs) (d ∷ ds) u cs es t (v, first, rest) b = search (spells_join level v bs ds u cs es t rest b)

-- the first letters of a text spell a play, and the rest spells another from there
pub record Splits (level : Level) (s : State) (bs cs : List ℕ) (ds : List Dir) (t : State) : Type 0 where
  pub first : List Dir
  pub rest : List Dir
  pub between : State
  pub spelled : SpellsPlay level s bs first between
  pub then : SpellsPlay level between cs rest t

pub spells_split : (level : Level) (s : State) (bs cs : List ℕ) (ds : List Dir) (t : State) → SpellsPlay level s (bs ++ cs) ds t → Splits level s bs cs ds t
spells_split level s [] cs ds t a = record { first = []; rest = ds; between = s; spelled = refl; then = a }
spells_split level s (x ∷ bs) cs [] t a = absurd a
spells_split level s (x ∷ bs) cs (d ∷ ds) t (v, first, rest) =
    let tail = spells_split level v bs cs ds t rest in
    record { first = d ∷ tail.first; rest = tail.rest; between = tail.between; spelled = (v, first, tail.spelled); then = tail.then }

-- a text has as many letters as its play has steps
pub spells_length : (level : Level) (s : State) (bs : List ℕ) (ds : List Dir) (t : State) → SpellsPlay level s bs ds t → length bs ≡ length ds
spells_length level s [] [] t a = refl
spells_length level s [] (d ∷ ds) t a = absurd a
spells_length level s (x ∷ bs) [] t a = absurd a
spells_length level s (x ∷ bs) (d ∷ ds) t (v, first, rest) = search (spells_length level v bs ds t rest)

pub step_steps : (level : Level) (s : State) {b : ℕ} (d : Dir) {t : State} → SpellsStep level s b d t → Steps level s d t
step_steps level s d (inl (walk, x)) = inl walk
step_steps level s d (inr (push, x)) = inr push

-- what a text spells is a play
pub spells_plays : (level : Level) (s : State) (bs : List ℕ) (ds : List Dir) (t : State) → SpellsPlay level s bs ds t → Plays level s ds t
spells_plays level s [] [] t a = a
spells_plays level s [] (d ∷ ds) t a = absurd a
spells_plays level s (x ∷ bs) [] t a = absurd a
spells_plays level s (x ∷ bs) (d ∷ ds) t (v, first, rest) = search (step_steps, spells_plays level v bs ds t rest)
