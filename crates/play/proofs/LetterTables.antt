-- The tables of letters agree with the meaning of each of the 256 bytes, by computation.
use Rattle.std.proofs.Common.{◌≡◌, ◌≢◌, ℕ, zero, suc, ◌+◌, ◌<◌, Bool, true, false, ◌&&◌, cond, nat_eq, get_or, refl, ◌∙◌, ap, inl, inr, arith}
use Rattle.std.proofs.lemmas.Bool.{cases_eq, eqb-true}
use Rattle.std.proofs.lemmas.Bool.Decides.{eqb_tells}
use Rattle.cellset.specs.declared.dir.Dir.{Dir}
use Rattle.cellset.proofs.Truth.{and_parts}
use Rattle.cellset.specs.declared.dir.Dir.TheVariants.{L, U, R, D}
use Rattle.play.specs.Spelling.{is_blank}
use Rattle.play.specs.FirstFault.{Names}
use Rattle.play.specs.Letter.{IsRead, IsAdded}
use Rattle.play.specs.declared.letters.Letter.{Letter}
use Rattle.play.specs.declared.letters.TheConstants.{WALK, PUSH, FOREIGN, STEPS, KINDS, LETTER, NO_WALK, ADDED}

-- what the tables say of a byte
abbrev read_by : ℕ → Letter
read_by b = record { byte = b; step = get_or STEPS b 0; kind = get_or KINDS b 0 }

abbrev says : ℕ → ℕ → ℕ → Bool
says b step kind = nat_eq (get_or STEPS b 0) step && nat_eq (get_or KINDS b 0) kind

-- what the tables have to say of a byte: of a blank, of a letter by each direction, and of any other byte
abbrev letter_means : ℕ → Bool
letter_means b =
    cond (nat_eq b 108) (says b 65535 WALK) (cond (nat_eq b 117) (says b 65280 WALK) (cond (nat_eq b 114) (says b 1 WALK) (cond (nat_eq b 100) (says b 256 WALK)
    (cond (nat_eq b 76) (says b 65535 PUSH) (cond (nat_eq b 85) (says b 65280 PUSH) (cond (nat_eq b 82) (says b 1 PUSH) (cond (nat_eq b 68) (says b 256 PUSH)
    (says b 0 FOREIGN))))))))

abbrev means : ℕ → Bool
means b = cond (is_blank b) (says b 0 WALK) (letter_means b)

all_below : ℕ → Bool
all_below zero = true
all_below (suc n) = means n && all_below n

means_at : (n : ℕ) → all_below n ≡ true → (b : ℕ) → b < n → means b ≡ true
unfolding all_below
means_at zero h b lt = absurd (omega arith)
means_at (suc n) h b lt =
    let parts = and_parts (means n) (all_below n) h in
    elim (cases_eq b n) [ inl same ↦ ap means same ∙ parts.0 | inr other ↦ means_at n parts.1 b (omega arith) ]

computed : all_below 256 ≡ true
unfolding all_below
computed = refl

-- ---- from the test to its meaning
said : (b : ℕ) {step kind : ℕ} → says b step kind ≡ true → (get_or STEPS b 0 ≡ step) × (get_or KINDS b 0 ≡ kind)
said b h = grind (arith, and_parts, eqb-true)

-- a test in a chain decides its case or leaves the byte to the others
step_by : {G : Type 0} {b k : ℕ} {x y : Bool} → cond (nat_eq b k) x y ≡ true → (b ≡ k → x ≡ true → G) → (b ≢ k → y ≡ true → G) → G
step_by h here there = grind (arith, eqb_tells)

none : (b : ℕ) → b ≢ 108 → b ≢ 117 → b ≢ 114 → b ≢ 100 → b ≢ 76 → b ≢ 85 → b ≢ 82 → b ≢ 68 → (d : Dir) → Names b d → ⊥
none b nl nu nr nd ml mu mr md L (inl is) = nl is
none b nl nu nr nd ml mu mr md L (inr is) = ml is
none b nl nu nr nd ml mu mr md U (inl is) = nu is
none b nl nu nr nd ml mu mr md U (inr is) = mu is
none b nl nu nr nd ml mu mr md R (inl is) = nr is
none b nl nu nr nd ml mu mr md R (inr is) = mr is
none b nl nu nr nd ml mu mr md D (inl is) = nd is
none b nl nu nr nd ml mu mr md D (inr is) = md is

pub is_read : {b : ℕ} → b < 256 → IsRead (read_by b)
is_read {b} lt =
    elim (is_blank b) as (λ v. is_blank b ≡ v → cond v (says b 0 WALK) (letter_means b) ≡ true → IsRead (read_by b)) [
      | true ↦ λ blank h. let (step, kind) = said b h in inl (blank, step, kind)
      | false ↦ λ letter h. by_letter letter h
    ] refl (means_at 256 computed b lt)
  where
    by_letter : is_blank b ≡ false → letter_means b ≡ true → IsRead (read_by b)
    by_letter letter h =
        step_by h (λ is s. let (step, kind) = said b s in inr (inl (L, is, step, kind))) (λ nl h.
        step_by h (λ is s. let (step, kind) = said b s in inr (inl (U, is, step, kind))) (λ nu h.
        step_by h (λ is s. let (step, kind) = said b s in inr (inl (R, is, step, kind))) (λ nr h.
        step_by h (λ is s. let (step, kind) = said b s in inr (inl (D, is, step, kind))) (λ nd h.
        step_by h (λ is s. let (step, kind) = said b s in inr (inr (inl (L, is, step, kind)))) (λ ml h.
        step_by h (λ is s. let (step, kind) = said b s in inr (inr (inl (U, is, step, kind)))) (λ mu h.
        step_by h (λ is s. let (step, kind) = said b s in inr (inr (inl (R, is, step, kind)))) (λ mr h.
        step_by h (λ is s. let (step, kind) = said b s in inr (inr (inl (D, is, step, kind)))) (λ md h.
        let (step, kind) = said b h in inr (inr (inr (letter, none b nl nu nr nd ml mu mr md, step, kind)))))))))))

-- ---- what a byte adds
abbrev adds : ℕ → ℕ → Bool
adds b n = nat_eq (get_or ADDED b 0) n

abbrev walk_means : ℕ → Bool
walk_means b =
    cond (nat_eq b 108) (adds b (LETTER + 65535)) (cond (nat_eq b 117) (adds b (LETTER + 65280))
    (cond (nat_eq b 114) (adds b (LETTER + 1)) (cond (nat_eq b 100) (adds b (LETTER + 256)) (adds b NO_WALK))))

abbrev added_means : ℕ → Bool
added_means b = cond (is_blank b) (adds b 0) (walk_means b)

all_added_below : ℕ → Bool
all_added_below zero = true
all_added_below (suc n) = added_means n && all_added_below n

added_at : (n : ℕ) → all_added_below n ≡ true → (b : ℕ) → b < n → added_means b ≡ true
unfolding all_added_below
added_at zero h b lt = absurd (omega arith)
added_at (suc n) h b lt =
    let parts = and_parts (added_means n) (all_added_below n) h in
    elim (cases_eq b n) [ inl same ↦ ap added_means same ∙ parts.0 | inr other ↦ added_at n parts.1 b (omega arith) ]

computed_added : all_added_below 256 ≡ true
unfolding all_added_below
computed_added = refl

pub is_added : {b : ℕ} → b < 256 → IsAdded b (get_or ADDED b 0)
is_added {b} lt =
    elim (is_blank b) as (λ v. is_blank b ≡ v → cond v (adds b 0) (walk_means b) ≡ true → IsAdded b (get_or ADDED b 0)) [
      | true ↦ λ blank h. inl (blank, eqb-true (get_or ADDED b 0) 0 h)
      | false ↦ λ _ h. by_letter h
    ] refl (added_at 256 computed_added b lt)
  where
    by_letter : walk_means b ≡ true → IsAdded b (get_or ADDED b 0)
    by_letter h =
        step_by h (λ is s. inr (inl (L, is, eqb-true (get_or ADDED b 0) (LETTER + 65535) s))) (λ nl h.
        step_by h (λ is s. inr (inl (U, is, eqb-true (get_or ADDED b 0) (LETTER + 65280) s))) (λ nu h.
        step_by h (λ is s. inr (inl (R, is, eqb-true (get_or ADDED b 0) (LETTER + 1) s))) (λ nr h.
        step_by h (λ is s. inr (inl (D, is, eqb-true (get_or ADDED b 0) (LETTER + 256) s))) (λ nd h.
        inr (inr (eqb-true (get_or ADDED b 0) NO_WALK h))))))
