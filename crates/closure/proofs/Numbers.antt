-- Pushes whose numbers are kept by box and direction. Two of them have one key only if they move one box in one direction, and then they are
-- the same. So a number that is kept for a push is kept for no other one, and it stays right when other numbers change.
use Rattle.std.proofs.Common.{◌≡◌, ◌≢◌, ℕ, ◌-◌, ◌<◌, List, [], ◌∷◌, ◌++◌, length, get_or, set, refl, sym, ◌∙◌, ap, subst, inl, inr, arith}
use Rattle.std.{specs.List.Contains, specs.List.swap_remove, specs.Prelude.MatchBool, specs.Prelude.MatchOption, specs.Prelude.Option, specs.Prelude.None, specs.Prelude.Some, specs.Prelude.is_some, proofs.lemmas.Bool.cases_lt}
use Rattle.std.proofs.lemmas.Grind.{common_steps}
use Rattle.std.proofs.lemmas.List.{get_or-set_other, get_or-set_same, length-set, get_or_default}
use Rattle.cellset.specs.{Shape.Extent, Cell.IsOn, Cell.neighbor, Cell.opposite, SortedList.index, declared.cell.Cell.Cell, declared.dir.Dir.Dir}
use Rattle.cellset.specs.declared.dir.Dir.TheVariants.{L, U, R, D}
use Rattle.cellset.proofs.{Members.same_or_other, ReadingOrder.below_index, ReadingOrder.index_apart}
use Rattle.reach.specs.{Pushes.dir_rank, declared.pushes.Push.Push}
use Rattle.closure.specs.Open.{AreNumbered, IsNumbered, IsStep, IsThat, dir_at, dir_back, key}

rank_low : (d : Dir) → dir_rank d < 4
rank_low L = omega arith
rank_low U = omega arith
rank_low R = omega arith
rank_low D = omega arith

-- The key tells the box and the direction.
pub same_key : (shape : Extent) (a b : Cell) (d e : Dir) → IsOn shape a → IsOn shape b → key shape a d ≡ key shape b e → (a ≡ b) × (d ≡ e)
same_key shape a b d e on_a on_b same =
    let low_d = rank_low d in
    let low_e = rank_low e in
    let ranks : dir_rank d ≡ dir_rank e = omega arith in
    let indexes : index shape a ≡ index shape b = omega arith in (
      same_or_other a b (λ is. is) (λ other. absurd (index_apart shape a b on_a on_b other indexes)),
      sym (dir_back d) ∙ (ap dir_at ranks ∙ dir_back e),
    )

-- A box and a direction tell the push.
pub same_step : (p q : Push) → IsStep p → IsStep q → p.from ≡ q.from → p.dir ≡ q.dir → p ≡ q
same_step p q is_p is_q from dir =
    let player : p.player ≡ q.player = is_p.player ∙ (ap (λ c. neighbor c (opposite p.dir)) from ∙ (ap (λ d. neighbor q.from (opposite d)) dir ∙ sym is_q.player)) in
    let to : p.to ≡ q.to = is_p.to ∙ (ap (λ c. neighbor c p.dir) from ∙ (ap (λ d. neighbor q.from d) dir ∙ sym is_q.to)) in
    subst (λ x. p ≡ record { player = x; dir = q.dir; from = q.from; to = q.to }) player
    (subst (λ x. p ≡ record { player = p.player; dir = x; from = q.from; to = q.to }) dir
    (subst (λ x. p ≡ record { player = p.player; dir = p.dir; from = x; to = q.to }) from
    (subst (λ x. p ≡ record { player = p.player; dir = p.dir; from = p.from; to = x }) to refl)))

module _ (shape : Extent) (pushes : List Push) (numbers : List ℕ) (are : AreNumbered shape pushes numbers) where
  -- A push that is listed has the number that is kept for its box and direction.
  pub number_kept : (p : Push) → Contains pushes p → (n : ℕ) × (n < length pushes) × ((d : Push) → get_or pushes n d ≡ p) × IsNumbered shape numbers n p
  number_kept p (n, lt, is) =
      let there = λ (d : Push). get_or_default pushes n d p lt ∙ is in
      (n, lt, there, subst (IsNumbered shape numbers n) (there p) (are.each n p lt))

  -- Two pushes of one box in one direction have one number.
  pub one_number : (m n : ℕ) (p q : Push) → IsNumbered shape numbers m p → IsNumbered shape numbers n q → p.from ≡ q.from → p.dir ≡ q.dir → m ≡ n
  one_number m n p q is_p is_q from dir =
      sym is_p.number ∙ (ap (λ c. get_or numbers (key shape c p.dir) 0) from ∙ (ap (λ d. get_or numbers (key shape q.from d) 0) dir ∙ is_q.number))

  -- The number of another push stays when that of one changes.
  still_numbered : (n k v : ℕ) (p one : Push) → IsNumbered shape numbers n p → IsOn shape one.from → k ≡ key shape one.from one.dir → (IsThat one.from one.dir p → ⊥)
      → IsNumbered shape (set numbers k v) n p
  still_numbered n k v p one is on at other = record {
    on = is.on;
    step = is.step;
    number = get_or-set_other numbers k (key shape p.from p.dir) v 0 (λ same.
        let both = same_key shape p.from one.from p.dir one.dir is.on on (same ∙ at) in other (record { cell = both.0; way = both.1 })) ∙ is.number;
  }

  key_within : (from : Cell) (dir : Dir) → IsOn shape from → key shape from dir < length numbers
  key_within from dir on =
      let below = below_index shape from on in
      let rank = rank_low dir in
      let long = are.long in
      omega arith

  now_numbered : (n k : ℕ) (p : Push) → IsOn shape p.from → IsStep p → k ≡ key shape p.from p.dir → IsNumbered shape (set numbers k n) n p
  now_numbered n k p on step at = record {
    on = on;
    step = step;
    number = rw at (get_or-set_same numbers (key shape p.from p.dir) n 0 (key_within p.from p.dir on));
  }

  -- One push more.
  pub numbered_more : (push : Push) (k : ℕ) → IsOn shape push.from → IsStep push → k ≡ key shape push.from push.dir
      → ((p : Push) → Contains pushes p → IsThat push.from push.dir p → ⊥) → AreNumbered shape (pushes ++ push ∷ []) (set numbers k (length pushes))
  numbered_more push k on step at none = record {
    long = length-set numbers k (length pushes) ∙ are.long;
    each = λ m d lt. elim (cases_lt m (length pushes)) [
      | inl low ↦
          let here : get_or (pushes ++ push ∷ []) m d ≡ get_or pushes m d = grind (arith, common_steps) in
          rw here (still_numbered m k (length pushes) (get_or pushes m d) push (are.each m d low) on at (none (get_or pushes m d) (m, low, get_or_default pushes m (get_or pushes m d) d low)))
      | inr past ↦
          let last : m ≡ length pushes = grind (arith, common_steps) in
          let here : get_or (pushes ++ push ∷ []) m d ≡ push = grind (arith, common_steps) in
          rw (here, last) (now_numbered (length pushes) k push on step at)
    ];
  }

  -- ---- one push less
  module _ (n : ℕ) (x last : Push) (lt : n < length pushes) (x_is : x ≡ get_or pushes n x) (last_is : last ≡ get_or pushes (length pushes - 1) last) (ys : List Push)
      (ys_is : ys ≡ swap_remove pushes n x) where
    pub taken_is : IsNumbered shape numbers n x
    taken_is = subst (IsNumbered shape numbers n) (sym x_is) (are.each n x lt)

    pub kept_number : (k v : ℕ) → k ≡ key shape x.from x.dir → v ≡ get_or numbers k v → v ≡ n
    kept_number k v at read =
        let within = key_within x.from x.dir taken_is.on in
        read ∙ (get_or_default numbers k v 0 (rw at within) ∙ (ap (λ i. get_or numbers i 0) at ∙ taken_is.number))

    last_numbered : IsNumbered shape numbers (length pushes - 1) last
    last_numbered = subst (IsNumbered shape numbers (length pushes - 1)) (sym last_is) (are.each (length pushes - 1) last (omega arith))

    left_long : length ys ≡ length pushes - 1
    left_long = grind (arith, common_steps)

    left_same : (m : ℕ) (d : Push) → m < length pushes - 1 → m ≢ n → get_or ys m d ≡ get_or pushes m d
    left_same m d low other = grind (arith, common_steps)

    left_last : (d : Push) → n < length pushes - 1 → get_or ys n d ≡ last
    left_last d low =
        let read : get_or ys n d ≡ get_or pushes (length pushes - 1) x = grind (arith, common_steps) in
        let there : length pushes - 1 < length pushes = omega arith in
        read ∙ (get_or_default pushes (length pushes - 1) x last there ∙ sym last_is)

    pub numbered_less : (k : ℕ) → k ≡ key shape last.from last.dir → AreNumbered shape ys (set numbers k n)
    numbered_less k at = record {
      long = length-set numbers k n ∙ are.long;
      each = λ m d low.
          let short = left_long in
          let under : m < length pushes - 1 = omega arith in
          elim (cases_lt m n) [
            | inl before ↦ rw (left_same m d under (λ e. omega arith)) (other m d under (λ e. omega arith))
            | inr from ↦ elim (cases_lt n m) [
              | inl past ↦ rw (left_same m d under (λ e. omega arith)) (other m d under (λ e. omega arith))
              | inr until ↦
                  let same : m ≡ n = omega arith in
                  rw (same, left_last d (rw same at under)) (now_numbered n k last last_numbered.on last_numbered.step at)
            ]
          ];
    } where
      other : (m : ℕ) (d : Push) → m < length pushes - 1 → m ≢ n → IsNumbered shape (set numbers k n) m (get_or pushes m d)
      other m d low apart =
          let there : m < length pushes = omega arith in
          let is = are.each m d there in
          still_numbered m k n (get_or pushes m d) last is last_numbered.on at
          (λ that. let one = one_number m (length pushes - 1) (get_or pushes m d) last is last_numbered that.cell that.way in omega arith)

    -- No push that is left moves that box in that direction.
    pub taken_alone : (p : Push) → Contains ys p → IsThat x.from x.dir p → ⊥
    taken_alone p (m, low, is) that =
        let short = left_long in
        let under : m < length pushes - 1 = omega arith in
        elim (cases_lt m n) [
          | inl before ↦ apart m under (λ e. omega arith) (sym (left_same m p under (λ e. omega arith)) ∙ (get_or_default ys m p _ low ∙ is))
          | inr from ↦ elim (cases_lt n m) [
            | inl past ↦ apart m under (λ e. omega arith) (sym (left_same m p under (λ e. omega arith)) ∙ (get_or_default ys m p _ low ∙ is))
            | inr until ↦
                let same : m ≡ n = omega arith in
                let shorter = rw same at under in
                let is_last : last ≡ p = sym (left_last p shorter) ∙ (ap (λ i. get_or ys i p) (sym same) ∙ (get_or_default ys m p _ low ∙ is)) in
                let one = one_number (length pushes - 1) n last x last_numbered taken_is (ap (λ q. q.from) is_last ∙ that.cell) (ap (λ q. q.dir) is_last ∙ that.way) in
                omega arith
          ]
        ] where
          apart : (m : ℕ) → m < length pushes - 1 → m ≢ n → get_or pushes m p ≡ p → ⊥
          apart m low other read =
              let there : m < length pushes = omega arith in
              let is = are.each m p there in
              other (one_number m n (get_or pushes m p) x is taken_is (ap (λ q. q.from) read ∙ that.cell) (ap (λ q. q.dir) read ∙ that.way))

-- A push was found exactly if it has a number.
pub told : (pushes : List Push) (from : Cell) (dir : Dir) (found : Option ℕ)
    → MatchOption found ((p : Push) → Contains pushes p → IsThat from dir p → ⊥) (λ n. (n < length pushes) × ((p : Push) → IsThat from dir (get_or pushes n p)))
    → MatchBool (is_some found) ((p : Push) × Contains pushes p × IsThat from dir p) ((p : Push) → Contains pushes p → IsThat from dir p → ⊥)
told pushes from dir None none = none
told [] from dir (Some n) (lt, is) = absurd (omega arith)
told (p ∷ ps) from dir (Some n) (lt, is) = (get_or (p ∷ ps) n p, (n, lt, get_or_default (p ∷ ps) n (get_or (p ∷ ps) n p) p lt), is p)
