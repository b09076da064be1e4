-- The board characters that a text begins with, 32 at a time.
-- A block's word has a bit for each board character, so the lowest bit of its complement is the first byte that is none, or comes after the
-- block. A wall is among the characters if one of the bits below that is a wall's.
use Rattle.std.proofs.Common.{◌≡◌, ◌≢◌, ℕ, suc, ◌+◌, ◌-◌, ◌^◌, ◌<◌, ◌≤◌, Bool, true, false, not, ◌&&◌, ◌||◌, List, [], ◌∷◌, length, take, get_or, refl, sym, ◌∙◌, ap, inl, inr, arith}
use Rattle.std.specs.List.{list_any, list_all}
use Rattle.std.specs.Prelude.{nat_eq}
use Rattle.std.specs.Int.{bit_not, w64, trailing_zeros}
use Rattle.std.proofs.lemmas.Bool.{cases_lt, false≢true}
use Rattle.std.proofs.lemmas.List.{get_or_past, get_or-take, length-take-le}
use Rattle.std.proofs.lemmas.List.Folds.{list_any_at}
use Rattle.std.proofs.lemmas.Nat.Bits.{bit_at-trailing_zeros}
use Rattle.cellset.specs.Bits.{bit}
use Rattle.cellset.proofs.Bits.{bit-not}
use Rattle.cellset.proofs.WordLoops.{zero_bit}
use Rattle.board.specs.Characters.{is_wall, is_board_character}
use Rattle.board.specs.Levels.{IsFront}
use Rattle.board.specs.Lines.{byte_at}
use Rattle.board.proofs.RowBytes.{lowest}

-- ---- tests of all bytes
module _ (is_kind : ℕ → Bool) where
  no_byte : (line : List ℕ) → ((i : ℕ) → i < length line → is_kind (get_or line i 10) ≡ false) → list_any is_kind line ≡ false
  no_byte [] none = refl
  no_byte (b ∷ line) none = (λ k. none 0 (omega arith) k || no_byte line (λ i lt. none (suc i) (omega arith)) k)

  each_byte : (line : List ℕ) → ((i : ℕ) → i < length line → is_kind (get_or line i 10) ≡ true) → list_all is_kind line ≡ true
  each_byte [] all = refl
  each_byte (b ∷ line) all = (λ k. all 0 (omega arith) k && each_byte line (λ i lt. all (suc i) (omega arith)) k)

not_false : (b : Bool) → not b ≡ false → b ≡ true
not_false true h = refl
not_false false h = absurd (false≢true (sym h))

not_true : (b : Bool) → not b ≡ true → b ≡ false
not_true false h = refl
not_true true h = absurd (false≢true h)

-- the first n bytes are characters of boards, and the test says whether a wall is among them
pub record IsTested (text : List ℕ) (n : ℕ) (has_wall : Bool) : Type 0 where
  pub within : n ≤ length text
  pub all : (i : ℕ) → i < n → is_board_character (byte_at text i) ≡ true
  pub wall : has_wall ≡ true → (i : ℕ) × (i < n) × (is_wall (byte_at text i) ≡ true)
  pub no_wall : has_wall ≡ false → (i : ℕ) → i < n → is_wall (byte_at text i) ≡ false

-- the first of 32 bytes that is no board character, or the end of them
pub first_other : (byte : ℕ → ℕ) (characters : ℕ) → characters < 2 ^ 64 → ((k : ℕ) → k < 32 → bit characters k ≡ is_board_character (byte k))
    → ((k : ℕ) → 32 ≤ k → bit characters k ≡ false) → let n = trailing_zeros w64 (bit_not w64 characters) in bit_not w64 characters < 2 ^ 64
    → (n ≤ 32) × ((k : ℕ) → k < n → is_board_character (byte k) ≡ true) × (n < 32 → is_board_character (byte n) ≡ false)
first_other byte characters fits is past fits_not =
    let low = lowest (bit_not w64 characters) 32 fits_not (bit-not characters 32 fits (omega arith) ∙ ap not (past 32 (omega arith))) in (
      low.0,
      (λ k less. sym (is k (omega arith)) ∙ not_false (bit characters k) (sym (bit-not characters k fits (omega arith)) ∙ low.2 k less)),
      λ less. sym (is _ less) ∙ not_true (bit characters _) (sym (bit-not characters _ fits (omega arith)) ∙ low.1),
    )

module _ (text : List ℕ) (n count : ℕ) (inside : n < length text)
    (all : (k : ℕ) → k < count → is_board_character (byte_at text (n + k)) ≡ true) where
  -- a text has no board characters past its end
  pub count_within : n + count ≤ length text
  count_within = elim (cases_lt (length text) (n + count)) [
    | inl more ↦ absurd (
        let place : n + (length text - n) ≡ length text = omega arith in
        false≢true (ap is_board_character (sym (get_or_past text (length text) 10 (omega arith))) ∙ ap (λ k. is_board_character (byte_at text k)) (sym place)
        ∙ all (length text - n) (omega arith)))
    | inr less ↦ less
  ]

  module _ (has_wall : Bool) (so_far : IsTested text n has_wall) (walls : ℕ) (fits : walls < 2 ^ 64)
      (is : (k : ℕ) → k < count → bit walls k ≡ is_wall (byte_at text (n + k))) (past : (k : ℕ) → count ≤ k → bit walls k ≡ false) where
    all_more : (i : ℕ) → i < n + count → is_board_character (byte_at text i) ≡ true
    all_more i low = elim (cases_lt i n) [
      | inl old ↦ so_far.all i old
      | inr new ↦ let place : n + (i - n) ≡ i = omega arith in ap (λ k. is_board_character (byte_at text k)) (sym place) ∙ all (i - n) (omega arith)
    ]

    pub tested_wall : walls ≢ 0 → IsTested text (n + count) true
    tested_wall some =
        let low = bit_at-trailing_zeros w64 walls (omega arith) fits in
        let k = trailing_zeros w64 walls in
        let set : bit walls k ≡ true = ap (λ b. nat_eq b 1) low.1 in
        let below : k < count = elim (cases_lt k count) [
          | inl less ↦ less
          | inr more ↦ absurd (false≢true (sym (past k more) ∙ set))
        ] in
        record { within = count_within; all = all_more; wall = λ _. (n + k, omega arith, sym (is k below) ∙ set); no_wall = λ is. absurd (false≢true (sym is)) }

    pub tested_more : walls ≡ 0 → IsTested text (n + count) has_wall
    tested_more nothing = record {
      within = count_within;
      all = all_more;
      wall = λ is. let old = so_far.wall is in (old.0, omega (arith, old.1), old.2);
      no_wall = λ none i low. elim (cases_lt i n) [
        | inl old ↦ so_far.no_wall none i old
        | inr new ↦
            let place : n + (i - n) ≡ i = omega arith in
            ap (λ k. is_wall (byte_at text k)) (sym place) ∙ sym (is (i - n) (omega arith)) ∙ ap (λ w. bit w (i - n)) nothing ∙ zero_bit (i - n)
      ];
    }

pub front_of : (text : List ℕ) (n : ℕ) (has_wall : Bool) → IsTested text n has_wall → is_board_character (byte_at text n) ≡ false → IsFront text n has_wall
front_of text n has_wall tested ends = record {
  within = tested.within;
  board = each_byte is_board_character (take n text) (λ i low. ap is_board_character (get_or-take n text i 10 (omega (arith, long))) ∙ tested.all i (omega (arith, long)));
  ends = ends;
  wall = by_wall has_wall tested.wall tested.no_wall;
}
  where
    long : length (take n text) ≡ n
    long = length-take-le n text tested.within

    by_wall : (b : Bool) → (b ≡ true → (i : ℕ) × (i < n) × (is_wall (byte_at text i) ≡ true)) → (b ≡ false → (i : ℕ) → i < n → is_wall (byte_at text i) ≡ false)
        → b ≡ list_any is_wall (take n text)
    by_wall true some none = let wall = some refl in
        sym (list_any_at is_wall (take n text) wall.0 10 (omega (arith, long, wall.1)) (ap is_wall (get_or-take n text wall.0 10 wall.1) ∙ wall.2))
    by_wall false some none = sym (no_byte is_wall (take n text) (λ i low. ap is_wall (get_or-take n text i 10 (omega (arith, long))) ∙ none refl i (omega (arith, long))))

-- a text that is tested whole ends there
pub front_whole : (text : List ℕ) (n : ℕ) (has_wall : Bool) → length text ≤ n → IsTested text n has_wall → IsFront text n has_wall
front_whole text n has_wall past tested = front_of text n has_wall tested (ap is_board_character (get_or_past text n 10 past))
