-- The bytes of a row as bits, up to the line feed that ends it.
-- A word of the line feeds of a block, with one bit more after them, has its lowest bit where the first line feed is, or after the block. So
-- the bytes before it are those of the row. The words of two blocks, one moved up by 32 places, are the word of both. The bits of a row's
-- bytes, moved by one place in its first part, are the bits of its columns, which count from 1. Past a row's bytes there is at most a
-- carriage return before the line feed, which is of no kind.
use Rattle.std.proofs.Common.{◌≡◌, ◌≢◌, ℕ, suc, ◌+◌, ◌-◌, ◌*◌, ◌%◌, ◌^◌, ◌<◌, ◌≤◌, Bool, true, false, ◌==◌, ◌||◌, List, length, min, take, drop, get_or, refl, sym, ◌∙◌, ap, inl, inr, arith}
use Rattle.std.specs.Prelude.{nat_eq, bit_or}
use Rattle.std.specs.Int.{w64, trailing_zeros}
use Rattle.std.proofs.lemmas.Bool.{cases_lt, false≢true, eqb-true, eq-eqb}
use Rattle.std.proofs.lemmas.List.{drop_all, get_or_default, get_or_past, get_or-take, length-take-le}
use Rattle.std.proofs.lemmas.Nat.Bits.{bit_at-trailing_zeros}
use Rattle.std.proofs.Math.Bool.{or-false}
use Rattle.cellset.specs.Bits.{bit}
use Rattle.cellset.proofs.Bits.{bit-or}
use Rattle.cellset.proofs.Shifts.{bit_up, bit_up_below}
use Rattle.cellset.proofs.WordLoops.{zero_bit}
use Rattle.board.specs.Characters.{space}
use Rattle.board.specs.Lines.{byte_at, first_row, past_end}
use Rattle.board.specs.Parts.{AreKindsOf, IsMaskOf, IsWordOf}
use Rattle.board.specs.declared.row.Kinds.{Kinds}
use Rattle.lines.specs.Lines.{IsFirstLine}
use Rattle.board.proofs.FirstRows.{IsFirstRow, first_of, past_cases, row_is}

-- ---- the lowest bit of a word
set_bit : (word k : ℕ) → bit word k ≡ true → word ≢ 0
set_bit word k is none = false≢true (sym (zero_bit k) ∙ ap (λ w. bit w k) (sym none) ∙ is)

pub lowest : (word last : ℕ) → word < 2 ^ 64 → bit word last ≡ true
    → (trailing_zeros w64 word ≤ last) × (bit word (trailing_zeros w64 word) ≡ true) × ((k : ℕ) → k < trailing_zeros w64 word → bit word k ≡ false)
lowest word last fits is =
    let some = set_bit word last is in
    let low = bit_at-trailing_zeros w64 word (omega arith) fits in
    let below : (k : ℕ) → k < trailing_zeros w64 word → bit word k ≡ false = λ k less. ap (λ b. nat_eq b 1) (low.2 k less) in
    (grind (arith, cases_lt, false≢true), ap (λ b. nat_eq b 1) low.1, below)

-- ---- line feeds
-- the first line feed of 32 bytes, or the end of them
pub first_feed : (byte : ℕ → ℕ) (feeds word : ℕ) → word ≡ bit_or feeds (1 * 2 ^ 32 % 2 ^ 64) → word < 2 ^ 64 → ((k : ℕ) → k < 32 → bit feeds k ≡ (byte k == 10))
    → (trailing_zeros w64 word ≤ 32) × ((k : ℕ) → k < trailing_zeros w64 word → byte k ≢ 10) × (trailing_zeros w64 word < 32 → byte (trailing_zeros w64 word) ≡ 10)
first_feed byte feeds word word_is fits is = (
  low.0,
  (λ k less here. false≢true (sym (low.2 k less) ∙ ap (λ w. bit w k) word_is ∙ bit-or feeds _ k ∙ ap (λ b. b || bit (1 * 2 ^ 32 % 2 ^ 64) k) (is k (omega (arith, low.0)) ∙ eq-eqb (byte k) 10 here))),
  (λ less. eqb-true (byte t) 10 (sym (is t less) ∙ sym (or-false (bit feeds t)) ∙ ap (λ b. bit feeds t || b) (sym (bit_up_below 1 32 t (omega arith) less))
      ∙ sym (bit-or feeds _ t) ∙ ap (λ w. bit w t) (sym word_is) ∙ low.1)),
)
  where
    t : ℕ
    t = trailing_zeros w64 word

    low : (trailing_zeros w64 word ≤ 32) × (bit word (trailing_zeros w64 word) ≡ true) × ((k : ℕ) → k < trailing_zeros w64 word → bit word k ≡ false)
    low = lowest word 32 fits (ap (λ w. bit w 32) word_is ∙ bit-or feeds _ 32 ∙ ap (λ b. bit feeds 32 || b) refl ∙ grind arith)

-- ---- two blocks
pub mask_both : (is_kind : ℕ → Bool) (byte : ℕ → ℕ) (n low high : ℕ) → n ≤ 32 → IsMaskOf is_kind byte 32 low → IsMaskOf is_kind (λ k. byte (32 + k)) n high
    → IsMaskOf is_kind byte (32 + n) (bit_or low (high * 2 ^ 32 % 2 ^ 64))
mask_both is_kind byte n low high few is_low is_high = record {
  inside = λ k less. elim (cases_lt k 32) [
    | inl in_low ↦ bit-or low _ k ∙ ap (λ b. bit low k || b) (bit_up_below high 32 k (omega arith) in_low) ∙ or-false (bit low k) ∙ is_low.inside k in_low
    | inr in_high ↦
        let place : 32 + (k - 32) ≡ k = omega arith in
        bit-or low _ k ∙ ap (λ b. b || bit (high * 2 ^ 32 % 2 ^ 64) k) (is_low.outside k in_high (omega arith)) ∙ bit_up high 32 k (omega arith) in_high
        ∙ is_high.inside (k - 32) (omega arith) ∙ ap (λ j. is_kind (byte j)) place
  ];
  outside = λ k past small.
      bit-or low _ k ∙ ap (λ b. b || bit (high * 2 ^ 32 % 2 ^ 64) k) (is_low.outside k (omega arith) small) ∙ bit_up high 32 k small (omega arith)
      ∙ is_high.outside (k - 32) (omega arith) (omega arith);
}

-- ---- the columns of a row
module _ (is_kind : ℕ → Bool) (no_floor : is_kind space ≡ false) (no_return : is_kind 13 ≡ false) (text : List ℕ) (len feed : ℕ) (row : IsFirstRow text len feed) where
  -- a byte before the line feed is a byte of the row, or of no kind
  in_row : (j : ℕ) → j < feed → is_kind (byte_at text j) ≡ is_kind (get_or (take len text) j space)
  in_row j before = elim (cases_lt j len) [
    | inl inside ↦ ap is_kind (get_or_default text j 10 space (omega (arith, row.within)) ∙ sym (get_or-take len text j space inside))
    | inr past ↦
        let last : j ≡ len = omega (arith, row.end) in
        ap is_kind (ap (byte_at text) last ∙ row.return (omega arith)) ∙ no_return
        ∙ sym (ap is_kind (get_or_past (take len text) j space (omega (arith, length-take-le len text (omega (arith, row.within, row.end))))) ∙ no_floor)
  ]

  past_row : (j : ℕ) → feed ≤ j → is_kind (get_or (take len text) j space) ≡ false
  past_row j past = ap is_kind (get_or_past (take len text) j space (omega (arith, length-take-le len text (omega (arith, row.within, row.end)), row.end))) ∙ no_floor

  -- the bits of a row's bytes, each at the place of its column, are the word of that part of the row
  pub columns_word : (part from lead count bits : ℕ) → from + 1 ≡ 64 * part + lead → lead ≡ 1 - part → ((k : ℕ) → k < from → byte_at text k ≢ 10)
      → ((k : ℕ) → k < count → byte_at text (from + k) ≢ 10) → (count < 64 → byte_at text (from + count) ≡ 10) → IsMaskOf is_kind (λ k. byte_at text (from + k)) count bits
      → IsWordOf is_kind (take len text) part (bits * 2 ^ lead % 2 ^ 64)
  columns_word part from lead count bits from_is lead_is before there stop is k small = elim (cases_lt k lead) [
    | inl none ↦
        let zero_column : 64 * part + k ≡ 0 = omega arith in
        rw zero_column (bit_up_below bits lead k small none ∙ sym no_floor)
    | inr some ↦
        let i = k - lead in
        let column : 64 * part + k ≡ suc (from + i) = omega arith in
        rw column (bit_up bits lead k small some ∙ elim (cases_lt i count) [
          | inl inside ↦ is.inside i inside ∙ in_row (from + i) (elim (cases_lt (from + i) feed) [
            | inl less ↦ less
            | inr reached ↦ absurd (elim (cases_lt feed from) [
              | inl early ↦ before feed early row.found
              | inr late ↦
                  let place : from + (feed - from) ≡ feed = omega arith in
                  there (feed - from) (omega arith) (ap (byte_at text) place ∙ row.found)
            ])
          ])
          | inr past ↦ is.outside i past (omega arith) ∙ sym (past_row (from + i) (elim (cases_lt (from + i) feed) [
            | inl less ↦ absurd (row.before (from + count) (omega arith) (stop (omega arith)))
            | inr reached ↦ reached
          ]))
        ])
  ]

-- the bits of a row's bytes are the word of the first row of the text
pub row_word : (is_kind : ℕ → Bool) → is_kind space ≡ false → is_kind 13 ≡ false → (text : List ℕ) → 0 < length text → (part from lead : ℕ) (kinds : Kinds)
    → lead ≡ 1 - part → from + 1 ≡ 64 * part + (1 - part) → ((k : ℕ) → k < from → byte_at text k ≢ 10) → AreKindsOf (λ k. byte_at text (from + k)) 64 kinds
    → (bits : ℕ) → IsMaskOf is_kind (λ k. byte_at text (from + k)) kinds.count bits → IsWordOf is_kind (first_row text) part (bits * 2 ^ lead % 2 ^ 64)
row_word is_kind no_floor no_return text some part from lead kinds lead_is from_is before are bits mask =
    let (len, feed, row, first) = first_of text some in
    rw (row_is _ _ _ first) (columns_word is_kind no_floor no_return text len feed row part from lead kinds.count bits (omega arith) lead_is before are.before are.feed mask)

-- ---- the end of a row
-- after 64 bytes without a line feed the row goes on
pub seen_more : (text : List ℕ) (from count lead : ℕ) → from ≤ length text → ((k : ℕ) → k < from → byte_at text k ≢ 10)
    → ((k : ℕ) → k < count → byte_at text (from + k) ≢ 10) → 64 ≤ count
    → (from + (64 - lead) ≤ length text) × ((k : ℕ) → k < from + (64 - lead) → byte_at text k ≢ 10)
seen_more text from count lead within before there all = (
  (elim (cases_lt (length text) (from + (64 - lead))) [
    | inl less ↦ absurd (
        let place : from + (length text - from) ≡ length text = omega arith in
        there (length text - from) (omega arith) (ap (byte_at text) place ∙ get_or_past text (length text) 10 (omega arith)))
    | inr enough ↦ enough
  ]),
  λ k low. elim (cases_lt k from) [
    | inl old ↦ before k old
    | inr new ↦ λ is. let place : from + (k - from) ≡ k = omega arith in there (k - from) (omega arith) (ap (byte_at text) place ∙ is)
  ],
)

module _ (text : List ℕ) (some : 0 < length text) where
  -- the line feed of a part ends the row
  feed_is : (len feed from count : ℕ) → IsFirstRow text len feed → ((k : ℕ) → k < from → byte_at text k ≢ 10) → ((k : ℕ) → k < count → byte_at text (from + k) ≢ 10)
      → byte_at text (from + count) ≡ 10 → feed ≡ from + count
  feed_is len feed from count row before there stop =
      let most : feed ≤ from + count = elim (cases_lt (from + count) feed) [
        | inl less ↦ absurd (row.before (from + count) less stop)
        | inr more ↦ more
      ] in
      let least : from + count ≤ feed = elim (cases_lt feed (from + count)) [
        | inl less ↦ absurd (elim (cases_lt feed from) [
          | inl early ↦ before feed early row.found
          | inr late ↦
              let place : from + (feed - from) ≡ feed = omega arith in
              there (feed - from) (omega arith) (ap (byte_at text) place ∙ row.found)
        ])
        | inr more ↦ more
      ] in
      omega arith

  rest_is : (feed next : ℕ) → next ≡ min (feed + 1) (length text) → drop (feed + 1) text ≡ drop next text
  rest_is feed next is = elim (cases_lt feed (length text)) [
    | inl inside ↦ let same : feed + 1 ≡ next = omega arith in ap (λ n. drop n text) same
    | inr past ↦ drop_all (feed + 1) text (omega arith) ∙ sym (drop_all next text (omega arith))
  ]

  pub next_in_part : (from count next : ℕ) → ((k : ℕ) → k < from → byte_at text k ≢ 10) → ((k : ℕ) → k < count → byte_at text (from + k) ≢ 10)
      → byte_at text (from + count) ≡ 10 → next ≡ min (from + count + 1) (length text) → IsFirstLine text (first_row text) (drop next text)
  next_in_part from count next before there stop is =
      let (len, feed, row, first) = first_of text some in
      let at = feed_is len feed from count row before there stop in
      rw (row_is _ _ _ first) (rw (rest_is feed next (omega arith)) at first)

  -- the row in the part is no longer than the part
  pub short_row : (from count : ℕ) → ((k : ℕ) → k < from → byte_at text k ≢ 10) → ((k : ℕ) → k < count → byte_at text (from + k) ≢ 10)
      → byte_at text (from + count) ≡ 10 → length (first_row text) ≤ from + count
  short_row from count before there stop =
      let (len, feed, row, first) = first_of text some in
      let at = feed_is len feed from count row before there stop in
      rw (row_is _ _ _ first) (omega (arith, length-take-le len text (omega (arith, row.within, row.end)), row.end))

  -- a row that fills its parts ends there
  pub next_past_parts : (from : ℕ) → from ≤ length text → ((k : ℕ) → k < from → byte_at text k ≢ 10) → length (first_row text) ≤ from
      → IsFirstLine text (first_row text) (drop (past_end text from) text)
  next_past_parts from within before long =
      let (len, feed, row, first) = first_of text some in
      let size : len ≤ from = omega (arith, rw (row_is _ _ _ first) at long, length-take-le len text (omega (arith, row.within, row.end))) in
      let least : from ≤ feed = elim (cases_lt feed from) [
        | inl less ↦ absurd (before feed less row.found)
        | inr more ↦ more
      ] in
      let same : drop (feed + 1) text ≡ drop (past_end text from) text = elim (past_cases text from) [
        | inl (inside, here, past) ↦
            let at : feed ≡ from = elim (cases_lt from feed) [
              | inl more ↦ absurd (row.before from more here)
              | inr less ↦ omega arith
            ] in
            let next : feed + 1 ≡ past_end text from = omega (arith, past) in ap (λ n. drop n text) next
        | inr (inl (inside, cr, lf, past)) ↦
            let at : feed ≡ from + 1 = elim (cases_lt from feed) [
              | inl more ↦ omega (arith, row.end)
              | inr less ↦ absurd (let here : feed ≡ from = omega arith in let both : 10 ≡ 13 = sym row.found ∙ ap (byte_at text) here ∙ cr in omega arith)
            ] in
            let next : feed + 1 ≡ past_end text from = omega (arith, past) in ap (λ n. drop n text) next
        | inr (inr (past, no_lf, no_cr_lf)) ↦ elim (cases_lt from (length text)) [
          | inl inside ↦ absurd (elim (cases_lt from feed) [
            | inl more ↦
                let last : feed ≡ from + 1 = omega (arith, row.end) in
                let is : len ≡ from = omega (arith, row.end) in
                no_cr_lf (omega (arith, row.whole (omega arith))) (rw is at (row.return (omega arith))) (rw last at row.found)
            | inr less ↦ let here : feed ≡ from = omega arith in no_lf inside (rw here at row.found)
          ])
          | inr end ↦ drop_all (feed + 1) text (omega arith) ∙ sym (drop_all (past_end text from) text (omega (arith, past)))
        ]
      ] in
      rw (row_is _ _ _ first) (rw same at first)
