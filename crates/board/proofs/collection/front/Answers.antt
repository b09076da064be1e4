-- A turn looks at 32 bytes. If all are board characters, the front goes on after them (`tested_wall`, `tested_more`), and otherwise it ends
-- at the first that is none.
use Rattle.std.proofs.Common.{◌≡◌, ℕ, ◌+◌, ◌-◌, ◌<◌, ◌≤◌, Bool, List, length, min, get_or, sym, ◌∙◌, ap, inl, inr, arith}
use Rattle.std.specs.Int.{bit_not, w64, trailing_zeros}
use Rattle.std.proofs.lemmas.Bool.{cases_lt}
use Rattle.std.proofs.lemmas.List.{get_or_past}
use Rattle.cellset.specs.Bits.{bit}
use Rattle.board.specs.Characters.{is_wall, is_board_character}
use Rattle.board.specs.Lines.{byte_at}
use Rattle.board.proofs.Fronts.{first_other, front_of, front_whole, tested_more, tested_wall}
use Rattle.board.proofs.collection.front.Goals as goal
use Rattle.board.proofs.collection.front.Goals.{then-first_bits-ne0, else-first_bits-ne0}

-- two blocks of 16 bytes are 32 bytes of the text
both_blocks : (is_kind : ℕ → Bool) (text low high : List ℕ) (at next low_word high_word word : ℕ) → at ≤ length text → next ≡ min (at + 16) (length text)
    → ((k : ℕ) → k < 16 → get_or low k 0 ≡ byte_at text (at + k)) → ((k : ℕ) → k < 16 → get_or high k 0 ≡ byte_at text (next + k))
    → ((k : ℕ) → k < 16 → bit low_word k ≡ is_kind (get_or low k 0)) → ((k : ℕ) → k < 16 → bit high_word k ≡ is_kind (get_or high k 0))
    → ((k : ℕ) → k < 16 → bit word k ≡ bit low_word k) → ((k : ℕ) → k < 16 → bit word (16 + k) ≡ bit high_word k)
    → (k : ℕ) → k < 32 → bit word k ≡ is_kind (byte_at text (at + k))
both_blocks is_kind text low high at next low_word high_word word within next_is is_low is_high low_bits high_bits low_is high_is k small = elim (cases_lt k 16) [
  | inl early ↦ low_is k early ∙ low_bits k early ∙ ap is_kind (is_low k early)
  | inr late ↦
      let j = k - 16 in
      let place : 16 + j ≡ k = omega arith in
      ap (bit word) (sym place) ∙ high_is j (omega arith) ∙ high_bits j (omega arith) ∙ ap is_kind (is_high j (omega arith) ∙ elim (cases_lt (length text) (at + 16)) [
        | inl past ↦ get_or_past text (next + j) 10 (omega arith) ∙ sym (get_or_past text (at + k) 10 (omega arith))
        | inr inside ↦ let same : next + j ≡ at + k = omega arith in ap (byte_at text) same
      ])
]

pub both_halves-others-requires : goal.both_halves-others-requires
both_halves-others-requires c k past = (c.characters_in.ensures.past k past, c.characters_in-in-blocks-2.ensures.past k past)

pub returns-then-count-lt32 : goal.returns-then-count-lt32
returns-then-count-lt32 c =
    let text = c.args.text.now in
    let at = c.blocks-2.len in
    let are = both_blocks is_board_character text _ _ at _ _ _ c.both_halves-others.result c.blocks-2.invariant.within c.min.ensures c.block_at-low.ensures c.block_at-high.ensures
    c.characters_in.ensures.inside c.characters_in-in-blocks-2.ensures.inside c.both_halves-others.ensures.low c.both_halves-others.ensures.high in
    let found = first_other (λ k. byte_at text (at + k)) c.both_halves-others.result (omega arith) are c.both_halves-others.ensures.past (omega arith) in
    let walls = both_blocks is_wall text _ _ at _ _ _ c.both_halves.result c.blocks-2.invariant.within c.min.ensures c.block_at-low.ensures c.block_at-high.ensures
    c.walls_in.ensures.inside c.walls_in-in-blocks-2.ensures.inside c.both_halves.ensures.low c.both_halves.ensures.high in
    let bits : (k : ℕ) → k < trailing_zeros w64 (bit_not w64 c.both_halves-others.result) → bit c.first_bits.result k ≡ is_wall (byte_at text (at + k)) = λ k low. c.first_bits.ensures.inside k low ∙ walls k (omega (arith, found.0)) in
    elim c.if-first_bits-ne0.branch [
      | then-first_bits-ne0 w ↦ rw w.has_wall-is (front_of _ _ _ (tested_wall text at _ (omega arith) found.1 c.blocks-2.has_wall c.blocks-2.invariant c.first_bits.result (omega arith)
          bits c.first_bits.ensures.outside w.if-first_bits-ne0.true) (found.2 c.if-count-lt32.true))
      | else-first_bits-ne0 w ↦ rw w.has_wall-is (front_of _ _ _ (tested_more text at _ (omega arith) found.1 c.blocks-2.has_wall c.blocks-2.invariant c.first_bits.result (omega arith)
          bits c.first_bits.ensures.outside w.if-first_bits-ne0.false) (found.2 c.if-count-lt32.true))
    ]

pub blocks-2-preserved : goal.blocks-2-preserved
blocks-2-preserved c =
    let text = c.args.text.now in
    let at = c.blocks-2.len in
    let are = both_blocks is_board_character text _ _ at _ _ _ c.both_halves-others.result c.blocks-2.invariant.within c.min.ensures c.block_at-low.ensures c.block_at-high.ensures
    c.characters_in.ensures.inside c.characters_in-in-blocks-2.ensures.inside c.both_halves-others.ensures.low c.both_halves-others.ensures.high in
    let found = first_other (λ k. byte_at text (at + k)) c.both_halves-others.result (omega arith) are c.both_halves-others.ensures.past (omega arith) in
    let walls = both_blocks is_wall text _ _ at _ _ _ c.both_halves.result c.blocks-2.invariant.within c.min.ensures c.block_at-low.ensures c.block_at-high.ensures
    c.walls_in.ensures.inside c.walls_in-in-blocks-2.ensures.inside c.both_halves.ensures.low c.both_halves.ensures.high in
    let bits : (k : ℕ) → k < trailing_zeros w64 (bit_not w64 c.both_halves-others.result) → bit c.first_bits.result k ≡ is_wall (byte_at text (at + k)) = λ k low. c.first_bits.ensures.inside k low ∙ walls k (omega (arith, found.0)) in
    elim c.if-first_bits-ne0.branch [
      | then-first_bits-ne0 w ↦ rw w.has_wall-is (tested_wall text at _ (omega arith) found.1 c.blocks-2.has_wall c.blocks-2.invariant c.first_bits.result (omega arith)
          bits c.first_bits.ensures.outside w.if-first_bits-ne0.true)
      | else-first_bits-ne0 w ↦ rw w.has_wall-is (tested_more text at _ (omega arith) found.1 c.blocks-2.has_wall c.blocks-2.invariant c.first_bits.result (omega arith)
          bits c.first_bits.ensures.outside w.if-first_bits-ne0.false)
    ]

pub returns : goal.returns
returns c = front_whole _ _ _ c.blocks-2-test.false c.blocks-2.invariant
