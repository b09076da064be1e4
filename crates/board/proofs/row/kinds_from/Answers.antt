use Rattle.std.proofs.Common.{◌≡◌, ℕ, Bool, ◌+◌, ◌-◌, ◌*◌, ◌%◌, ◌^◌, ◌<◌, ◌≤◌, sym, ◌∙◌, ap, inl, inr, arith}
use Rattle.std.specs.Prelude.{bit_or}
use Rattle.std.proofs.lemmas.Bool.{cases_lt}
use Rattle.board.specs.Characters.{is_wall, is_player, is_box, is_goal}
use Rattle.board.specs.Lines.{byte_at}
use Rattle.board.specs.Parts.{AreKindsOf, IsMaskOf}
use Rattle.board.specs.declared.row.Kinds.{Kinds}
use Rattle.board.proofs.RowBytes.{mask_both}
use Rattle.board.proofs.row.kinds_from.Goals as goal

-- the kinds of the bytes of a block are those of the same bytes of the text
same_mask : (is_kind : ℕ → Bool) (a b : ℕ → ℕ) (n word : ℕ) → n ≤ 32 → ((k : ℕ) → k < 32 → a k ≡ b k) → IsMaskOf is_kind a n word → IsMaskOf is_kind b n word
same_mask is_kind a b n word few same is = record { inside = λ k low. is.inside k low ∙ ap is_kind (same k (omega arith)); outside = is.outside }

same_kinds : (a b : ℕ → ℕ) (kinds : Kinds) → ((k : ℕ) → k < 32 → a k ≡ b k) → AreKindsOf a 32 kinds → AreKindsOf b 32 kinds
same_kinds a b kinds same is = record {
  within = is.within;
  before = λ k low here. is.before k low (same k (omega (arith, is.within)) ∙ here);
  feed = λ less. sym (same kinds.count less) ∙ is.feed less;
  wall = same_mask is_wall a b kinds.count kinds.walls is.within same is.wall;
  goal = same_mask is_goal a b kinds.count kinds.goals is.within same is.goal;
  box = same_mask is_box a b kinds.count kinds.boxes is.within same is.box;
  player = same_mask is_player a b kinds.count kinds.players is.within same is.player;
}

pub returns-then-low-lt32 : goal.returns-then-low-lt32
returns-then-low-lt32 c =
    let is = same_kinds _ (λ k. byte_at c.args.text.now (c.args.from + k)) _ c.block_at.ensures c.kinds_in-low.ensures in
    record { within = omega (arith, is.within); before = is.before; feed = λ _. is.feed c.if-low-lt32.true; wall = is.wall; goal = is.goal; box = is.box; player = is.player }

-- the kinds of the bytes of two blocks
both_kinds : (byte : ℕ → ℕ) (low high : Kinds) → 32 ≤ low.count → AreKindsOf byte 32 low → AreKindsOf (λ k. byte (32 + k)) 32 high
    → AreKindsOf byte 64 (record {
      walls = bit_or low.walls (high.walls * 2 ^ 32 % 2 ^ 64);
      goals = bit_or low.goals (high.goals * 2 ^ 32 % 2 ^ 64);
      boxes = bit_or low.boxes (high.boxes * 2 ^ 32 % 2 ^ 64);
      players = bit_or low.players (high.players * 2 ^ 32 % 2 ^ 64);
      count = 32 + high.count;
    })
both_kinds byte low high all is_low is_high =
    let whole : low.count ≡ 32 = omega (arith, is_low.within) in
    record {
      within = omega (arith, is_high.within);
      before = λ k less here. elim (cases_lt k 32) [
        | inl in_low ↦ is_low.before k (omega arith) here
        | inr in_high ↦ let place : 32 + (k - 32) ≡ k = omega arith in is_high.before (k - 32) (omega arith) (ap byte place ∙ here)
      ];
      feed = λ less. is_high.feed (omega arith);
      wall = mask_both is_wall byte high.count _ _ is_high.within (rw whole at is_low.wall) is_high.wall;
      goal = mask_both is_goal byte high.count _ _ is_high.within (rw whole at is_low.goal) is_high.goal;
      box = mask_both is_box byte high.count _ _ is_high.within (rw whole at is_low.box) is_high.box;
      player = mask_both is_player byte high.count _ _ is_high.within (rw whole at is_low.player) is_high.player;
    }

pub returns : goal.returns
returns c =
    let byte = λ (k : ℕ). byte_at c.args.text.now (c.args.from + k) in
    both_kinds byte _ _ c.if-low-lt32.false (same_kinds _ byte _ c.block_at.ensures c.kinds_in-low.ensures)
    (same_kinds _ (λ k. byte (32 + k)) _ (λ k low.
    let place : c.args.from + 32 + k ≡ c.args.from + (32 + k) = omega arith in
    c.block_at-2.ensures k low ∙ ap (byte_at c.args.text.now) place) c.kinds_in-high.ensures)
