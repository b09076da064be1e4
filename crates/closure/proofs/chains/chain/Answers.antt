-- The invariant says of each key that `first` has the last of the items so far with that key, and of each item so far that `next` has the
-- one before it with the same key (`IsLast`). A turn pushes what `first` has at the item's key, which is the last item before it with the
-- key (`before_more`). Then `first` gets the new item at this key, where it is the last one; every other key keeps its last item, because
-- the new one doesn't have that key (`lasts_more`). After the loop all items are chained.
use Rattle.std.proofs.Common.{◌≡◌, ℕ, ◌+◌, ◌<◌, List, [], ◌∷◌, ◌++◌, length, get_or, set, ◌∙◌, ap, arith}
use Rattle.std.{specs.Prelude.slice_index, proofs.Math.ListN.length-set, proofs.lemmas.Bool.cases_eq, proofs.lemmas.Bool.cases_lt}
use Rattle.std.proofs.lemmas.List.{get_or-set_same, get_or-set_other, get_or_default}
use Rattle.closure.{specs.Chains.IsLast, proofs.Lists.length_more, proofs.Lists.new_item, proofs.Lists.old_item}
use Rattle.closure.proofs.chains.chain.Goals as goal

-- The chains of the items so far, with one item more.
module _ (keys first next : List ℕ) (count item : ℕ) (far : item < length keys) (low : slice_index keys item < count) (firsts : length first ≡ count)
    (nexts : length next ≡ item)
    (lasts : (k : ℕ) → k < count → IsLast keys k item (slice_index first k)) where
  lasts_more : (k : ℕ) → k < count → IsLast keys k (item + 1) (slice_index (set first (slice_index keys item) (item + 1)) k)
  lasts_more k lt = grind (arith, cases_eq, get_or-set_same, get_or-set_other, cases_lt)

  before_more : (k : ℕ) → k ≡ get_or first (slice_index keys item) k → ((j : ℕ) → j < item → IsLast keys (slice_index keys j) j (slice_index next j))
      → (j : ℕ) → j < item + 1 → IsLast keys (slice_index keys j) j (slice_index (next ++ k ∷ []) j)
  before_more k is before j lt = grind (arith, get_or_default, cases_lt, old_item, new_item)

pub loop-item-preserved : goal.loop-item-preserved
loop-item-preserved c =
    let inv = c.loop-item.invariant in
    let far = c.loop-item-test.true in
    let low = c.requires c.loop-item.item far in
    record {
      firsts = rw c.in_ok-first-2.ensures.value (simp length-set inv.firsts);
      nexts = rw c.push_reserved.ensures.items (length_more c.loop-item.next.items c.index.result.now ∙ ap (λ k. k + 1) inv.nexts);
      roomy = rw c.push_reserved.ensures.capacity inv.roomy;
      lasts = rw c.in_ok-first-2.ensures.value (lasts_more _ _ c.loop-item.next.items _ _ far low inv.firsts inv.nexts inv.lasts);
      before = rw c.push_reserved.ensures.items (before_more _ _ _ _ _ far low inv.firsts inv.nexts inv.lasts _ c.index.ensures inv.before);
    }
