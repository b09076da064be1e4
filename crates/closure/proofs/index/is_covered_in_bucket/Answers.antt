-- The loop follows the chain of the bucket from its last group to its first. The invariant says that no group of the bucket from `at` on
-- covers the player and the boxes at hand, and that group `at` - 1 is in the bucket if there is one. If this group doesn't cover them, the chain
-- leads to the last group of the bucket before it, so none is skipped (`none_more`). At the end of the chain none is left.
use Rattle.std.proofs.Common.{◌≡◌, ℕ, ◌-◌, ◌<◌, ◌≤◌, List, sym, ◌∙◌, ap, arith}
use Rattle.std.{specs.Prelude.slice_index, proofs.lemmas.Bool.cases_lt, proofs.lemmas.Bool.false≢true}
use Rattle.cellset.{specs.SortedList.index, proofs.ReadingOrder.below_index}
use Rattle.closure.specs.{Chains.AreChains, Chains.IsLast, Tables.GroupCovers}
use Rattle.closure.proofs.{Grouped.covered_of_group, InBuckets.begun, InBuckets.led_on, Traps.off_none}
use Rattle.closure.proofs.index.is_covered_in_bucket.Goals as goal

-- A walk along the chain of a key skips no item with the key.
module _ (keys first next : List ℕ) (count key : ℕ) (chains : AreChains keys count first next) where
  none_more : (P : ℕ → Type 0) (at got : ℕ) → 0 < at → IsLast keys key (at - 1) got → (P (at - 1) → ⊥) → ((k : ℕ) → at ≤ k → slice_index keys k ≡ key → P k → ⊥)
      → (k : ℕ) → got ≤ k → slice_index keys k ≡ key → P k → ⊥
  none_more P at got up last not passed k past same holds = grind (arith, cases_lt)

pub loop-at-init : goal.loop-at-init
loop-at-init g c =
    let shape = c.args.tables.now.board.now.shape in
    let buckets = c.args.buckets.now in
    let all = c.requires.buckets in
    let at = c.index_of.ensures.value ∙ ap (λ e. index e c.args.cell) c.shape-shape.ensures.value in
    let long = all.long in
    let last = begun buckets.keys.items buckets.chains.first.items buckets.chains.next.items _ (index shape c.args.cell) all.chained c.index.result.now
    (below_index shape c.args.cell c.requires.cell) (rw at at c.index.ensures) in
    let within = last.within in
    record {
      within = omega arith;
      key = last.has_key;
      passed = λ k past key covers.
          let has = covers.0 in
          last.others k past (omega arith) key;
    }

pub loop-at-preserved : goal.loop-at-preserved
loop-at-preserved g c =
    let tables = c.args.tables.now in
    let shape = tables.board.now.shape in
    let buckets = c.args.buckets.now in
    let all = c.requires.buckets in
    let inv = c.loop-at.invariant in
    let test = c.loop-at-test.true in
    let within = inv.within in
    let long = all.long in
    let last = led_on buckets.keys.items buckets.chains.first.items buckets.chains.next.items _ (index shape c.args.cell) all.chained c.loop-at.at
    c.index-in-loop-at.result.now test (omega arith) c.index-in-loop-at.ensures (inv.key test) in
    let before = last.within in
    record {
      within = omega arith;
      key = last.has_key;
      passed = none_more buckets.keys.items buckets.chains.first.items buckets.chains.next.items _ (index shape c.args.cell) all.chained
          (λ j. GroupCovers tables.board.now tables.groups j (record { player = c.args.player; boxes = g.S.CellSet.members c.args.boxes.now }))
          c.loop-at.at c.index-in-loop-at.result.now test last (λ covers. false≢true (sym c.if-is_covering.false ∙ c.is_covering.ensures.1 covers.1)) inv.passed;
    }

pub returns-then-is_covering : goal.returns-then-is_covering
returns-then-is_covering g c =
    covered_of_group c.args.tables.now.board.now c.args.tables.now.groups c.requires.tables.grouped (record { player = c.args.player; boxes = g.S.CellSet.members c.args.boxes.now }) (c.loop-at.at - 1)
    (c.is_covering.ensures.0 c.if-is_covering.true)

pub is_covering-requires-clause-off : goal.is_covering-requires-clause-off
is_covering-requires-clause-off g c = λ q _. off_none _ c.requires.off q
