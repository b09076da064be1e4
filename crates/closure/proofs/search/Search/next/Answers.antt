-- The invariant says that the search has come past no group that it hadn't come past at first. Each turn begins the bucket of one more cell, whose
-- link leads to the last group of the bucket (`past_bucket` in `Searches.antt`). After the loop there is a link, and the next one leads to the last
-- group of the same bucket before it (`past_group`).
use Rattle.std.proofs.Common.{◌≡◌, ◌<◌, ◌+◌, ◌-◌, Some, length, refl, sym, ◌∙◌, ap, inl, inr, arith}
use Rattle.std.proofs.lemmas.List.{get_or_default}
use Rattle.cellset.{specs.SortedList.index, proofs.ReadingOrder.below_index, proofs.Truth.either}
use Rattle.certificates.specs.CellLists.{cell_no}
use Rattle.certificates.proofs.CellLists.{no_cell}
use Rattle.closure.specs.Chains.{IsLast}
use Rattle.closure.proofs.InBuckets.{begun, led_on}
use Rattle.closure.proofs.Searches.{fewer_on, next_on, past_all, past_bucket, past_group}
use Rattle.closure.proofs.search.Search.next.Goals.{After-index, After-index-2}
use Rattle.closure.proofs.search.Search.next.Goals as goal

pub returns-then-self-len-clause-found : goal.returns-then-self-len-clause-found
returns-then-self-len-clause-found g c = grind (arith, past_all)

-- there is a cell whose bucket wasn't begun
some_left : (g : _) (c : After-index g) → c.loop-self.self.begun < length c.loop-self.self.cells.items
some_left g c = grind arith

pub index_of-requires : goal.index_of-requires
index_of-requires g c =
    rw (c.shape-shape.ensures.value, c.index.ensures) (next_on c.args.task.now.tables.now.board.now.shape c.args.task.now.tables.now.groups c.args.buckets.now
    c.loop-self.self c.loop-self.invariant.search (some_left g (goal.at.index_of-requires g c).After-index) c.index.result.now)

pub loop-self-preserved : goal.loop-self-preserved
loop-self-preserved g c =
    let shape = c.args.task.now.tables.now.board.now.shape in
    let groups = c.args.task.now.tables.now.groups in
    let buckets = c.args.buckets.now in
    let all = c.requires.buckets in
    let inv = c.loop-self.invariant in
    let cells = c.loop-self.self.cells.items in
    let n = c.loop-self.self.begun in
    let lt = some_left g (goal.at.loop-self-preserved g c).After-index in
    let long = all.long in
    let at : c.index_of.result ≡ index shape (cell_no cells n) =
    c.index_of.ensures.value ∙ ap (λ e. index e c.index.result.now) c.shape-shape.ensures.value ∙
    ap (index shape) (c.index.ensures ∙ get_or_default cells n c.index.result.now no_cell lt) in
    let last = begun buckets.keys.items buckets.chains.first.items buckets.chains.next.items _ (index shape (cell_no cells n)) all.chained
    c.index-in-loop-self.result.now (below_index shape (cell_no cells n) (next_on shape groups buckets c.loop-self.self inv.search lt no_cell))
    (rw at at c.index-in-loop-self.ensures) in
    let within = last.within in
    let same : n + 1 - 1 ≡ n = omega arith in
    record {
      search = record { on = inv.search.on; begun = omega arith; link = omega arith; key = λ up. (omega arith, rw same (last.has_key up)) };
      cells = inv.cells;
      passed = λ k low p. inv.passed k low (past_bucket shape buckets c.loop-self.self _ refl c.loop-self-test.true refl last k (omega arith) p);
      fewer = fewer_on (length cells) n (length groups.spans.items) c.index-in-loop-self.result.now _ lt (omega arith) (rw c.loop-self-test.true at inv.fewer);
    }

-- there is a link
some_link : (g : _) (c : After-index-2 g) → 0 < c.loop-self.self.link
some_link g c = let ne = c.loop-self-test.false in omega arith

-- the next link leads to the last group of the bucket before this one
before_link : (g : _) (c : After-index-2 g) → IsLast c.args.buckets.now.keys.items
    (index c.args.task.now.tables.now.board.now.shape (cell_no c.loop-self.self.cells.items (c.loop-self.self.begun - 1))) (c.loop-self.self.link - 1) c.index-2.result.now
before_link g c =
    let buckets = c.args.buckets.now in
    let all = c.requires.buckets in
    let some = some_link g c in
    let long = all.long in
    let le = c.loop-self.invariant.search.link in
    led_on buckets.keys.items buckets.chains.first.items buckets.chains.next.items _ _ all.chained c.loop-self.self.link c.index-2.result.now some (omega arith) c.index-2.ensures
    (c.loop-self.invariant.search.key some).1

pub returns-clause-search : goal.returns-clause-search
returns-clause-search g c =
    let search = c.loop-self.invariant.search in
    let some = some_link g (goal.at.returns-clause-search g c).After-index-2 in
    let last = before_link g (goal.at.returns-clause-search g c).After-index-2 in
    let within = last.within in
    let le = search.link in
    record { on = search.on; begun = search.begun; link = omega arith; key = λ up. ((search.key some).0, last.has_key up) }

pub returns-clause-passed : goal.returns-clause-passed
returns-clause-passed g c = λ k low p.
    either (past_group c.args.task.now.tables.now.board.now.shape c.args.buckets.now c.loop-self.self _ refl (some_link g (goal.at.returns-clause-passed g c).After-index-2) refl (before_link g (goal.at.returns-clause-passed g c).After-index-2) k p)
    (λ before. inl (c.loop-self.invariant.passed k low before))
    (λ same. inr (ap Some (sym same)))

pub returns-clause-fewer : goal.returns-clause-fewer
returns-clause-fewer g c =
    let some = some_link g (goal.at.returns-clause-fewer g c).After-index-2 in
    let last = before_link g (goal.at.returns-clause-fewer g c).After-index-2 in
    let within = last.within in
    let was = c.loop-self.invariant.fewer in
    omega arith
