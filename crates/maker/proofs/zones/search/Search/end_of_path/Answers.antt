use Rattle.std.proofs.Common.{◌≡◌, ℕ, inl, inr, ◌∙◌, subst, arith}
use Rattle.std.proofs.lemmas.Bool.{cases_lt}
use Rattle.maker.specs.Search.{IsPaired, cell_visited}
use Rattle.maker.proofs.Searches.{read_pair}
use Rattle.maker.proofs.zones.search.Search.end_of_path.Goals as goal

pub loop-k-preserved : goal.loop-k-preserved
loop-k-preserved g c =
    let level = c.args.board.now in
    let found = c.args.self.now.found.items in
    let table = c.args.matching.now.table.items in
    let k = c.loop-k.k in
    let inv = c.loop-k.invariant in
    let entries = inv.matching.entries in
    let pair = read_pair level c.shape.result c.loop-k.matching.table.items found k c.index-goal.result.now c.index_of.result c.index.result.now
    c.index-goal.ensures (omega arith) c.shape.ensures.value c.index_of.ensures.value (rw (entries, ← c.shape.ensures.value) c.index_of.ensures.within)
    c.index.ensures (c.requires.on k (omega arith)) c.in-Some.matched c.in-Some.is in
    record {
      matching = c.goal_by_hub.ensures.matching;
      same = c.goal_by_hub.ensures.same ∙ inv.same;
      paired = λ i late h. elim (cases_lt i k) [
        | inl less ↦ inv.paired i late less
        | inr ge ↦ let e : k ≡ i = omega arith in
            subst (λ (n : ℕ). IsPaired level.shape table (cell_visited found n)) e (c.in-Some.matched, rw inv.same at pair)
      ];
    }
