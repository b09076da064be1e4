-- The invariant says that the list has the first patterns. After the loop these are all patterns, and the check of the list says of any lines
-- that it has what the function promises.
use Rattle.std.proofs.Common.{◌∷◌, [], ◌++◌, ◌∙◌, ap, sym, take}
use Rattle.std.{specs.Prelude.map, proofs.lemmas.List.length-map, proofs.lemmas.List.map_more, proofs.lemmas.List.take_all}
use Rattle.answers.specs.Grammar.{said_pattern}
use Rattle.closure.proofs.pattern_list.check.Goals as goal

pub loop-pattern-preserved : goal.loop-pattern-preserved
loop-pattern-preserved g c =
    let patterns = c.args.patterns.now in
    let i = c.loop-pattern.pattern-index in
    let more = map_more said_pattern patterns i c.pattern-item.result c.loop-pattern-test.true in
    record {
      level = c.add.ensures.level ∙ c.loop-pattern.invariant.level;
      added = rw (ap (λ p. map said_pattern (take i patterns) ++ said_pattern p ∷ []) c.pattern-item.is ∙ sym more) at (c.in_ok-add.ensures.added (map said_pattern (take i patterns)) c.loop-pattern.invariant.added);
    }

pub returns : goal.returns
returns g c =
    let all = take_all c.loop-pattern.pattern-index c.args.patterns.now c.loop-pattern-test.false in
    let level = c.loop-pattern.invariant.level in
    let added = c.loop-pattern.invariant.added in
    record {
      ok = rw (all, level, length-map c.args.patterns.now said_pattern) at (c.check.ensures.ok _ added);
      only = rw (all, level) at (c.check.ensures.only _ added);
      exact = rw (all, level) at (c.check.ensures.exact _ added);
      first = λ fault. rw (all, level) at (c.check.ensures.first _ fault added);
      unsolvable = rw level at (c.check.ensures.unsolvable _ added);
    }
