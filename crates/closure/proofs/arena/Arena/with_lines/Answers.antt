use Rattle.std.proofs.Common.{Bool, true, false, [], ◌∷◌, ◌++◌, take, sym, ◌∙◌, ap}
use Rattle.std.{specs.Prelude.MatchBool, specs.Prelude.map, proofs.lemmas.List.map_more, proofs.lemmas.List.take_all}
use Rattle.answers.specs.Grammar.{said_pattern}
use Rattle.certificates.specs.Pattern.{pattern_of}
use Rattle.closure.proofs.Lists.{mapped}
use Rattle.closure.proofs.arena.Arena.with_lines.Goals as goal

-- if there is no pattern off the grid, the lines are those that are added
added : (Added Same On Off : Type 0) (all : Bool) → MatchBool all Added Same → MatchBool all On Off → (Off → ⊥) → Added
added Added Same On Off true lines on never = lines
added Added Same On Off false lines off never = absurd (never off)

pub loop-pattern-preserved : goal.loop-pattern-preserved
loop-pattern-preserved c =
    let patterns = c.args.patterns.now in
    let pattern = c.pattern-item.result in
    let on = c.requires _ (mapped pattern_of (map said_pattern patterns) (said_pattern pattern)
    (mapped said_pattern patterns pattern (c.loop-pattern.pattern-index, c.loop-pattern-test.true, sym c.pattern-item.is))) in
    rw (added _ _ _ _ c.in_ok-add.field-0 c.in_ok-add.ensures.added c.in_ok-add.ensures.on (λ off. off.2 (on off.0 off.1)), c.loop-pattern.invariant)
    (ap (λ p. map said_pattern (take c.loop-pattern.pattern-index patterns) ++ said_pattern p ∷ []) c.pattern-item.is ∙
    sym (map_more said_pattern patterns c.loop-pattern.pattern-index pattern c.loop-pattern-test.true))

pub returns : goal.returns
returns c = c.loop-pattern.invariant ∙ ap (map said_pattern) (take_all c.loop-pattern.pattern-index c.args.patterns.now c.loop-pattern-test.false)
