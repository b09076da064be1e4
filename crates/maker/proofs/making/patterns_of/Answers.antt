use Rattle.std.proofs.Common.{◌+◌, ◌≤◌, [], ◌∷◌, ◌++◌, length, get_or, take, ap, sym, ◌∙◌, arith}
use Rattle.std.specs.Prelude.{map}
use Rattle.std.proofs.lemmas.List.{length-append, take_all, take_more}
use Rattle.answers.specs.Canonical.{lone_patterns, made_pattern}
use Rattle.answers.specs.Grammar.{said_pattern}
use Rattle.answers.specs.declared.pattern.Coord.{Coord}
use Rattle.maker.proofs.Listing.{lone_push}
use Rattle.maker.proofs.making.patterns_of.Goals as goal

pub loop-cell-preserved : goal.loop-cell-preserved
loop-cell-preserved c =
    let l = c.loop-cell in
    let i = l.cell-index in
    let cells = c.args.dead.now in
    let none : Coord = record { row = 0; column = 0 } in
    let cell = get_or cells i none in
    let one = c.pattern_of.ensures ∙ ap made_pattern (c.push_reserved.ensures.items ∙ ap (λ boxes. boxes ++ cell ∷ []) c.new-boxes.ensures.items) in
    record {
      list =
          ap (map said_pattern) c.push_reserved-in-loop-cell.ensures.items
          ∙ lone_push l.patterns.items (take i cells) c.pattern_of.result cell l.invariant.list one
          ∙ ap lone_patterns (sym (take_more cells i none (omega arith)));
      count = ap length c.push_reserved-in-loop-cell.ensures.items ∙ length-append l.patterns.items (c.pattern_of.result ∷ []) ∙ ap (λ n. n + 1) l.invariant.count;
      capacity = c.push_reserved-in-loop-cell.ensures.capacity ∙ l.invariant.capacity;
    }
