use Rattle.std.proofs.Common.{◌≡◌, ◌+◌, ◌++◌, [], ◌∷◌, map, take, take_all, sym, ap, arith, ◌∙◌}
use Rattle.std.proofs.lemmas.List.{map_push, take_more}
use Rattle.answers.specs.Reading.{entry_of}
use Rattle.answers.proofs.reading.read_each.Goals as goal

pub loop-text-preserved : goal.loop-text-preserved
loop-text-preserved c =
    let texts = c.args.texts.now in
    let i = c.loop-text.text-index in
    let text = c.text-item.result in
    let front : take (i + 1) texts ≡ take i texts ++ text ∷ [] = take_more texts i text c.loop-text-test.true
    ∙ ap (λ x. take i texts ++ x ∷ []) (sym c.text-item.is) in
    c.in-Ok.ensures ∙ ap (λ es. es ++ entry_of text ∷ []) c.loop-text.invariant
    ∙ sym (ap (map entry_of) front ∙ map_push entry_of (take i texts) text)

pub returns : goal.returns
returns c = c.loop-text.invariant ∙ ap (map entry_of) (take_all c.loop-text.text-index c.args.texts.now (omega arith))
