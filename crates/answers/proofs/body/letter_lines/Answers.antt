use Rattle.std.proofs.Common.{◌++◌, ◌∷◌, [], map, append_assoc, sym, ap, ◌∙◌}
use Rattle.std.proofs.lemmas.List.{append-nil, map_push}
use Rattle.answers.specs.Grammar.{Line}
use Rattle.answers.specs.Held.{kept_in}
use Rattle.answers.proofs.body.letter_lines.Goals as goal

pub loop-line-preserved : goal.loop-line-preserved
loop-line-preserved c =
    let letters = c.loop-line.letters.items in
    let line = c.in-Some.line.text in
    let rest = map (λ (l : Line). l.text) (kept_in c.in-Some.rest) in
    record {
      count = c.in-Some.ensures.count ∙ c.loop-line.invariant.count;
      read = ap (λ ls. map (λ l. l.now) ls ++ rest) c.in_ok-push.ensures.items ∙ ap (λ ls. ls ++ rest) (map_push (λ l. l.now) letters line)
          ∙ append_assoc (map (λ l. l.now) letters) (line.now ∷ []) rest
          ∙ ap (λ ls. map (λ l. l.now) letters ++ map (λ (l : Line). l.text) ls) (sym c.in-Some.ensures.some) ∙ c.loop-line.invariant.read;
    }

pub returns : goal.returns
returns c =
    let letters = map (λ l. l.now) c.loop-line.letters.items in
    sym (append-nil letters) ∙ ap (λ ls. letters ++ map (λ (l : Line). l.text) ls) (sym c.in_default.ensures.none) ∙ c.loop-line.invariant.read
