use Rattle.std.proofs.Common.{◌++◌, [], ◌∷◌, map, ap, ◌∙◌}
use Rattle.std.proofs.lemmas.List.{map_push}
use Rattle.answers.specs.Grammar.{said_body, said_record}
use Rattle.answers.specs.Body.{Body, Entry}
use Rattle.answers.proofs.BodyLines.{says_one_body}
use Rattle.answers.proofs.reading.read_more.Goals as goal

pub returns : goal.returns
returns c =
    let text = c.args.text.now in
    let old = c.args.records.now.items in
    let with_body : Body → Entry = λ b. record { level = text.level; body = b } in
    let one = ap with_body (says_one_body text (said_body c.in_ok-read.field-0) c.in_ok-read.ensures.says) in
    ap (map said_record) c.in_ok-push.ensures.items ∙ map_push said_record old (text.level, c.in_ok-read.field-0) ∙ ap (λ e. map said_record old ++ e ∷ []) one
