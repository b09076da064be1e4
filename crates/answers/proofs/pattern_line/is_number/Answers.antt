use Rattle.std.proofs.Common.{◌≡◌, ◌&&◌, ap, rules, sym, ◌∙◌}
use Rattle.std.specs.List.{list_all}
use Rattle.std.specs.Char.{is_ascii_digit}
use Rattle.std.proofs.lemmas.Iterator.{YieldsList-from_slice}
use Rattle.std.proofs.lemmas.Iterator.Search.{all_from_yields_List}
use Rattle.std.proofs.lemmas.Bool.Decides.{nat_tests}
use Rattle.answers.proofs.pattern_line.is_number.Goals as goal

pub returns : goal.returns
returns c =
    let text = c.args.text.now in
    let all : c.all.result ≡ list_all is_ascii_digit text = all_from_yields_List is_ascii_digit _ _ _ c.all.ensures.ran (YieldsList-from_slice text cc)
    (λ x b q k. search (rules, nat_tests)) in
    all ∙ ap (λ b. b && list_all is_ascii_digit text) (sym (sym c.begins_number.ensures ∙ c.if-not-begins_number.false))
