use Rattle.std.proofs.Common.{ℕ, List, length, subst}
use Rattle.answers.specs.Grammar.{SpellsEntries}
use Rattle.board.specs.Levels.{AreLevelsOf}
use Rattle.board.specs.Lines.{lines_in, without_mark}
use Rattle.program.proofs.Errors.{one_text}
use Rattle.program.proofs.laws.printed_lines_are_true.Goals as goal

pub returns-clause-unsolvable : goal.returns-clause-unsolvable
returns-clause-unsolvable c = λ known levels answers text status prints levels_text known_levels all are.
    let (own, own_is, answers_text, answers_is, summary, report, _) = prints in
    let here = subst (λ (t : List ℕ). AreLevelsOf all (lines_in (without_mark t))) (one_text (known levels) levels_text own known_levels own_is) are in
    c.lines_mean_what_they_say.ensures.unsolvable own answers_text text summary report all here

pub returns-clause-lines : goal.returns-clause-lines
returns-clause-lines c = λ known levels answers text status prints levels_text answers_text known_levels known_answers all are entries spells.
    let (own, own_is, others, others_is, summary, report, _) = prints in
    let here = subst (λ (t : List ℕ). AreLevelsOf all (lines_in (without_mark t))) (one_text (known levels) levels_text own known_levels own_is) are in
    let spelled = subst (λ (t : List ℕ). SpellsEntries t (length all) entries) (one_text (known answers) answers_text others known_answers others_is) spells in
    c.lines_mean_what_they_say.ensures.lines own others text summary report all entries here spelled
