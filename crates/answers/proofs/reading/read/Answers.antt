use Rattle.answers.specs.Grammar.{said_answers}
use Rattle.answers.proofs.LetterTotals.{letters_within}
use Rattle.answers.proofs.Outcome.{found_by, only_by, exact_by, refused_by}
use Rattle.answers.proofs.reading.read.Goals as goal

pub returns-clause-found : goal.returns-clause-found
returns-clause-found c = found_by said_answers c.args.text.now c.args.levels c.outcome.result c.outcome.ensures

pub returns-clause-only : goal.returns-clause-only
returns-clause-only c = only_by said_answers c.args.text.now c.args.levels c.outcome.result c.outcome.ensures

pub returns-clause-exact : goal.returns-clause-exact
returns-clause-exact c = exact_by said_answers c.args.text.now c.args.levels c.outcome.result c.outcome.ensures

pub returns-clause-refused : goal.returns-clause-refused
returns-clause-refused c = refused_by said_answers c.args.text.now c.args.levels c.outcome.result c.outcome.ensures

pub returns-clause-letters : goal.returns-clause-letters
returns-clause-letters c =
    letters_within c.args.text.now c.args.levels c.outcome.result (found_by said_answers c.args.text.now c.args.levels c.outcome.result c.outcome.ensures)
