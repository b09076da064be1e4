use Rattle.report.proofs.PrintedLines.{line_is, same_words}
use Rattle.report.proofs.laws.reports_can_be_read_back.Goals as goal

pub returns-clause-line : goal.returns-clause-line
returns-clause-line c = line_is

pub returns-clause-words : goal.returns-clause-words
returns-clause-words c = same_words
