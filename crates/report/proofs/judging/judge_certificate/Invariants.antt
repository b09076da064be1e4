use Rattle.std.proofs.Common.{◌≡◌, List, [], length}
use Rattle.answers.specs.Body.{PatternLine}
use Rattle.answers.specs.Certificates.{certificate_body, lines_left}
use Rattle.closure.specs.PatternList.{IsListOf}
use Rattle.report.proofs.judging.judge_certificate.Given as goal

-- these lines were read and added
abbrev pub invariant-loop-next : goal.invariant-loop-next
invariant-loop-next g l = record {
  level : l.list.board.now ≡ l.board;
  read : (lines : List PatternLine) × (length lines ≡ l.left.patterns) × (certificate_body [] l.lines ≡ certificate_body lines l.left) × IsListOf lines l.list;
}

abbrev pub decreases-loop-next : goal.decreases-loop-next
decreases-loop-next g l = length (lines_left l.left)
