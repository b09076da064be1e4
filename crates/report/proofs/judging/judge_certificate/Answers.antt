use Rattle.std.proofs.Common.{◌≡◌, List, [], ◌∷◌, ◌++◌, length, length-append, sym, arith, ◌∙◌}
use Rattle.answers.specs.{Grammar.said_pattern, Body.PatternLine, Certificates.certificate_body}
use Rattle.closure.specs.PatternList.{IsListOf}
use Rattle.report.specs.Status.{bad_line}
use Rattle.report.proofs.judging.judge_certificate.Goals as goal
use Rattle.report.proofs.judging.judge_certificate.Goals.{After-add-added}

-- One more line was read and added.
read_on : (g : _) (c : After-add-added g) → ((lines : List PatternLine) → IsListOf lines c.loop-next.list → IsListOf (lines ++ said_pattern c.in-Pattern.pattern ∷ []) c.add-added.new.self)
    → (lines : List PatternLine) × (length lines ≡ c.next.new.self.patterns) × (certificate_body [] c.args.lines ≡ certificate_body lines c.next.new.self) × IsListOf lines c.add-added.new.self
read_on g c add =
    let (lines, long, read, added) = c.loop-next.invariant.read in
    let count = c.in-Ok.ensures.count c.in-Pattern.pattern c.in-Pattern.is in
    let says = rw c.in-Pattern.is at (c.in-Ok.ensures.says lines long) in
    (lines ++ said_pattern c.in-Pattern.pattern ∷ [], simp length-append (omega arith), read ∙ says, add lines added)

pub loop-next-preserved : goal.loop-next-preserved
loop-next-preserved g c = record {
  level = c.in-Ok-added.ensures.level ∙ c.loop-next.invariant.level;
  read = read_on g (goal.at.loop-next-preserved g c).After-add-added c.in-Ok-added.ensures.added;
}

pub returns-in-End-clause-says : goal.returns-in-End-clause-says
returns-in-End-clause-says g c =
    let (lines, long, read, added) = c.loop-next.invariant.read in
    let says = rw c.in-End.is at (c.in-Ok.ensures.says lines long) in
    rw (read ∙ says) (rw c.loop-next.invariant.level at (c.judge_patterns.ensures.says lines added))

pub returns-in-Zone-clause-says : goal.returns-in-Zone-clause-says
returns-in-Zone-clause-says g c =
    let (lines, long, read, added) = c.loop-next.invariant.read in
    let says = rw c.in-Zone.is at (c.in-Ok.ensures.says lines long) in
    rw (read ∙ says) c.judge_zone-status.ensures.says

pub returns-in-End-clause-unsolvable : goal.returns-in-End-clause-unsolvable
returns-in-End-clause-unsolvable g c = rw c.loop-next.invariant.level at c.judge_patterns.ensures.unsolvable

pub returns-in-BadLine-clause-says : goal.returns-in-BadLine-clause-says
returns-in-BadLine-clause-says g c = λ rows is.
    let (lines, long, read, added) = c.loop-next.invariant.read in
    let says = rw c.in-BadLine.is at (c.in-Ok.ensures.says lines long) in
    rw (← (sym (read ∙ says))) (bad_line is)
