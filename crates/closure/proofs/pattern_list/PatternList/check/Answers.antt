-- If a line isn't lawful, the list has the first one as its fault, and the check returns it. Otherwise the lines of the arena are the lines
-- that were added, so what the check of the arena returns is right for them.
use Rattle.std.{proofs.Common.◌≡◌, proofs.Common.length, proofs.Common.ap, proofs.Common.inl, specs.Prelude.Err}
use Rattle.certificates.specs.Pattern.{patterns_of}
use Rattle.certificates.specs.Closed.{Closed}
use Rattle.closure.specs.FirstFault.{IsFirstPatternFault}
use Rattle.closure.specs.declared.fault.CheckFault.TheVariants.{Line, Memory}
use Rattle.closure.proofs.{Covered.closed_unsolvable, OneFault.one_pattern_fault}
use Rattle.closure.proofs.FirstLines.{fault_not_closed, first_unless, memory_or, ok_unless, where_ok}
use Rattle.closure.proofs.pattern_list.PatternList.check.Goals as goal

pub returns-in-Some-clause-only : goal.returns-in-Some-clause-only
returns-in-Some-clause-only g c = λ lines is closed.
    absurd (fault_not_closed c.args.self.board.now lines (Line c.in-Some.line c.in-Some.why) closed (rw c.in-Some.is at is))

pub returns-in-Some-clause-first : goal.returns-in-Some-clause-first
returns-in-Some-clause-first g c = λ lines fault is found. inl (ap Err (one_pattern_fault c.args.self.board.now lines (Line c.in-Some.line c.in-Some.why) fault
    (rw c.in-Some.is at is) found))

pub check_lawful-requires : goal.check_lawful-requires
check_lawful-requires g c = let all = rw c.in_default.is at c.requires.1 in rw all.0 all.1

pub returns : goal.returns
returns g c =
    let level = c.args.self.board.now in
    let result = c.check_lawful.result in
    record {
      ok = λ lines is. rw (rw c.in_default.is at is).0 at c.check_lawful.ensures.ok;
      only = λ lines is. ok_unless Memory memory_or (IsFirstPatternFault level lines) (Closed level (patterns_of lines))
          (fault_not_closed level lines) result (rw (rw c.in_default.is at is).0 at c.check_lawful.ensures.exact);
      exact = λ lines is. rw (rw c.in_default.is at is).0 at c.check_lawful.ensures.exact;
      first = λ lines fault is. first_unless Memory memory_or (IsFirstPatternFault level lines) (Closed level (patterns_of lines))
          (fault_not_closed level lines) (one_pattern_fault level lines) (λ accepted. accepted.patterns ≡ length lines) result
          (rw (rw c.in_default.is at is).0 at c.check_lawful.ensures.ok) (rw (rw c.in_default.is at is).0 at c.check_lawful.ensures.exact) fault;
      unsolvable = λ lines is. where_ok (λ accepted. accepted.patterns ≡ length lines) result
          (closed_unsolvable level (patterns_of lines) c.check_lawful.ensures.formed) (rw (rw c.in_default.is at is).0 at c.check_lawful.ensures.ok);
    }
