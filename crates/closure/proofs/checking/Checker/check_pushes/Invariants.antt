use Rattle.std.proofs.Common.{ℕ, ◌<◌}
use Rattle.certificates.specs.Pattern.{CoversPushesOf}
use Rattle.closure.specs.{Arena.pattern_at, Groups.list_of}
use Rattle.closure.specs.Checking.{IsChecker}
use Rattle.closure.proofs.checking.Checker.check_pushes.Given as goal

abbrev pub invariant-loop-line : goal.invariant-loop-line
invariant-loop-line g l =
    let level = l.tables.board.now in
    let patterns = list_of l.tables.groups in
    record {
      checker : IsChecker l.tables l.self;
      covered : (j : ℕ) → j < l.line → CoversPushesOf level patterns (pattern_at patterns j);
    }
