use Rattle.std.proofs.lemmas.Bool.{false≢true}
use Rattle.std.specs.List.{concat}
use Rattle.play.specs.Spelling.{joined}
use Rattle.report.specs.Status.{solved, not_solved}
use Rattle.report.proofs.SolutionPieces.{fault_same, same_letters, solves_same}
use Rattle.report.proofs.judging.judge_solution.Goals as goal

pub returns-in-Ok-clause-says : goal.returns-in-Ok-clause-says
returns-in-Ok-clause-says g c = λ rows lines is are.
    let text = joined c.args.pieces.now in
    solved is (solves_same c.args.board.now text (concat lines) c.in-Ok.tally (same_letters text (concat lines) are) c.in-Ok.ensures.found)

pub returns-in_default : goal.returns-in_default
returns-in_default g c =
    let text = joined c.args.pieces.now in
    record {
      says = λ rows lines is are.
          not_solved is (fault_same c.args.board.now text (concat lines) c.in-Err.fault (same_letters text (concat lines) are)
          (c.in-Err.ensures.exact c.in_default.not-Memory));
      unsolvable = λ e. absurd (false≢true e);
    }
