use Rattle.std.proofs.lemmas.Bool.{false≢true}
use Rattle.report.proofs.Answered.{illegal_by, said_by, with_board}
use Rattle.report.proofs.judging.judge.Goals as goal
use Rattle.cellset.proofs.Truth.{either}

pub returns-in_default : goal.returns-in_default
returns-in_default g c = record {
  says = either (c.in-Err.ensures.err) (λ e. absurd (c.in_default.not-Memory e)) (λ refusal. illegal_by c.args.level.now c.args.answer c.in-Err.fault refusal);
  unsolvable = λ e. absurd (false≢true e);
}

pub returns-clause-unsolvable : goal.returns-clause-unsolvable
returns-clause-unsolvable g c = with_board c.judge_board-status.result _ _ c.in-Ok.ensures.ok c.judge_board-status.ensures.unsolvable

pub returns-clause-says : goal.returns-clause-says
returns-clause-says g c = said_by c.judge_board-status.result _ _ c.args.answer c.in-Ok.ensures.ok c.judge_board-status.ensures.says
