use Rattle.std.proofs.lemmas.List.{append-nil}
use Rattle.play.proofs.solution.replay.Goals as goal

pub returns-clause-only : goal.returns-clause-only
returns-clause-only g c = rw append-nil at c.replay_lines.ensures.only
