use Rattle.board.proofs.SkippedText.{passed_all, passed_front}
use Rattle.board.proofs.passing.past_text.Goals as goal

pub returns-in-Some : goal.returns-in-Some
returns-in-Some c = rw c.split_at.ensures.back (passed_front _ c.in-Some.start c.in-Some.ensures.some)

pub returns-in-None : goal.returns-in-None
returns-in-None c = rw c.split_at-in-None.ensures.back (passed_all _ c.in-None.ensures.none)
