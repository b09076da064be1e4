-- The invariant says that the bytes up to an index are played. Chunks of walks make them more (`played_on` in `Replays.antt`), and so does
-- each letter that is played after them (`played_more`). A letter that fails makes the whole line fail there, because the bytes before it
-- were played. There is room for a move per byte of the line, so the moves don't overflow. The first letter after the chunks is small or it
-- isn't, so each turn plays a letter.
use Rattle.std.proofs.Common.{take_all, arith}
use Rattle.std.proofs.lemmas.Result.{err_from_is_err_and}
use Rattle.play.proofs.Replays.{under_way_then, played_on, played_more, fault_next}
use Rattle.play.proofs.solution.play_line.Goals as goal

pub small-preserved : goal.small-preserved
small-preserved c = (played_more (omega arith) c.small.invariant.0 c.in_ok-play_letter.ensures.moves c.in_ok-play_letter.ensures.ok, omega arith)

pub others-preserved : goal.others-preserved
others-preserved c = (played_more (omega arith) c.others.invariant.0 c.in_ok-play_letter-2.ensures.moves c.in_ok-play_letter-2.ensures.ok, omega arith)

pub returns-clause-ok : goal.returns-clause-ok
returns-clause-ok c = rw (take_all c.chunks.at c.args.line.now (omega arith)) at c.chunks.invariant.continues

pub small-init : goal.small-init
small-init c = (played_on _ c.chunks.invariant c.walk_chunks-at.ensures, omega arith)

pub play_letter-requires-clause-under_way : goal.play_letter-requires-clause-under_way
play_letter-requires-clause-under_way c = under_way_then c.small.invariant.0.continues c.requires.under_way

pub returns-in_err-play_letter-clause-err : goal.returns-in_err-play_letter-clause-err
returns-in_err-play_letter-clause-err c = grind (arith, err_from_is_err_and, fault_next)

pub play_letter-requires-in-others-clause-under_way : goal.play_letter-requires-in-others-clause-under_way
play_letter-requires-in-others-clause-under_way c = under_way_then c.others.invariant.0.continues c.requires.under_way

pub returns-in_err-play_letter-2-clause-err : goal.returns-in_err-play_letter-2-clause-err
returns-in_err-play_letter-2-clause-err c = grind (arith, err_from_is_err_and, fault_next)

pub overflow_add-at-in-small : goal.overflow_add-at-in-small
overflow_add-at-in-small c = omega arith

pub overflow_add-at-in-others : goal.overflow_add-at-in-others
overflow_add-at-in-others c = omega arith

pub chunks-preserved : goal.chunks-preserved
chunks-preserved c = c.others.invariant.0

pub chunks-preserved-else-line-at-lt97 : goal.chunks-preserved-else-line-at-lt97
chunks-preserved-else-line-at-lt97 c = c.others.invariant.0

pub walk_chunks-at-requires-clause-masked : goal.walk_chunks-at-requires-clause-masked
walk_chunks-at-requires-clause-masked c = rw c.chunks.auto.mailbox c.requires.masked
