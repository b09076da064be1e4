use Rattle.std.proofs.Common.{arith}
use Rattle.std.proofs.lemmas.List.Concat.{length-flat_map}
use Rattle.play.specs.Spelling.{joined}
use Rattle.play.proofs.Verdicts.{only_tally, only_fault}
use Rattle.play.proofs.solution.Replayer.replay_lines.Goals as goal

pub play_all-requires : goal.play_all-requires
play_all-requires g c = grind (arith, length-flat_map)

pub returns-clause-only : goal.returns-clause-only
returns-clause-only g c = only_tally c.args.board.now (joined c.args.lines.now) c.play_all.result c.play_all.ensures.found c.play_all.ensures.exact

pub returns-clause-first : goal.returns-clause-first
returns-clause-first g c = grind (arith, only_fault)
