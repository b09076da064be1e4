use Rattle.std.proofs.Common.{arith}
use Rattle.reach.proofs.Runs.{down_start, down_twice, down_end, down_at_once}
use Rattle.reach.proofs.fills.word_down.Goals as goal

pub loop-step-init : goal.loop-step-init
loop-step-init c = down_start c.args.free c.args.seeds

pub loop-step-preserved : goal.loop-step-preserved
loop-step-preserved c = down_twice c.args.free c.args.seeds c.loop-step.got c.loop-step.run c.loop-step.step c.loop-step.invariant

pub returns : goal.returns
returns c = down_end c.args.free c.args.seeds c.loop-step.got c.loop-step.run c.loop-step.step (omega arith) (omega arith) c.loop-step.invariant

pub returns-then-free-got-eq0 : goal.returns-then-free-got-eq0
returns-then-free-got-eq0 c = down_at_once c.args.free c.args.seeds (omega arith) c.if-free-got-eq0.true
