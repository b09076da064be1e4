use Rattle.sokoaudit_c.specs.Numbers.{numbers_of}
use Rattle.sokoaudit_c.proofs.Entries.{entry_added}
use Rattle.sokoaudit_c.proofs.verdicts.put_lines.Goals as goal

pub loop-at-preserved : goal.loop-at-preserved
loop-at-preserved c =
    entry_added numbers_of c.args.statuses.now c.args.lines.now c.loop-at.lines c.loop-at.at c.min-taken.result _ c.numbers_of.result c.loop-at-test.true
    c.min-taken.ensures c.loop-at.invariant c.numbers_of.ensures
