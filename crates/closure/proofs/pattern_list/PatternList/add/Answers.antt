-- If an earlier line isn't lawful, it stays the first fault. If all are lawful, so is a lawful one more, and a line that isn't lawful is the
-- first fault (`PatternLists.antt`).
use Rattle.answers.specs.Grammar.{said_pattern}
use Rattle.closure.proofs.PatternLists.{lawful_added, still_unlawful, unlawful_added}
use Rattle.closure.proofs.pattern_list.PatternList.add.Goals as goal

pub returns-in-Some-clause-added : goal.returns-in-Some-clause-added
returns-in-Some-clause-added g c = λ lines is.
    unlawful_added _ _ lines (said_pattern c.args.pattern.now) c.in-Some.why c.args.self.now.unlawful c.if-is_none.ensures is
    (rw c.in-Some.is at c.in_ok-why.ensures)

pub returns-in_default-clause-added : goal.returns-in_default-clause-added
returns-in_default-clause-added g c = λ lines is.
    lawful_added _ _ lines (said_pattern c.args.pattern.now) _ c.args.self.now.unlawful c.if-is_none.ensures is (rw c.in_default.is at c.in_ok-why.ensures)

pub returns-else-is_none-clause-added : goal.returns-else-is_none-clause-added
returns-else-is_none-clause-added g c = λ lines is. still_unlawful _ _ lines (said_pattern c.args.pattern.now) c.args.self.now.unlawful c.if-is_none.ensures is
