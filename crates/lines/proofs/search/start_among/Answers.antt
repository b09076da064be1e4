-- The invariant says what was scanned, and that the word has the line feeds after that. Its lowest bit is the next one: a byte of the class
-- after it is the first start, and another byte lets the scan go on there. Without a bit the scan goes on to the end of the 32 bytes.
use Rattle.std.proofs.Common.{arith, sym, ◌∙◌}
use Rattle.lines.proofs.Starts.{among_more, among_next, among_none, among_start}
use Rattle.lines.proofs.search.start_among.Goals as goal

pub overflow_add-at : goal.overflow_add-at
overflow_add-at g c = let next = among_next c.loop-feeds.invariant c.loop-feeds.auto.feeds-fits c.loop-feeds-test.true in omega arith

pub bounds-text-at : goal.bounds-text-at
bounds-text-at g c = let next = among_next c.loop-feeds.invariant c.loop-feeds.auto.feeds-fits c.loop-feeds-test.true in omega arith

pub overflow_shr-feeds : goal.overflow_shr-feeds
overflow_shr-feeds g c = let next = among_next c.loop-feeds.invariant c.loop-feeds.auto.feeds-fits c.loop-feeds-test.true in omega arith

pub loop-feeds-smaller : goal.loop-feeds-smaller
loop-feeds-smaller g c = let next = among_next c.loop-feeds.invariant c.loop-feeds.auto.feeds-fits c.loop-feeds-test.true in omega arith

pub returns-then-has-clause-some : goal.returns-then-has-clause-some
returns-then-has-clause-some g c =
    among_start c.loop-feeds.invariant c.loop-feeds.auto.feeds-fits c.loop-feeds-test.true (sym c.has.ensures ∙ c.if-has.true)

pub loop-feeds-preserved : goal.loop-feeds-preserved
loop-feeds-preserved g c = among_more c.loop-feeds.invariant c.loop-feeds.auto.feeds-fits c.loop-feeds-test.true (sym c.has.ensures ∙ c.if-has.false)

pub returns-clause-none : goal.returns-clause-none
returns-clause-none g c = among_none c.loop-feeds.invariant c.loop-feeds-test.false
