-- There are five ways out, one for each fault and one for a push that is played. The byte ahead of the player and the byte beyond it lie
-- in the mailbox, because the step leads to a cell near the grid. In each way out these two bytes and the letter's kind decide whether the
-- letter is a legal step, and one lemma of `OneLetter.antt` says so for whatever letters were played before. There is room for one move
-- more, so the counters don't overflow.
use Rattle.std.proofs.Common.{◌+◌, ◌%◌, arith, length-set}
use Rattle.play.proofs.Replays.{room_left}
use Rattle.play.proofs.OneLetter.{ahead_within, beyond_within, pushed_on, fails_foreign, fails_wall, fails_blocked, fails_small, fails_capital}
use Rattle.play.proofs.run.push.Goals as goal

pub bounds-mailbox-ahead : goal.bounds-mailbox-ahead
bounds-mailbox-ahead c = let (level, done, before) = c.requires.under_way in
    ahead_within level done c.args.mailbox.now c.args.run.now before c.args.letter c.requires.read

pub bounds-mailbox-beyond : goal.bounds-mailbox-beyond
bounds-mailbox-beyond c = let (level, done, before) = c.requires.under_way in
    beyond_within level done c.args.mailbox.now c.args.run.now before c.args.letter c.requires.read c.requires.no_walk c.if-letter-eq-FOREIGN.false c.in-2.is

pub bounds-mailbox-beyond-in-2-2 : goal.bounds-mailbox-beyond-in-2-2
bounds-mailbox-beyond-in-2-2 c =
    let (level, done, before) = c.requires.under_way in
    let within =
    beyond_within level done c.args.mailbox.now c.args.run.now before c.args.letter c.requires.read c.requires.no_walk c.if-letter-eq-FOREIGN.false c.in-2.is in
    omega (arith, length-set c.args.mailbox.now ((c.args.run.now.player + c.args.letter.step) % 65536) 0)

pub count_push-requires : goal.count_push-requires
count_push-requires c = let (level, done, before) = c.requires.under_way in room_left level done c.args.mailbox.now c.args.run.now before c.requires.room

pub returns-then-letter-eq-FOREIGN-clause-err : goal.returns-then-letter-eq-FOREIGN-clause-err
returns-then-letter-eq-FOREIGN-clause-err c = λ level done after before.
    fails_foreign level done c.args.mailbox.now c.args.run.now before c.args.letter after c.requires.read c.if-letter-eq-FOREIGN.true

pub returns-in-1-clause-err : goal.returns-in-1-clause-err
returns-in-1-clause-err c =
    λ level done after before.
    fails_wall level done c.args.mailbox.now c.args.run.now before c.args.letter after c.requires.read c.requires.no_walk c.if-letter-eq-FOREIGN.false c.in-1.is

pub returns-in-2-clause-err : goal.returns-in-2-clause-err
returns-in-2-clause-err c =
    λ level done after before.
    fails_blocked level done c.args.mailbox.now c.args.run.now before c.args.letter after c.requires.read c.requires.no_walk c.if-letter-eq-FOREIGN.false
    c.in-2.is c.if-mailbox-beyond-ne-FREE.true

pub returns-in-2-2-clause-ok : goal.returns-in-2-2-clause-ok
returns-in-2-2-clause-ok c =
    λ level done before.
    pushed_on level done c.args.mailbox.now c.args.run.now before c.args.letter c.requires.read c.requires.no_walk c.if-letter-eq-FOREIGN.false c.if-letter-eq-PUSH.true c.in-2.is c.if-mailbox-beyond-ne-FREE.false c.count_push.ensures

pub returns-in_default-2-clause-err : goal.returns-in_default-2-clause-err
returns-in_default-2-clause-err c = λ level done after before.
    fails_small level done c.args.mailbox.now c.args.run.now before c.args.letter after c.requires.read c.requires.no_walk c.if-letter-eq-FOREIGN.false c.in-2.is
    c.if-mailbox-beyond-ne-FREE.false c.if-letter-eq-PUSH.false

pub returns-in_default-2-2-clause-err : goal.returns-in_default-2-2-clause-err
returns-in_default-2-2-clause-err c = λ level done after before.
    fails_capital level done c.args.mailbox.now c.args.run.now before c.args.letter after c.requires.read c.requires.no_walk c.if-letter-eq-FOREIGN.false
    (λ e. omega arith) (λ e. omega arith)
