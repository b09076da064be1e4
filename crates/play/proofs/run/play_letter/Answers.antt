use Rattle.std.proofs.Common.{◌≡◌, ◌+◌, true, false, ltb, ◌∙◌, sym, refl, arith}
use Rattle.play.proofs.OneLetter.{ahead_within, walked, small_above, blank_below}
use Rattle.play.proofs.run.play_letter.Goals as goal

pub bounds-mailbox-ahead : goal.bounds-mailbox-ahead
bounds-mailbox-ahead c =
    let (level, done, before) = c.requires.under_way in
    ahead_within level done c.args.mailbox.now c.args.run.now before c.read-letter.result c.read-letter.ensures.read

pub returns-then-letter-eq-WALK-clause-ok : goal.returns-then-letter-eq-WALK-clause-ok
returns-then-letter-eq-WALK-clause-ok c = λ level done before.
    let byte = c.read-letter.ensures.byte in
    rw byte at
    (walked level done c.args.mailbox.now c.args.run.now before c.read-letter.result c.read-letter.ensures.read c.if-letter-eq-WALK.true
    c.if-mailbox-ahead-eq-FREE.true (c.args.run.now.tally.moves + c.from.result)
    (λ d small. let above : ltb 32 c.args.byte ≡ true = small_above c.args.byte d (sym byte ∙ small) in let one : c.from.result ≡ 1 = c.from.ensures
    ∙ rw above refl in omega arith)
    (λ blank. let below : ltb 32 c.args.byte ≡ false = blank_below c.args.byte (rw byte at blank) in let none : c.from.result ≡ 0 = c.from.ensures
    ∙ rw below refl in omega arith))

pub returns-in-Ok-clause-ok : goal.returns-in-Ok-clause-ok
returns-in-Ok-clause-ok c = rw c.read-letter.ensures.byte at c.in-Ok.ensures.ok
