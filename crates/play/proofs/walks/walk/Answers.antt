-- The invariant is `IsWalked` of `Sums.antt`: the sum has the place of the player and the number of letters so far, if all cells met are
-- free and all letters are walks. The number of bytes of the mailbox is a power of two, so the mask keeps each place within the mailbox
-- (`masked`). A letter adds little, so the sum doesn't overflow. If in the end all cells met are free and the sum is small, all letters
-- were walks.
use Rattle.std.proofs.Common.{◌≡◌, ℕ, ◌+◌, ◌-◌, ◌%◌, ◌<◌, List, length, get_or, sym, ◌∙◌, ap, subst, take_all, arith}
use Rattle.std.specs.Prelude.{bit_and, bit_or}
use Rattle.std.proofs.Math.Nat.{mod-lt}
use Rattle.play.specs.Mailbox.{HasMask}
use Rattle.play.proofs.Sums.{IsWalked, mask_fits, masked, walked_more}
use Rattle.play.proofs.walks.walk.Goals as goal

-- the mask keeps the low bits of a place
low_bits : (mailbox : List ℕ) → HasMask mailbox → (mask n : ℕ) → mask + 1 ≡ length mailbox → bit_and n mask ≡ n % length mailbox
low_bits mailbox has_mask mask n is =
    let last : mask ≡ length mailbox - 1 = omega arith in
    ap (bit_and n) last ∙ masked mailbox has_mask n

pub bounds-mailbox-sum : goal.bounds-mailbox-sum
bounds-mailbox-sum c =
    let mailbox = c.args.mailbox.now in
    let sum = c.loop-byte.sum + c.added-sum.result in
    let some = (mask_fits mailbox c.requires.masked).0 in
    subst (λ n. n < length mailbox) (sym (low_bits mailbox c.requires.masked c.args.mask sum c.requires.mask)) (mod-lt sum some)

pub loop-byte-preserved : goal.loop-byte-preserved
loop-byte-preserved c =
    let mailbox = c.args.mailbox.now in
    let sum = c.loop-byte.sum + c.added-sum.result in
    subst (λ n. IsWalked mailbox c.args.player c.args.chunk.now (c.loop-byte.byte-index + 1) sum (bit_or c.loop-byte.met (get_or mailbox n 0)))
    (sym (low_bits mailbox c.requires.masked c.args.mask sum c.requires.mask))
    (walked_more c.requires.masked c.args.player c.args.chunk.now c.loop-byte.byte-index c.loop-byte.sum c.loop-byte.met c.added-sum.result
    c.requires.few (omega arith) c.added-sum.ensures c.loop-byte.invariant)

pub returns-then-sum-lt-NO_WALK : goal.returns-then-sum-lt-NO_WALK
returns-then-sum-lt-NO_WALK c = grind (arith, take_all)
