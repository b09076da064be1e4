use Rattle.play.proofs.Sums.{IsWalked}
use Rattle.play.proofs.walks.walk.Given as goal

abbrev pub invariant-loop-byte : goal.invariant-loop-byte
invariant-loop-byte l = IsWalked l.mailbox l.player l.chunk l.byte-index l.sum l.met
