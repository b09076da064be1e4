use Rattle.play.proofs.Lanes.{sixteen}
use Rattle.play.proofs.mailbox.bytes_of.Goals as goal

pub returns-clause-bytes : goal.returns-clause-bytes
returns-clause-bytes c = λ k small. sixteen c.args.floor small
