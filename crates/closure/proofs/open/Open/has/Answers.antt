use Rattle.closure.proofs.Numbers.{told}
use Rattle.closure.proofs.open.Open.has.Goals as goal

pub returns : goal.returns
returns c = rw c.is_some.ensures (told c.args.self.now.pushes c.args.from c.args.dir c.number_of.result c.number_of.ensures)
