use Rattle.std.proofs.Common.{sym, ◌∙◌}
use Rattle.closure.proofs.GroupPushes.{noted_more}
use Rattle.closure.proofs.Rests.{none_rest}
use Rattle.closure.proofs.checking.Checker.note.Goals as goal

pub returns : goal.returns
returns g c =
    let settled = c.in_ok-settle.ensures in
    let is = settled.checker in
    record {
      noted = noted_more c.args.tables.now.board.now c.args.tables.now.groups c.settle.new.self.covered.items is.noted c.args.group c.is_empty.result
          c.requires.group (λ empty. none_rest c.args.tables.now c.settle.new.self is c.args.group settled.settled (sym empty ∙ c.is_empty.ensures));
      are = is.are;
      free = is.free;
      rest = is.rest;
    }
