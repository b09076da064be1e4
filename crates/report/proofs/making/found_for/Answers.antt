use Rattle.report.proofs.MadeRecords.{found_none, found_some}
use Rattle.report.proofs.making.found_for.Goals as goal

pub returns-clause-some : goal.returns-clause-some
returns-clause-some g c = let found = c.find-found.ensures in found_some c.args.level.now c.in-Ok.board c.find-found.result c.in-Ok.ensures.ok found.formed found.some

pub returns-clause-none : goal.returns-clause-none
returns-clause-none g c = found_none c.args.level.now c.in-Ok.board c.find-found.result c.in-Ok.ensures.ok c.find-found.ensures.none
