use Rattle.std.proofs.Common.{arith}
use Rattle.std.proofs.lemmas.List.{get_or-set_other, get_or-set_same, length-set}
use Rattle.certificates.proofs.CellLists.{in_list, no_cell}
use Rattle.closure.proofs.group_regions.Flood.note_ways.Goals as goal

pub ways_at-requires-clause-cell : goal.ways_at-requires-clause-cell
ways_at-requires-clause-cell c = c.requires.boxes _ (in_list c.args.boxes.now c.loop-number.number no_cell c.loop-number-test.true)

pub loop-number-preserved : goal.loop-number-preserved
loop-number-preserved c = grind (arith, length-set, get_or-set_other, get_or-set_same)
