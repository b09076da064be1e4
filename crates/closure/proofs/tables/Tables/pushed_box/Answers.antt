use Rattle.std.proofs.{Common.◌≡◌, Common.◌+◌, Common.slice_index_or, Common.arith, lemmas.List.length-take, lemmas.List.length-drop, lemmas.List.get_or_default}
use Rattle.closure.specs.{GroupRegions.no_ways, Spans.span_at}
use Rattle.closure.proofs.tables.Tables.pushed_box.Goals as goal

pub index-requires-2 : goal.index-requires-2
index-requires-2 g c = grind (arith, get_or_default, length-take, length-drop)

pub returns-clause-is : goal.returns-clause-is
returns-clause-is g c =
    let tables = c.args.self.now in
    let read : c.index-2.result.now ≡ slice_index_or tables.regions.ways.items ((span_at tables.groups.spans.items c.args.group).from + c.args.number) no_ways =
    grind (arith, get_or_default, length-take, length-drop) in
    let boxes = c.requires.boxes in
    record {
      group = c.requires.group;
      boxes = boxes;
      number = c.requires.number;
      ways = rw (boxes, read) (c.requires.tables.regions.ways c.args.group c.requires.group (rw boxes at c.requires.off) c.args.number (rw boxes at c.requires.number));
    }
