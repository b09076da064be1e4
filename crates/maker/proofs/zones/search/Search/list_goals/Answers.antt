-- The invariant of both loops is `IsPartlyListed`. A visited goal that is left is listed, so one goal less is left. If a row has no such goal,
-- the rows before the next one have none.
use Rattle.std.proofs.Common.{refl, arith}
use Rattle.maker.proofs.Searches.{one_less, partly_more}
use Rattle.maker.proofs.zones.search.Search.list_goals.Goals as goal

pub push_reserved-requires : goal.push_reserved-requires
push_reserved-requires c =
    let (seen, has) = c.in-Some.ensures in
    let space = c.loop-cell.invariant.space in
    let fewer = one_less c.loop-cell.self.found.items c.loop-cell.self.left.members c.remove.new.self.members
    (record { cell = c.in-Some.cell; via = c.args.via }) has c.remove.ensures.members in
    omega arith

pub loop-cell-smaller : goal.loop-cell-smaller
loop-cell-smaller c =
    let (seen, has) = c.in-Some.ensures in
    let fewer = one_less c.loop-cell.self.found.items c.loop-cell.self.left.members c.remove.new.self.members
    (record { cell = c.in-Some.cell; via = c.args.via }) has c.remove.ensures.members in
    omega arith

pub loop-cell-preserved : goal.loop-cell-preserved
loop-cell-preserved c =
    let (seen, has) = c.in-Some.ensures in
    partly_more c.args.via c.args.self.now c.loop-cell.self _ c.loop-row.row c.in-Some.cell c.loop-cell.invariant seen has refl refl
    c.remove.ensures.extent c.push_reserved.ensures.capacity c.push_reserved.ensures.items c.remove.ensures.members
