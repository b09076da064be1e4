-- The ways of a box say in which directions a push out of its group moves it (`GroupPushes.antt`). A cell of the region or of the room is on the
-- grid, so both steps lead to a cell.
use Rattle.std.proofs.{Common.◌≡◌, Common.true, Common.sym, Common.◌∙◌, lemmas.Bool.false≢true}
use Rattle.cellset.specs.{Cell.neighbor, Cell.opposite, declared.dir.Dir.Dir}
use Rattle.certificates.specs.Pattern.{InPatternRegion}
use Rattle.certificates.proofs.RegionCells.{region_on}
use Rattle.closure.specs.{GroupPushes.IsPushedBox, GroupPushes.pushed_cell, GroupRegions.IsFreeAt, Groups.position_at, Ways.goes}
use Rattle.closure.specs.declared.tables.{PushedBox.PushedBox, Tables.Tables}
use Rattle.closure.proofs.GroupPushes.{pushed_on, pushed_out, pushed_toward}
use Rattle.closure.proofs.tables.Tables.push_of.Goals as goal

-- a player comes from a cell of the region, and the cell ahead is in the room
goes_way : {S : Type 0} (tables : Tables S) (pushed : PushedBox) → IsPushedBox tables pushed → (d : Dir) → true ≡ goes pushed.ways d
    → InPatternRegion tables.board.now (position_at tables.board.now tables.groups pushed.group) (neighbor (pushed_cell pushed) (opposite d))
    × IsFreeAt tables.board.now tables.groups pushed.group (neighbor (pushed_cell pushed) d)
goes_way tables pushed is d has = (is.ways d).0 (sym has)

pub step-requires : goal.step-requires
step-requires g c = rw c.shape-shape.ensures.value (pushed_on c.args.self.now c.requires.tables c.args.pushed.now c.requires.pushed c.args.dir)

pub step-requires-2 : goal.step-requires-2
step-requires-2 g c = rw c.shape-shape.ensures.value (pushed_on c.args.self.now c.requires.tables c.args.pushed.now c.requires.pushed c.args.dir)

pub returns-then-not-has : goal.returns-then-not-has
returns-then-not-has g c = λ push out from toward.
    false≢true (c.if-not-has.ensures ∙ (c.requires.pushed.ways c.args.dir).1 (pushed_toward c.args.self.now c.requires.tables c.args.pushed.now c.requires.pushed c.args.dir push out from toward))

pub returns-in_default : goal.returns-in_default
returns-in_default g c =
    let way = goes_way c.args.self.now c.args.pushed.now c.requires.pushed c.args.dir c.if-not-has.ensures in
    absurd (c.in_default.ensures (rw (c.shape-shape.ensures.value, c.opposite.ensures)
    (region_on c.args.self.now.board.now (position_at c.args.self.now.board.now c.args.self.now.groups c.args.pushed.now.group) _ way.0)))

pub returns-in_default-step : goal.returns-in_default-step
returns-in_default-step g c =
    let way = goes_way c.args.self.now c.args.pushed.now c.requires.pushed c.args.dir c.if-not-has.ensures in
    absurd (c.in_default-step.ensures (rw c.shape-shape.ensures.value (c.requires.tables.formed.room _ way.1.0).0))

pub returns : goal.returns
returns g c =
    let way = goes_way c.args.self.now c.args.pushed.now c.requires.pushed c.args.dir c.if-not-has.ensures in
    pushed_out c.args.self.now c.requires.tables c.args.pushed.now c.requires.pushed c.args.dir way.0 way.1 c.in-Some.player c.in-Some-step.to
    (rw c.opposite.ensures at c.in-Some.ensures.1) c.in-Some-step.ensures.1
