-- A region has none of its own boxes.
use Rattle.std.proofs.lemmas.Bool.{false≢true}
use Rattle.cellset.proofs.Members.{not_both}
use Rattle.closure.specs.Groups.{position_at}
use Rattle.certificates.proofs.RegionCells.{region_lacks}
use Rattle.closure.proofs.Grouped.{boxes_on}
use Rattle.closure.proofs.index.is_covering.Goals as goal

pub are_in-requires : goal.are_in-requires
are_in-requires g c = λ q has.
    rw c.requires.boxes (boxes_on c.args.tables.now.board.now c.args.tables.now.groups c.requires.tables.lawful c.requires.tables.grouped c.args.group
    c.requires.group c.boxes-kept.result.now c.boxes-kept.ensures q has)

pub is_among-requires-clause-on : goal.is_among-requires-clause-on
is_among-requires-clause-on g c = rw c.requires.boxes ((c.requires.tables.formed.room c.args.player c.requires.player).0)

pub returns-then-not-are_in : goal.returns-then-not-are_in
returns-then-not-are_in g c = (
  λ h. absurd (false≢true h),
  λ covers.
      let missing = rw c.boxes-kept.ensures at c.if-not-are_in.ensures in
      absurd (not_both _ missing.0 (covers.boxes missing.0 missing.1) missing.2),
)

pub returns-then-is_among : goal.returns-then-is_among
returns-then-is_among g c = (
  λ h. absurd (false≢true h),
  λ covers. absurd (not_both _ c.args.player (rw c.boxes-kept.ensures at c.if-is_among.ensures)
      (region_lacks c.args.tables.now.board.now (position_at c.args.tables.now.board.now c.args.tables.now.groups c.args.group) _ covers.player)),
)

pub is_inside-requires-clause-off : goal.is_inside-requires-clause-off
is_inside-requires-clause-off g c = λ q has. c.requires.off q (c.if-not-are_in.ensures q (rw c.boxes-kept.ensures has))

pub is_inside-requires-clause-cell : goal.is_inside-requires-clause-cell
is_inside-requires-clause-cell g c = (c.requires.tables.formed.room c.args.player c.requires.player).0

pub returns : goal.returns
returns g c =
    let inside = c.is_inside.ensures c.requires.player (rw c.boxes-kept.ensures at c.if-is_among.ensures) in (
      λ yes. record {
        boxes = λ q h. c.if-not-are_in.ensures q (rw c.boxes-kept.ensures h);
        player = inside.0 yes;
      },
      λ covers. inside.1 covers.player,
    )
