use Rattle.std.proofs.Common.{◌++◌}
use Rattle.std.specs.List.{flat_map}
use Rattle.answers.specs.CellTexts.{between}
use Rattle.answers.proofs.CellBuffers.{parts_on}
use Rattle.devices.proofs.WrittenTexts.{handed_as, handed_both, handed_part, passed_on}
use Rattle.answers.proofs.cells.write_each.Goals as goal

pub loop-rest-preserved : goal.loop-rest-preserved
loop-rest-preserved g c =
    let (front, wrote, whole) = c.loop-rest.invariant in
    let f = between c.args.before.now c.args.after.now in
    let part = flat_map f c.split_at.result.0.now in (
      front ++ part,
      handed_both _ _ _ front part _ _ wrote c.in_ok-write_part.ensures,
      parts_on f front c.loop-rest.rest.now c.args.cells.now c.min.result c.split_at.ensures.front c.split_at.ensures.back whole,
    )

pub returns-in_err-write_part : goal.returns-in_err-write_part
returns-in_err-write_part g c =
    let (front, wrote, whole) = c.loop-rest.invariant in
    let f = between c.args.before.now c.args.after.now in
    let part = flat_map f c.split_at.result.0.now in
    let cut = handed_both _ _ _ front part _ _ wrote c.in_err-write_part.ensures in
    let more = handed_part _ _ (front ++ part) (flat_map f c.split_at.result.1.now) _ cut in
    passed_on _ _ _ _ _ c.from_residual.ensures.0
    (handed_as _ _ _ _ _ (parts_on f front c.loop-rest.rest.now c.args.cells.now c.min.result
    c.split_at.ensures.front c.split_at.ensures.back whole) more)
