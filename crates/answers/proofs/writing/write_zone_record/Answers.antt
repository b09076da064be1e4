-- The calls write the level line, the lines of the body and the last line.
use Rattle.std.proofs.Common.{ℕ, List, codes}
use Rattle.std.specs.List.{flat_map}
use Rattle.answers.specs.Canonical.{ended, zone_lines}
use Rattle.answers.specs.Grammar.{level_text}
use Rattle.answers.proofs.Joined.{record_parts}
use Rattle.answers.proofs.ThreeParts.{first_cut, second_cut, all_written}
use Rattle.answers.proofs.writing.write_zone_record.Goals as goal

pub returns-in_err-write_level : goal.returns-in_err-write_level
returns-in_err-write_level g c =
    let lines = zone_lines c.args.cells.now in
    first_cut _ (flat_map ended lines) (ended (codes "end")) _ (record_parts c.args.level lines) c.from_residual.ensures.0 c.in_err-write_level.ensures

pub returns-in_err-write_zone_body : goal.returns-in_err-write_zone_body
returns-in_err-write_zone_body g c =
    let lines = zone_lines c.args.cells.now in
    second_cut _ (flat_map ended lines) (ended (codes "end")) _ (record_parts c.args.level lines) c.from_residual-in_err-write_zone_body.ensures.0
    c.in_ok-write_level.ensures c.in_err-write_zone_body.ensures

pub returns : goal.returns
returns g c =
    let lines = zone_lines c.args.cells.now in
    all_written _ (flat_map ended lines) (ended (codes "end")) _ (record_parts c.args.level lines) c.in_ok-write_level.ensures c.in_ok-write_zone_body.ensures
    c.write_bytes.ensures
