-- The calls write the header line, and then the lines of the records.
use Rattle.std.proofs.Common.{ℕ, List, ap}
use Rattle.std.specs.List.{flat_map}
use Rattle.answers.specs.declared.record.MadeRecord.{MadeRecord}
use Rattle.answers.specs.Canonical.{header_line, record_text, some_zone}
use Rattle.answers.proofs.Joined.{canonical_parts}
use Rattle.devices.proofs.WrittenTexts.{handed_as, handed_both, handed_part, passed_on}
use Rattle.answers.proofs.writing.write_text.Goals as goal

abbrev header : List MadeRecord → List ℕ
header records = header_line (some_zone records)

abbrev lines : List MadeRecord → List ℕ
lines records = flat_map record_text records

pub returns-in_err-write_header : goal.returns-in_err-write_header
returns-in_err-write_header g c =
    let records = c.args.records.now in
    let line = handed_as _ _ _ (header records) _ (ap header_line c.some_zone.ensures) c.in_err-write_header.ensures in
    passed_on _ _ _ _ _ c.from_residual.ensures.0 (handed_as _ _ _ _ _ (canonical_parts records) (handed_part _ _ (header records) (lines records) _ line))

pub returns : goal.returns
returns g c =
    let records = c.args.records.now in
    let line = handed_as _ _ _ (header records) _ (ap header_line c.some_zone.ensures) c.in_ok-write_header.ensures in
    handed_as _ _ _ _ _ (canonical_parts records) (handed_both _ _ _ (header records) (lines records) _ _ line c.write_records.ensures)
