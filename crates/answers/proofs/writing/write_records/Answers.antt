use Rattle.std.proofs.Common.{ℕ, List, arith}
use Rattle.std.specs.List.{flat_map}
use Rattle.answers.specs.declared.record.MadeRecord.{MadeRecord}
use Rattle.answers.specs.Canonical.{ended, record_lines}
use Rattle.devices.proofs.WrittenTexts.{handed_item, handed_some, passed_on}
use Rattle.answers.proofs.writing.write_records.Goals as goal

abbrev text : MadeRecord → List ℕ
text r = flat_map ended (record_lines r)

pub returns-in_err-write_record : goal.returns-in_err-write_record
returns-in_err-write_record g c =
    let cut = handed_item text c.args.records.now c.loop-made.made-index c.made-item.result _ _ _ _ _ (omega arith) c.made-item.is c.loop-made.invariant
    c.in_err-write_record.ensures in
    passed_on _ _ _ _ _ c.from_residual.ensures.0 (handed_some text c.args.records.now c.loop-made.made-index _ _ _ cut)
