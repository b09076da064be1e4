use Rattle.std.proofs.Common.{[], ◌∷◌}
use Rattle.devices.proofs.WrittenTexts.{handed_both, handed_part, passed_on}
use Rattle.answers.proofs.writing.write_line.Goals as goal

pub returns-in_err-write_bytes : goal.returns-in_err-write_bytes
returns-in_err-write_bytes g c = passed_on _ _ _ _ _ c.from_residual.ensures.0 (handed_part _ _ c.args.line.now (10 ∷ []) _ c.in_err-write_bytes.ensures)

pub returns : goal.returns
returns g c = handed_both _ _ _ _ _ _ _ c.in_ok-write_bytes.ensures c.write_bytes-2.ensures
