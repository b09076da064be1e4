use Rattle.std.proofs.Common.{[], ◌∷◌}
use Rattle.answers.specs.Grammar.{cells_text}
use Rattle.devices.proofs.WrittenTexts.{handed_both, handed_part, passed_on}
use Rattle.answers.proofs.writing.write_last_cells.Goals as goal

pub returns-in_err-write_cells : goal.returns-in_err-write_cells
returns-in_err-write_cells g c = passed_on _ _ _ _ _ c.from_residual.ensures.0 (handed_part _ _ (cells_text c.args.cells.now)
    (10 ∷ []) _ c.in_err-write_cells.ensures)

pub returns : goal.returns
returns g c = handed_both _ _ _ (cells_text c.args.cells.now) (10 ∷ []) _ _ c.in_ok-write_cells.ensures c.write_bytes.ensures
