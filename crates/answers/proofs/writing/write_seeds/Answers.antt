-- The seeds come between two texts. The first call writes the text before them, and the second the seeds with the text after them.
use Rattle.std.proofs.Common.{List, ℕ, [], ◌∷◌, ◌++◌, append_assoc, ap, sym, ◌∙◌, codes}
use Rattle.answers.specs.Canonical.{ended}
use Rattle.answers.specs.Grammar.{cells_text, said_seeds, seeds_text}
use Rattle.devices.proofs.WrittenTexts.{handed_as, handed_both, handed_part, passed_on}
use Rattle.answers.proofs.writing.write_seeds.Goals as goal

abbrev sign : List ℕ
sign = codes " @ "

abbrev end : List ℕ
end = 10 ∷ []

pub returns-in_err-write_bytes-in-Cells : goal.returns-in_err-write_bytes-in-Cells
returns-in_err-write_bytes-in-Cells g c =
    let rest = seeds_text (said_seeds c.args.seeds.now) ++ end in
    passed_on _ _ _ _ _ c.from_residual.ensures.0 (handed_part _ _ sign rest _ c.in_err-write_bytes-in-Cells.ensures)

pub returns-in_ok-write_bytes-in-Cells : goal.returns-in_ok-write_bytes-in-Cells
returns-in_ok-write_bytes-in-Cells g c =
    let list = cells_text c.in-Cells.cells.items in
    let is = ap (λ s. sign ++ seeds_text (said_seeds s) ++ end) (sym c.in-Cells.is) in
    let cells = handed_as _ _ _ (ended list) _ (ap (λ l. ended (cells_text l)) c.deref.ensures) c.write_last_cells.ensures in
    handed_as _ _ _ _ _ (sym (append_assoc sign list end) ∙ is) (handed_both _ _ _ sign (ended list) _ _ c.in_ok-write_bytes-in-Cells.ensures cells)
