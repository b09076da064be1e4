-- The line is a word, followed by the cells and the line's end.
use Rattle.std.proofs.Common.{◌≡◌, ℕ, List, [], ◌∷◌, ◌++◌, append_assoc, sym, codes}
use Rattle.answers.specs.Canonical.{ended}
use Rattle.answers.specs.Grammar.{cells_text, zone_text}
use Rattle.answers.specs.declared.pattern.Coord.{Coord}
use Rattle.devices.proofs.WrittenTexts.{handed_as, handed_both, handed_part, passed_on}
use Rattle.answers.proofs.writing.write_zone.Goals as goal

abbrev word : List ℕ
word = codes "zone "

abbrev rest : List Coord → List ℕ
rest cells = ended (cells_text cells)

joined : (cells : List Coord) → word ++ rest cells ≡ ended (zone_text (record { line = 0; cells = cells }))
joined cells = sym (append_assoc word (cells_text cells) (10 ∷ []))

pub returns-in_err-write_bytes : goal.returns-in_err-write_bytes
returns-in_err-write_bytes g c =
    let cells = c.args.cells.now in
    passed_on _ _ _ _ _ c.from_residual.ensures.0 (handed_as _ _ _ _ _ (joined cells) (handed_part _ _ word (rest cells) _ c.in_err-write_bytes.ensures))

pub returns : goal.returns
returns g c =
    let cells = c.args.cells.now in
    handed_as _ _ _ _ _ (joined cells) (handed_both _ _ _ word (rest cells) _ _ c.in_ok-write_bytes.ensures c.write_last_cells.ensures)
