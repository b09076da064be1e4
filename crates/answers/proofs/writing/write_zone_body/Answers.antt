-- The calls write the kind line and the line of the zone.
use Rattle.std.proofs.Common.{◌≡◌, ◌++◌, List, ℕ, ap, sym, append-nil, codes}
use Rattle.std.specs.List.{flat_map}
use Rattle.answers.specs.Canonical.{ended, zone_lines}
use Rattle.answers.specs.Grammar.{zone_text}
use Rattle.answers.specs.declared.pattern.Coord.{Coord}
use Rattle.devices.proofs.WrittenTexts.{handed_as, handed_both, handed_part, passed_on}
use Rattle.answers.proofs.writing.write_zone_body.Goals as goal

abbrev kind : List ℕ
kind = codes "unsolvable\n"

abbrev line : List Coord → List ℕ
line cells = ended (zone_text (record { line = 0; cells = cells }))

joined : (cells : List Coord) → kind ++ line cells ≡ flat_map ended (zone_lines cells)
joined cells = ap (λ l. kind ++ l) (sym (append-nil (line cells)))

pub returns-in_err-write_bytes : goal.returns-in_err-write_bytes
returns-in_err-write_bytes g c =
    passed_on _ _ _ _ _ c.from_residual.ensures.0 (handed_as _ _ _ _ _ (joined c.args.cells.now)
    (handed_part _ _ kind (line c.args.cells.now) _ c.in_err-write_bytes.ensures))

pub returns : goal.returns
returns g c =
    handed_as _ _ _ _ _ (joined c.args.cells.now) (handed_both _ _ _ kind (line c.args.cells.now) _ _ c.in_ok-write_bytes.ensures c.write_zone.ensures)
