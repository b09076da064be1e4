-- Joined lists, and the parts of the canonical text. Joining what each element of a joined list gives is the same as
-- joining what each piece gives.
use Rattle.std.proofs.Common.{◌≡◌, ℕ, List, [], ◌∷◌, ◌++◌, append_assoc, codes, refl, sym, ap, ◌∙◌}
use Rattle.std.proofs.lemmas.Grind.{flat_map-append}
use Rattle.std.specs.List.{flat_map}
use Rattle.answers.specs.declared.record.MadeRecord.{MadeRecord}
use Rattle.answers.specs.Grammar.{level_text}
use Rattle.answers.specs.Canonical.{canonical, ended, header_line, lines_with, record_lines, record_text, some_zone}

pub flat_map-flat_map : {X Y Z : Type 0} (f : Y → List Z) (h : X → List Y) (xs : List X) → flat_map f (flat_map h xs) ≡ flat_map (λ x. flat_map f (h x)) xs
flat_map-flat_map f h [] = refl
flat_map-flat_map f h (x ∷ xs) = search (flat_map-append, flat_map-flat_map f h xs)

-- the canonical text is the header, and then the text of each record
pub canonical_parts : (records : List MadeRecord) → header_line (some_zone records) ++ flat_map record_text records ≡ canonical records
canonical_parts records = ap (λ l. header_line (some_zone records) ++ l) (sym (flat_map-flat_map ended record_lines records))

-- the text of a record is its level line, its body and its last line
pub record_parts : (level : ℕ) (lines : List (List ℕ)) → ended (level_text level) ++ flat_map ended lines ++ ended (codes "end") ≡ flat_map ended
    (lines_with level lines)
record_parts level lines =
    append_assoc (ended (level_text level)) (flat_map ended lines) (ended (codes "end"))
    ∙ ap (λ l. ended (level_text level) ++ l) (sym (flat_map-append ended lines (codes "end" ∷ [])))
