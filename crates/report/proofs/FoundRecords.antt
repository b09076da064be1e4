-- The record of a level whose certificate was found as cells. The certificate that is made has a pattern of one box for each dead
-- square and a last one of all frozen boxes, or it is a zone of these cells. So the record of it has the text that the cells make.
use Rattle.std.proofs.Common.{Global, Vec, ◌≡◌, ℕ, ◌^◌, ◌<◌, List, [], ◌∷◌, ◌++◌, length, refl, sym, ap, ap₂, ◌∙◌, arith}
use Rattle.std.specs.Prelude.{map, codes}
use Rattle.std.proofs.lemmas.List.{length-map, map-append}
use Rattle.std.proofs.lemmas.Simd.{map-map}
use Rattle.board.specs.Board.{IsWellFormed}
use Rattle.board.specs.Game.{Level}
use Rattle.answers.specs.Canonical.{holds_zone, last_pattern, list_patterns, lone_patterns, made_lines, record_text, text_with}
use Rattle.answers.specs.Grammar.{pattern_text, said_pattern}
use Rattle.answers.specs.declared.pattern.Coord.{Coord}
use Rattle.answers.specs.declared.pattern.Pattern.{Pattern}
use Rattle.answers.specs.declared.pattern.Seeds.TheVariants.{Room}
use Rattle.answers.specs.declared.record.MadeBody.{MadeBody}
use Rattle.answers.specs.declared.record.MadeRecord.{MadeRecord}
use Rattle.maker.proofs.MadeBodies.{made_accepted, made_lawful}
use Rattle.maker.proofs.MadeLists.{list_lawful}
use Rattle.maker.specs.Made.{IsFound, IsMade, body_of}
use Rattle.maker.specs.declared.making.Found.{Found}
use Rattle.maker.specs.declared.making.Found.TheVariants as found
use Rattle.maker.specs.declared.making.Made.{Made}
use Rattle.maker.specs.declared.making.Made.TheVariants.{Patterns, Zone}
use Rattle.report.specs.MadeAnswers.{IsMadeBody}
use Rattle.report.specs.Making.{IsDraftFor, draft_text, found_lines, is_zone}
use Rattle.report.specs.declared.making.Draft.{Draft}

-- the pattern has these boxes, and the seeds `*`
abbrev pattern_with : List Coord → Pattern
pattern_with boxes = record { line = 0; boxes = record { items = boxes; capacity = 8 }; seeds = Room }

abbrev last_of : List Coord → List Pattern
last_of [] = []
last_of (c ∷ boxes) = pattern_with (c ∷ boxes) ∷ []

abbrev patterns_with : List Coord → List Coord → List Pattern
patterns_with dead frozen = map (λ c. pattern_with (c ∷ [])) dead ++ last_of frozen

said_with : (dead frozen : List Coord) → map said_pattern (patterns_with dead frozen) ≡ list_patterns dead frozen
said_with dead frozen =
    map-append said_pattern (map (λ c. pattern_with (c ∷ [])) dead) (last_of frozen)
    ∙ (ap (λ l. l ++ map said_pattern (last_of frozen)) (map-map said_pattern (λ c. pattern_with (c ∷ [])) dead)
    ∙ ap (λ l. lone_patterns dead ++ l) (said_last frozen))
  where
    said_last : (frozen : List Coord) → map said_pattern (last_of frozen) ≡ last_pattern frozen
    said_last [] = refl
    said_last (c ∷ frozen) = refl

-- the draft has the text of the record, and is of a zone if the record holds one
pub record IsDraftOf (one : MadeRecord) (draft : Draft) : Type 0 where
  pub text : draft_text draft ≡ record_text one
  pub zone : is_zone draft.found ≡ holds_zone one.body

-- the certificate is made for the level, and has the lines of what was found
record IsMadeAs (level : Level) (certificate : Found) (made : Made) : Type 0 where
  is : IsMade level made
  lines : found_lines certificate ≡ made_lines (body_of made)
  zone : is_zone certificate ≡ holds_zone (body_of made)

made_as : (level : Level) → IsWellFormed level → (certificate : Found) → IsFound level certificate → (made : Made) × IsMadeAs level certificate made
made_as level formed (found.Zone cells) is = (Zone (record { line = 0; cells = cells }), record { is = is; lines = refl; zone = refl })
made_as level formed (found.List dead frozen) is =
    let items = patterns_with dead.items frozen.items in
    let said = said_with dead.items frozen.items in
    let few = (list_lawful level formed (list_patterns dead.items frozen.items) is).0 in
    let long = sym (length-map items said_pattern) ∙ ap length said in
    let small : length items < 2 ^ 63 = omega arith in
    let patterns : Vec Pattern Global =
    record {
      ptr = dead.ptr;
      len = length items;
      cap = length items;
      alloc = dead.alloc;
      items = items;
      ok = (refl, omega arith);
      small = small;
    } in (
      Patterns patterns,
      record {
        is = rw said is;
        lines = ap (λ l. codes "unsolvable" ∷ l) (ap (map pattern_text) (sym said) ∙ map-map pattern_text said_pattern items);
        zone = refl;
      },
    )

-- a draft for a level is of a record that is made for it
pub record_of : (n : ℕ) (rows : List (List ℕ)) (draft : Draft) → IsDraftFor n rows draft
    → (body : MadeBody) × IsMadeBody rows body × IsDraftOf (record { level = n; body = body }) draft
record_of n rows draft it =
    let found = it.found in
    let (made, same) = made_as found.level found.formed draft.found found.is in (
      body_of made,
      record {
        level = found.level;
        legal = found.legal;
        made = made;
        is = same.is;
        accepted = made_accepted found.level found.formed made same.is;
        body_is = refl;
        lawful = made_lawful found.level found.formed made same.is;
      },
      record { text = ap₂ text_with it.number same.lines; zone = same.zone },
    )
