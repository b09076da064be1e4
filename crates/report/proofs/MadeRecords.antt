-- The records that are made, as they grow level by level.
-- The loop keeps a function: put the records so far before any records of the levels that are left, and you have the
-- records of all levels. A level for which something is made adds its record to those so far; any other level adds none.
-- At the end no level and no record is left.
use Rattle.std.proofs.Common.{◌≡◌, ◌≤◌, ◌⊎◌, ℕ, ◌+◌, false, ◌||◌, List, [], ◌∷◌, ◌++◌, length, drop, Option, None, Some, inr, sym, ap, subst, ◌∙◌, arith, append_assoc, length-append}
use Rattle.std.specs.Prelude.{Result, Ok, Err, IfOk, IfSome, IfNone}
use Rattle.std.proofs.lemmas.List.{append-nil}
use Rattle.std.proofs.lemmas.List.Folds.{list_any-append}
use Rattle.std.proofs.lemmas.Grind.{flat_map-append}
use Rattle.std.specs.List.{flat_map}
use Rattle.board.specs.Board.{IsWellFormed}
use Rattle.board.specs.Game.{Level}
use Rattle.board.specs.Legal.{IsBoardOf}
use Rattle.board.specs.Levels.{AreLevelsOf, most_levels}
use Rattle.board.specs.Lines.{lines_in, without_mark}
use Rattle.answers.specs.Canonical.{header_line, holds_zone, record_text, some_zone}
use Rattle.answers.proofs.Joined.{canonical_parts}
use Rattle.answers.specs.declared.record.MadeRecord.{MadeRecord}
use Rattle.maker.specs.Made.{IsFound, IsNothingMade}
use Rattle.maker.specs.declared.making.Found.{Found}
use Rattle.report.specs.MadeAnswers.{IsRefused, HasNothingMade, IsMadeBody, AreMade, none_left, without, with_record, AreMadeAnswers}
use Rattle.report.proofs.FoundRecords.{IsDraftOf}
use Rattle.report.specs.Making.{AreDraftsOf, IsFoundFor, draft_text, drafts_text, is_zone}
use Rattle.devices.specs.Reading.{most_bytes}
use Rattle.report.specs.declared.making.Draft.{Draft}

-- ---- one level
-- a certificate that is found for a board is found for its rows
pub found_some : {E : Type 0} (rows : List (List ℕ)) (level : Level) (r : Result (Option Found) E) → IsBoardOf rows level → IfOk r (λ _. IsWellFormed level)
    → IfOk r (λ o. IfSome o (IsFound level)) → IfOk r (λ o. IfSome o (IsFoundFor rows))
found_some rows level (Err e) legal formed is = tt
found_some rows level (Ok None) legal formed is = tt
found_some rows level (Ok (Some found)) legal formed is = search

-- if nothing is found for a board, nothing is made for its rows
pub found_none : {E : Type 0} (rows : List (List ℕ)) (level : Level) (r : Result (Option Found) E) → IsBoardOf rows level
    → IfOk r (λ o. IfNone o (IsNothingMade level)) → IfOk r (λ o. IfNone o (IsRefused rows ⊎ HasNothingMade rows))
found_none rows level (Err e) legal nothing = tt
found_none rows level (Ok None) legal nothing = inr (level, legal, nothing)
found_none rows level (Ok (Some found)) legal nothing = tt

-- ---- the levels
-- the records so far are made for the first k levels, whatever comes after them
abbrev pub AreMadeUpTo : ℕ → List (List (List ℕ)) → List MadeRecord → Type 0
AreMadeUpTo k levels so_far = (rest : List MadeRecord) → AreMade (k + 1) (drop k levels) rest → AreMade 1 levels (so_far ++ rest)

-- the records so far grow by the record of the next level
pub record_more : (levels : List (List (List ℕ))) (k : ℕ) (rows : List (List ℕ)) (r : MadeRecord) (so_far : List MadeRecord)
    → drop k levels ≡ rows ∷ drop (k + 1) levels → r.level ≡ k + 1 → IsMadeBody rows r.body
    → AreMadeUpTo k levels so_far → AreMadeUpTo (k + 1) levels (so_far ++ r ∷ [])
record_more levels k rows r so_far next number made before rest after =
    let P : ℕ → Type 0 = λ n. AreMade (k + 1) (rows ∷ drop (k + 1) levels) (record { level = n; body = r.body } ∷ rest) in
    subst (AreMade 1 levels) (sym (append_assoc so_far (r ∷ []) rest)) (before (r ∷ rest) (rw next (rw number (with_record made after))))

-- the records so far stay the same if nothing is made for the next level
pub none_more : (levels : List (List (List ℕ))) (k : ℕ) (rows : List (List ℕ)) (so_far : List MadeRecord)
    → drop k levels ≡ rows ∷ drop (k + 1) levels → IsRefused rows ⊎ HasNothingMade rows → AreMadeUpTo k levels so_far → AreMadeUpTo (k + 1) levels so_far
none_more levels k rows so_far next none before rest after = before rest (rw next (without none after))

-- if no level is left, the records so far are all records
pub made_all : (levels : List (List (List ℕ))) (k : ℕ) (so_far : List MadeRecord) → drop k levels ≡ [] → AreMadeUpTo k levels so_far → AreMade 1 levels so_far
made_all levels k so_far end before = subst (AreMade 1 levels) (append-nil so_far) (before [] (rw end none_left))

pub drafts_more : (records : List MadeRecord) (one : MadeRecord) (drafts : List Draft) (draft : Draft) → AreDraftsOf records drafts → IsDraftOf one draft
    → AreDraftsOf (records ++ one ∷ []) (drafts ++ draft ∷ [])
drafts_more records one drafts draft h is = record {
  texts = flat_map-append draft_text drafts (draft ∷ [])
      ∙ (ap (λ t. t ++ (draft_text draft ++ [])) h.texts ∙ ap (λ t. flat_map record_text records ++ (t ++ [])) is.text)
      ∙ sym (flat_map-append record_text records (one ∷ []));
  zones = list_any-append (λ d. is_zone d.found) drafts (draft ∷ []) ∙ (ap (λ b. b || (is_zone draft.found || false)) h.zones ∙ ap (λ b. some_zone records || (b || false)) is.zone)
      ∙ sym (list_any-append (λ r. holds_zone r.body) records (one ∷ []));
  count = omega (arith, length-append records (one ∷ []), length-append drafts (draft ∷ []));
}

-- the text of the drafts of all records is the made answers of a levels text
pub made_below : (levels_text : List ℕ) (levels : List (List (List ℕ))) (records : List MadeRecord) (drafts : List Draft)
    → length levels_text ≤ most_bytes → AreLevelsOf levels (lines_in (without_mark levels_text)) → length levels ≤ most_levels
    → AreMade 1 levels records → AreDraftsOf records drafts → AreMadeAnswers levels_text (drafts_text drafts) (length drafts)
made_below levels_text levels records drafts short levels_are few are_made h = record {
  levels = levels;
  collection = record { short = short; levels_are = levels_are; few = few };
  records = records;
  made = are_made;
  text_is = ap (λ zones. header_line zones ++ flat_map draft_text drafts) h.zones ∙ ap (λ text. header_line (some_zone records) ++ text) h.texts
      ∙ canonical_parts records;
  count_is = h.count;
}
