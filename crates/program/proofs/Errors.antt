-- A request whose texts have an error has nothing to print.
-- A text has one list of levels, and each level has one board or one refusal. So a text that has something to print isn't too long, has few
-- levels, and has a legal level with the number.
use Rattle.std.proofs.Common.{◌≡◌, ◌⊎◌, ◌<◌, ℕ, List, Option, None, Some, length, inl, inr, subst, sym, arith}
use Rattle.board.specs.Game.{Level}
use Rattle.board.specs.Legal.{IsBoardOf, IsRefusal}
use Rattle.board.specs.Levels.{AreLevelsOf}
use Rattle.board.specs.Lines.{lines_in, without_mark}
use Rattle.board.specs.declared.reading.BoardFault.{BoardFault}
use Rattle.devices.specs.Reading.{most_bytes}
use Rattle.report.specs.Audit.{IsFirstError}
use Rattle.report.specs.Collection.{HasTooManyLevels, IsCollection}
use Rattle.report.specs.DeadMap.{HasNoLevel, IsMapOf, IsRefusedLevel}
use Rattle.report.specs.Report.{IsReport}
use Rattle.report.specs.declared.fault.AuditError.{AuditError}
use Rattle.report.specs.declared.summary.Summary.{Summary}
use Rattle.arguments.specs.Command.{Request, audit, make, dead}
use Rattle.program.specs.Program.{HasError, Prints}

-- the known bytes of a file are one text
pub one_text : (known : Option (List ℕ)) (text other : List ℕ) → known ≡ Some text → known ≡ Some other → text ≡ other
one_text known text other is too = cc

-- what is there is not missing, and is one thing
not_missing : {A : Type 0} (at : Option A) (there : A) → at ≡ Some there → at ≡ None → ⊥
not_missing at there is none = let no : ⊥ = cc in no

one_thing : {A : Type 0} (at : Option A) (one other : A) → at ≡ Some one → at ≡ Some other → one ≡ other
one_thing at one other is too = cc

module _ (no_error : (lt at text : List ℕ) (summary : Summary) (error : AuditError) → IsReport lt at text summary → IsFirstError lt at error → ⊥)
    (one_list : (levels others : List (List (List ℕ))) (lines : List (List ℕ)) → AreLevelsOf levels lines → AreLevelsOf others lines → levels ≡ others)
    (not_refused : (rows : List (List ℕ)) (level : Level) (why : BoardFault) → IsBoardOf rows level → IsRefusal rows why → ⊥) where
  not_many : (lt : List ℕ) (levels : List (List (List ℕ))) → IsCollection lt levels → HasTooManyLevels lt → ⊥
  not_many lt levels collection (others, they, above) =
      let few = rw (one_list levels others (lines_in (without_mark lt)) collection.levels_are they) at collection.few in
      absurd (omega (arith, few, above))

  no_collection_error : (lt : List ℕ) (levels : List (List (List ℕ))) → IsCollection lt levels → (most_bytes < length lt) ⊎ HasTooManyLevels lt → ⊥
  no_collection_error lt levels collection (inl long) = absurd (omega (arith, long, collection.short))
  no_collection_error lt levels collection (inr many) = not_many lt levels collection many

  has_level : (lt : List ℕ) (n : ℕ) (text : List ℕ) → IsMapOf lt n text → HasNoLevel lt n → ⊥
  has_level lt n text map (others, they, none) =
      let same = one_list map.levels others (lines_in (without_mark lt)) map.collection.levels_are they.levels_are in
      not_missing _ map.rows (rw same at map.level_is) none

  is_legal : (lt : List ℕ) (n : ℕ) (text : List ℕ) (why : BoardFault) → IsMapOf lt n text → IsRefusedLevel lt n why → ⊥
  is_legal lt n text why map (others, they, rows, level_is, refusal) =
      let same = one_list map.levels others (lines_in (without_mark lt)) map.collection.levels_are they.levels_are in
      let here = one_thing _ map.rows rows (rw same at map.level_is) level_is in
      not_refused map.rows map.level why map.legal (subst (λ (r : List (List ℕ)). IsRefusal r why) (sym here) refusal)

  no_map_error : (lt : List ℕ) (n : ℕ) (text : List ℕ) → IsMapOf lt n text
      → (most_bytes < length lt) ⊎ (HasTooManyLevels lt ⊎ (HasNoLevel lt n ⊎ ((why : BoardFault) × IsRefusedLevel lt n why))) → ⊥
  no_map_error lt n text map (inl long) = absurd (omega (arith, long, map.collection.short))
  no_map_error lt n text map (inr (inl many)) = not_many lt map.levels map.collection many
  no_map_error lt n text map (inr (inr (inl none))) = has_level lt n text map none
  no_map_error lt n text map (inr (inr (inr (why, refused)))) = is_legal lt n text why map refused

  pub nothing : (known : List ℕ → Option (List ℕ)) (request : Request) (text : List ℕ) (status : ℕ) → Prints known request text status
      → HasError known request → ⊥
  nothing known (audit levels answers) text status (lt, lt_is, at, at_is, summary, report, _) (other, other_is, others, others_is, error, first) =
      let here = subst (λ (t : List ℕ). IsFirstError t others error) (one_text (known levels) other lt other_is lt_is) first in
      no_error lt at text summary error report (subst (λ (t : List ℕ). IsFirstError lt t error) (one_text (known answers) others at others_is at_is) here)
  nothing known (make levels) text status (lt, lt_is, count, made, _) (other, other_is, error) =
      let here = subst (λ (t : List ℕ). (most_bytes < length t) ⊎ HasTooManyLevels t) (one_text (known levels) other lt other_is lt_is) error in
      no_collection_error lt made.levels made.collection here
  nothing known (dead levels n) text status (lt, lt_is, map, _) (other, other_is, error) =
      let here = subst (λ (t : List ℕ). (most_bytes < length t) ⊎ (HasTooManyLevels t ⊎ (HasNoLevel t n ⊎ ((why : BoardFault) × IsRefusedLevel t n why))))
      (one_text (known levels) other lt other_is lt_is) error in
      no_map_error lt n text map here
