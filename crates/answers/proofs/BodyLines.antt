-- What records say. The lines of a body come to what the grammar reads in them, and to nothing else. So the records of a split have one
-- list of entries.
use Rattle.std.proofs.Common.{◌≡◌, ℕ, List, [], ◌∷◌, map, Result, Ok, Err, refl, sym, ap, ◌∙◌, arith, inl, inr}
use Rattle.std.specs.Prelude.{codes, IfOk, MatchResult}
use Rattle.answers.specs.declared.fault.AnswersFault.{AnswersFault}
use Rattle.answers.specs.declared.fault.AnswersFault.TheVariants.{Memory}
use Rattle.answers.specs.declared.record_text.Kind.{Kind}
use Rattle.answers.specs.declared.record_text.Kind.TheVariants.{Solution, Unsolvable}
use Rattle.answers.specs.declared.record_text.RecordText.{RecordText}
use Rattle.answers.specs.Grammar.{IsBody, Line, SpellsEntries}
use Rattle.answers.specs.Body.{Body, Entry, PatternLines}
use Rattle.answers.specs.Records.{AreEntriesOf, SaysOfLevel, kind_line}
use Rattle.answers.specs.Reading.{after_lines, entry_of, opened}
use Rattle.answers.proofs.Bodies.{certificate_again, certificate_found}
use Rattle.answers.proofs.BlockRuns.{letters_after}

-- ---- what a record says

-- the lines of a body come to what the grammar reads in them
pub body_says : (version : ℕ) (kind : Kind) (lines : List Line) → IsBody version (kind_line kind) lines (after_lines version (opened kind) lines)
body_says version Solution lines = grind (arith, letters_after)
body_says version Unsolvable lines = inr (refl, certificate_found version lines [] (PatternLines []) (record { spelled = refl; each = tt }, omega arith))

other_kind : codes "solution" ≡ codes "unsolvable" → ⊥
other_kind e = grind arith

-- the grammar reads in the lines of a body only what they come to
pub one_body : (version : ℕ) (kind : Kind) (lines : List Line) (b : Body) → IsBody version (kind_line kind) lines b
    → b ≡ after_lines version (opened kind) lines
one_body version Solution lines b (inl h) = search (letters_after)
one_body version Solution lines b (inr h) = absurd (other_kind h.0)
one_body version Unsolvable lines b (inl h) = absurd (other_kind (sym h.0))
one_body version Unsolvable lines b (inr h) = sym (certificate_again version lines b h.1)

pub says_one_body : (r : RecordText) (b : Body) → SaysOfLevel r b → b ≡ (entry_of r).body
says_one_body r b h = search (one_body)

pub entries_are : (rs : List RecordText) → AreEntriesOf rs (map entry_of rs)
entries_are [] = tt
entries_are (r ∷ rs) = search (body_says, entries_are rs)

same_entry : (r : RecordText) (e : Entry) → e.level ≡ r.level → SaysOfLevel r e.body → e ≡ entry_of r
same_entry r e level says =
    let with_level : ℕ → Entry = λ n. record { level = n; body = e.body } in
    let with_body : Body → Entry = λ b. record { level = r.level; body = b } in
    ap with_level level ∙ ap with_body (says_one_body r e.body says)

-- the records have one list of entries
pub one_list : (rs : List RecordText) (es : List Entry) → AreEntriesOf rs es → es ≡ map entry_of rs
one_list [] [] h = refl
one_list [] (e ∷ es) h = absurd h
one_list (r ∷ rs) [] h = absurd h
one_list (r ∷ rs) (e ∷ es) h = search (same_entry, one_list rs es h.2)

-- ---- what a call answers

module _ {A : Type 0} (items : A → List RecordText) where
  pub records_found : (text : List ℕ) (levels : ℕ) (r : Result A AnswersFault) → IfOk r (λ v. SpellsEntries text levels (map entry_of (items v)))
      → IfOk r (λ v. (entries : List Entry) × SpellsEntries text levels entries × AreEntriesOf (items v) entries)
  records_found text levels (Ok v) h = search (entries_are)
  records_found text levels (Err f) h = tt

  pub records_only : (entries : List Entry) (r : Result A AnswersFault) → MatchResult r (λ v. map entry_of (items v) ≡ entries) (λ e. e ≡ Memory)
      → MatchResult r (λ v. AreEntriesOf (items v) entries) (λ e. e ≡ Memory)
  records_only entries (Ok v) h = grind (arith, entries_are)
  records_only entries (Err f) h = h
