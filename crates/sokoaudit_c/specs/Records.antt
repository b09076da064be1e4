-- Where the records of an answers text are.
--   span     where a record is, as the entry of C has it
--   total    the length of the text; bytes that end it begin at `total` less their length
use Rattle.std.specs.Prelude.{◌≡◌, ℕ, ◌+◌, ◌-◌, ◌≤◌, List, [], ◌∷◌, length, codes}
use Rattle.lines.specs.Lines.{IsFirstLine, IsLineCut, lines_in}
use Rattle.answers.specs.Body.{Entry}
use Rattle.answers.specs.Grammar.{IsBody, NoneEnds, level_text}
use Rattle.answers.specs.Held.{IsNextKept, kept_after}
use Rattle.answers.specs.Records.{kind_line}
use Rattle.answers.specs.declared.record_text.Kind.{Kind}
use Rattle.answers.specs.declared.record_text.Kind.TheVariants.{Solution, Unsolvable}
use Rattle.answers.specs.declared.record_text.RecordText.{RecordText}
use Rattle.sokoaudit_c.specs.Outcome.{Holds}
use Rattle.sokoaudit_c.specs.declared.records.RecordSpan.{RecordSpan}

-- a record of this kind has the kind that include/sokoaudit.h numbers so
abbrev pub number_of_kind : Kind → ℕ
number_of_kind Solution = 1
number_of_kind Unsolvable = 2

-- The first record of bytes that end the text is at this span, and says this of its level. `from` begins with its level line, `kind_from` with
-- its kind line, `inside` with its body, and `last` with its `end`.
pub record IsNextRecord (version total before : ℕ) (bytes : List ℕ) (span : RecordSpan) (entry : Entry) (after : List ℕ) (next : ℕ) : Type 0 where
  pub kind : Kind
  pub from : List ℕ
  pub below : List ℕ
  pub below_lines : ℕ
  pub kind_from : List ℕ
  pub inside : List ℕ
  pub inside_lines : ℕ
  pub body : List ℕ
  pub last : List ℕ
  pub level_is : IsNextKept before bytes from (level_text entry.level) below below_lines
  pub kind_is : IsNextKept below_lines below kind_from (kind_line kind) inside inside_lines
  pub cut : IsLineCut inside body last
  pub goes_on : NoneEnds (kept_after inside_lines body)
  pub says : IsBody version (kind_line kind) (kept_after inside_lines body) entry.body
  pub ends : IsFirstLine last (codes "end") after
  pub number : next ≡ inside_lines + length (lines_in body) + 1
  pub level : span.level ≡ entry.level
  pub kind_number : span.kind ≡ number_of_kind kind
  pub line : span.line ≡ inside_lines + 1
  pub at : span.at + length from ≡ total
  pub body_at : span.body + length inside ≡ total
  pub body_end : span.body_end + length last ≡ total
  pub end : span.end + length after ≡ total

-- Bytes that end the text have the records of these entries, in order, at these spans.
abbrev pub AreRecordsFrom : ℕ → ℕ → ℕ → List ℕ → List RecordSpan → List Entry → Type 0
AreRecordsFrom version total before bytes [] [] = kept_after before bytes ≡ []
AreRecordsFrom version total before bytes (span ∷ spans) (entry ∷ entries) =
    (after : List ℕ) × (next : ℕ) × IsNextRecord version total before bytes span entry after next × AreRecordsFrom version total next after spans entries
AreRecordsFrom version total before bytes _ _ = ⊥

-- The text has the records of these entries after its first line, and the new spans are theirs, up to the last one that there is space for.
pub record AreRecordsIn (text : List ℕ) (version : ℕ) (entries : List Entry) (old new : List RecordSpan) : Type 0 where
  pub header : List ℕ
  pub below : List ℕ
  pub spans : List RecordSpan
  pub first : IsFirstLine text header below
  pub spans_are : AreRecordsFrom version (length text) 1 below spans entries
  pub written : Holds old new spans

-- A record has this span in a text of this length.
abbrev pub span_of : ℕ → RecordText → RecordSpan
span_of total r = record {
  level = r.level;
  kind = number_of_kind r.kind;
  line = r.place.line;
  at = total - r.place.level;
  body = total - r.place.body;
  body_end = total - r.place.end;
  end = total - r.place.after;
}

-- The record is in a text of this length.
pub record IsWithin (total : ℕ) (r : RecordText) : Type 0 where
  pub level : r.place.level ≤ total
  pub body : r.place.body ≤ total
  pub end : r.place.end ≤ total
  pub after : r.place.after ≤ total
