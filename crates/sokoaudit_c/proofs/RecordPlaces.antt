-- The records that a split finds are in their text, each after the one before. Each place is a number of bytes that the text still has, so an
-- offset is the length of the text less that number.
use Rattle.std.proofs.Common.{◌≡◌, ℕ, ◌≤◌, List, [], ◌∷◌, length, map, refl, sym, ap, ◌∙◌, arith, length-append}
use Rattle.std.specs.Prelude.{All}
use Rattle.std.proofs.lemmas.List.Elements.{All-nil, All-cons}
use Rattle.lines.proofs.Cuts.{first_shorter}
use Rattle.answers.specs.Body.{Entry}
use Rattle.answers.specs.Grammar.{HasHeader}
use Rattle.answers.specs.Records.{AreEntriesOf, SaysOfLevel}
use Rattle.answers.specs.Records as found
use Rattle.answers.specs.declared.record_text.RecordText.{RecordText}
use Rattle.sokoaudit_c.specs.Outcome.{Holds}
use Rattle.sokoaudit_c.specs.Records.{AreRecordsFrom, AreRecordsIn, IsNextRecord, IsWithin, span_of}
use Rattle.sokoaudit_c.specs.declared.records.RecordSpan.{RecordSpan}

module _ (version total before : ℕ) (bytes : List ℕ) (r : RecordText) (after : List ℕ) (next : ℕ) (is : found.IsNextRecord version before bytes r after next)
    (short : length bytes ≤ total) where
  -- What a record begins with, its body, its `end` and what comes after it end the text, and so each is no longer than the text.
  within : IsWithin total r × (length after ≤ total)
  within =
      let from = ap length is.level_is.cut.parts ∙ length-append is.level_is.skipped is.from in
      let below = first_shorter is.from _ is.below is.level_is.first in
      let kind_from = ap length is.kind_is.cut.parts ∙ length-append is.kind_is.skipped is.kind_from in
      let inside = first_shorter is.kind_from _ is.inside is.kind_is.first in
      let last = ap length is.cut.parts ∙ length-append is.text is.last in
      let ends = first_shorter is.last _ after is.ends in
      let level = ap (λ p. p.level) is.place in
      let body = ap (λ p. p.body) is.place in
      let end = ap (λ p. p.end) is.place in
      let past = ap (λ p. p.after) is.place in
      (record { level = omega arith; body = omega arith; end = omega arith; after = omega arith }, omega arith)

  next_record : (entry : Entry) → entry.level ≡ r.level → SaysOfLevel r entry.body → IsNextRecord version total before bytes (span_of total r) entry after next
  next_record entry level says =
      let fits = within.0 in
      let at = ap (λ p. p.level) is.place in
      let body = ap (λ p. p.body) is.place in
      let end = ap (λ p. p.end) is.place in
      let past = ap (λ p. p.after) is.place in
      record {
        kind = r.kind;
        from = is.from;
        below = is.below;
        below_lines = is.below_lines;
        kind_from = is.kind_from;
        inside = is.inside;
        inside_lines = is.inside_lines;
        body = is.text;
        last = is.last;
        level_is = rw level is.level_is;
        kind_is = is.kind_is;
        cut = is.cut;
        goes_on = rw is.body at is.goes_on;
        says = rw is.body at (rw is.version_is at says);
        ends = is.ends;
        number = is.number;
        level = sym level;
        kind_number = refl;
        line = ap (λ p. p.line) is.place;
        at = let fits_at = fits.level in omega arith;
        body_at = let fits_body = fits.body in omega arith;
        body_end = let fits_end = fits.end in omega arith;
        end = let fits_after = fits.after in omega arith;
      }

all_within : (version total before : ℕ) (bytes : List ℕ) (records : List RecordText) → found.AreRecordsFrom version before bytes records → length bytes ≤ total
    → All (IsWithin total) records
all_within version total before bytes [] none short = All-nil (IsWithin total)
all_within version total before bytes (r ∷ rs) (after, next, is, others) short =
    let (fits, shorter) = within version total before bytes r after next is short in
    All-cons (IsWithin total) r rs fits (all_within version total next after rs others shorter)

records_from : (version total before : ℕ) (bytes : List ℕ) (records : List RecordText) (entries : List Entry) → found.AreRecordsFrom version before bytes records
    → AreEntriesOf records entries → length bytes ≤ total → AreRecordsFrom version total before bytes (map (span_of total) records) entries
records_from version total before bytes [] [] none are short = none
records_from version total before bytes [] (e ∷ es) none are short = absurd are
records_from version total before bytes (r ∷ rs) [] found are short = absurd are
records_from version total before bytes (r ∷ rs) (e ∷ es) (after, next, is, others) (level, says, are) short = (
  after,
  next,
  next_record version total before bytes r after next is short e level says,
  records_from version total next after rs es others are (within version total before bytes r after next is short).1,
)

module _ (text : List ℕ) (version : ℕ) (header : HasHeader text version) (records : List RecordText) (has : found.HasRecords text records) where
  below_short : length has.below ≤ length text
  below_short = omega (arith, first_shorter text has.header has.below has.first)

  pub text_within : All (IsWithin (length text)) records
  text_within = all_within version (length text) 1 has.below records (has.are version header) below_short

  pub records_in : (entries : List Entry) (old new : List RecordSpan) → AreEntriesOf records entries → Holds old new (map (span_of (length text)) records)
      → AreRecordsIn text version entries old new
  records_in entries old new are holds = record {
    header = has.header;
    below = has.below;
    spans = map (span_of (length text)) records;
    first = has.first;
    spans_are = records_from version (length text) 1 has.below records entries (has.are version header) are below_short;
    written = holds;
  }

-- There are as many records as entries.
pub as_many : (records : List RecordText) (entries : List Entry) → AreEntriesOf records entries → length records ≡ length entries
as_many [] [] are = refl
as_many [] (e ∷ es) are = absurd are
as_many (r ∷ rs) [] are = absurd are
as_many (r ∷ rs) (e ∷ es) are = grind (arith, as_many rs es are.2)
