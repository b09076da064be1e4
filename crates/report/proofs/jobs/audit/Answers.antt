-- There are five ways out: one of the two reads fails, the texts have an error, the write fails, or the report is written. An error comes
-- at its place in the order of work, because a text that was read before isn't too long. The texts that were read are the bytes of the
-- sources, if these are known, so what `audit_texts` says of the texts holds of the bytes. The count of a device rises only in the way
-- out that returns its error. Nothing is written before the last two.
use Rattle.std.proofs.Common.{◌≡◌, ◌<◌, ℕ, List, length, Some, IfSome, Err, ap, refl}
use Rattle.std.specs.Prelude.{Option}
use Rattle.std.proofs.lemmas.Option.{MatchOption-at_some}
use Rattle.std.proofs.lemmas.Result.{err_from_is_err_and}
use Rattle.report.specs.Audit.{IsDue}
use Rattle.report.specs.Report.{IsReport}
use Rattle.report.proofs.Errors.{error_due}
use Rattle.report.proofs.ReadErrors.{at_known, counts_answers, counts_levels, due_answers, due_levels, keeps_same, no_error, no_write, same_error, takes_none}
use Rattle.devices.specs.Reading.{most_bytes}
use Rattle.report.proofs.jobs.audit.Goals as goal

-- what holds of the two texts that were read holds of the bytes that the sources had, if they are known
at_both : (P : List ℕ → List ℕ → Type 0) (o p : Option (List ℕ)) (text_l text_a lt at lent_l lent_a : List ℕ) → lent_l ≡ text_l → lent_a ≡ text_a
    → IfSome o (λ b. text_l ≡ b) → IfSome p (λ b. text_a ≡ b) → o ≡ Some lt → p ≡ Some at → P lent_l lent_a → P lt at
at_both P o p text_l text_a lt at lent_l lent_a is_l is_a value_l value_a known_l known_a h =
    at_known (λ a. P lt a) p text_a at lent_a is_a value_a known_a (at_known (λ l. P l lent_a) o text_l lt lent_l is_l value_l known_l h)

pub returns-in-Err : goal.returns-in-Err
returns-in-Err g c =
    let is = c.read_error.ensures in
    record {
      ok = λ _ _ _ _. tt;
      refused = λ lt at is_lt is_at. rw is (due_levels lt at _ (λ long. MatchOption-at_some _ (λ (b : List ℕ). most_bytes < length b) lt is_lt (c.in-Err.ensures.too_long (ap Err long))));
      beginning = λ _ _ _ _ failed. absurd (no_write _ _ (rw is at (same_error _ _ failed)));
      untouched = λ _. keeps_same _;
      cause = rw is (counts_levels (Unit {0}) (Unit {0}) _ _ _ _ c.in-Err.ensures.cause refl refl);
      taken = (c.read_whole.ensures.taken, takes_none _ _);
    }

pub returns-in-Err-read_whole : goal.returns-in-Err-read_whole
returns-in-Err-read_whole g c =
    let is = c.read_error-in-Err-read_whole.ensures in
    let fits = c.in-Ok.ensures.limit in
    record {
      ok = λ _ _ _ _. tt;
      refused = λ lt at is_lt is_at. rw is (due_answers lt at _ (rw (MatchOption-at_some _ (λ (b : List ℕ). c.in-Ok.text.items ≡ b) lt is_lt c.in-Ok.ensures.value) at fits)
          (λ long. MatchOption-at_some _ (λ (b : List ℕ). most_bytes < length b) at is_at (c.in-Err-read_whole.ensures.too_long (ap Err long))));
      beginning = λ _ _ _ _ failed. absurd (no_write _ _ (rw is at (same_error _ _ failed)));
      untouched = λ _. keeps_same _;
      cause = rw is (counts_answers (Unit {0}) (Unit {0}) _ _ _ _ c.in-Ok.ensures.cause c.in-Err-read_whole.ensures.cause refl);
      taken = (c.read_whole.ensures.taken, c.read_whole-2.ensures.taken);
    }

pub returns-in_err-text-clause-refused : goal.returns-in_err-text-clause-refused
returns-in_err-text-clause-refused g c = λ lt at is_lt is_at.
    let error = c.in_err-text.field-0.0 in
    let levels = c.deref.result.now in
    let answers = c.deref-2.result.now in
    let p = err_from_is_err_and c.from_residual.result c.from_residual.ensures.1 in
    rw (p.1, p.2) (at_both (λ l a. IsDue l a error) _ _ _ _ lt at _ _ c.deref.ensures.value c.deref-2.ensures.value
    c.in-Ok.ensures.value c.in-Ok-read_whole.ensures.value is_lt is_at (error_due levels answers error c.in_err-text.ensures.refused))

pub returns-in-Ok-write_whole : goal.returns-in-Ok-write_whole
returns-in-Ok-write_whole g c =
    let numbers = c.in_ok-text.summary in
    let report = rw (← c.deref-3.ensures.value) at c.in_ok-text.ensures.ok in
    record {
      ok = λ lt at is_lt is_at. (
        _,
        at_both (λ l a. IsReport l a c.deref-3.result.now numbers) _ _ _ _ lt at _ _ c.deref.ensures.value c.deref-2.ensures.value
            c.in-Ok.ensures.value c.in-Ok-read_whole.ensures.value is_lt is_at report,
        c.in-Ok-write_whole.ensures.wrote,
      );
      refused = λ _ _ _ _. tt;
      beginning = λ _ _ _ _ failed. absurd (no_error _ _ failed);
      untouched = tt;
      cause = (c.in-Ok.ensures.cause, c.in-Ok-read_whole.ensures.cause, c.in-Ok-write_whole.ensures.cause);
      taken = (c.read_whole.ensures.taken, c.read_whole-2.ensures.taken);
    }

pub returns : goal.returns
returns g c =
    let numbers = c.in_ok-text.summary in
    let text = c.deref-3.result.now in
    let report = rw (← c.deref-3.ensures.value) at c.in_ok-text.ensures.ok in
    let is_report : (lt at : List ℕ) → g.L.Source.left c.args.levels.now ≡ Some lt → g.A.Source.left c.args.answers.now ≡ Some at → IsReport lt at text numbers
    = λ lt at is_lt is_at. at_both (λ l a. IsReport l a text numbers) _ _ _ _ lt at _ _ c.deref.ensures.value c.deref-2.ensures.value
    c.in-Ok.ensures.value c.in-Ok-read_whole.ensures.value is_lt is_at report in
    record {
      ok = λ _ _ _ _. tt;
      refused = λ lt at is_lt is_at. (text, (numbers, is_report lt at is_lt is_at));
      beginning = λ lt at is_lt is_at _. (text, (numbers, is_report lt at is_lt is_at), c.in-Err-write_whole.ensures.beginning);
      untouched = λ other. absurd (other refl);
      cause = (c.in-Ok.ensures.cause, c.in-Ok-read_whole.ensures.cause, c.in-Err-write_whole.ensures.cause);
      taken = (c.read_whole.ensures.taken, c.read_whole-2.ensures.taken);
    }
