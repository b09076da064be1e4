-- There are three ways out: the read fails, `drafts_for` has an error, or its drafts are written, where the sink may fail. An error
-- comes at its place in the order of work, because a text that was read before isn't too long (`ReadErrors.antt`). The text that was read
-- is the bytes of the source, if these are known, so what `drafts_for` says of the text holds of the bytes. The count of a device rises
-- only in the way out that returns its error. Nothing is written before the last one, so after any other error the sink holds what it
-- held.
use Rattle.std.proofs.Common.{◌≡◌, ◌<◌, ℕ, List, length, Some, Err, ap, refl, sym, ◌∙◌}
use Rattle.std.proofs.lemmas.Option.{MatchOption-at_some}
use Rattle.std.proofs.lemmas.Result.{IfErr-at_err, IfOk-weaker}
use Rattle.report.specs.Collection.{IsDueFor}
use Rattle.report.specs.MadeAnswers.{AreMadeAnswers, IsMadeText}
use Rattle.report.specs.Making.{drafts_text}
use Rattle.devices.specs.Reading.{most_bytes}
use Rattle.report.specs.declared.fault.AuditError.TheVariants.{Write}
use Rattle.report.proofs.ReadErrors.{at_known, counts_for, counts_levels_in, counts_written, due_for, due_levels_in, err_weaker, keeps_same, levels_in_no_write, no_write, same_error}
use Rattle.report.proofs.making.make_answers.Goals as goal

pub returns-in-Err : goal.returns-in-Err
returns-in-Err g c =
    let is = c.read_error.ensures in
    record {
      ok = λ _ _. tt;
      refused = λ lt is_lt. rw is (due_for (IsMadeText lt) lt _ (λ long. MatchOption-at_some _ (λ (b : List ℕ). most_bytes < length b) lt is_lt
          (c.in-Err.ensures.too_long (ap Err long))));
      beginning = λ _ _ failed. absurd (no_write _ _ (sym is ∙ same_error _ _ failed));
      untouched = λ _. keeps_same _;
      cause = rw is (counts_for (Unit {0}) _ _ _ c.in-Err.ensures.cause refl);
      taken = c.read_whole.ensures.taken;
    }

pub returns-in-Ok-drafts_for : goal.returns-in-Ok-drafts_for
returns-in-Ok-drafts_for g c =
    let r = c.write_made.result in
    let drafts = c.deref-in-Ok-drafts_for.result.now in
    let text = drafts_text drafts in
    let made : (lt : List ℕ) → g.L.Source.left c.args.levels.now ≡ Some lt → AreMadeAnswers lt text (length drafts)
    = λ lt is_lt. at_known (λ b. AreMadeAnswers b text (length drafts)) _ _ lt _ c.deref.ensures.value c.in-Ok.ensures.value is_lt
    (rw c.deref-in-Ok-drafts_for.ensures.value c.in-Ok-drafts_for.ensures.ok) in
    let only_write = err_weaker r _ (λ e. e ≡ Write) (λ e h. h.0) c.write_made.ensures.err in
    record {
      ok = λ lt is_lt. IfOk-weaker r _ _ (λ count h. (text, rw h.0 (made lt is_lt), h.1)) c.write_made.ensures.ok;
      refused = λ lt is_lt. err_weaker r _ _ (λ e is. rw is (text, (length drafts, made lt is_lt))) only_write;
      beginning = λ lt is_lt failed. (text, (length drafts, made lt is_lt), (IfErr-at_err _ failed c.write_made.ensures.err).1);
      untouched = err_weaker r _ _ (λ e is other. absurd (other is)) only_write;
      cause = counts_written _ _ r only_write c.in-Ok.ensures.cause c.write_made.ensures.cause;
      taken = c.read_whole.ensures.taken;
    }

pub returns : goal.returns
returns g c =
    let error = c.in-Err-drafts_for.error in
    let text = c.deref.result.now in
    let short = rw (← c.deref.ensures.value) at c.in-Ok.ensures.limit in
    record {
      ok = λ _ _. tt;
      refused = λ lt is_lt. at_known (λ b. IsDueFor (IsMadeText b) b error) _ _ lt _ c.deref.ensures.value c.in-Ok.ensures.value is_lt
          (due_levels_in (IsMadeText text) text error short c.in-Err-drafts_for.ensures.err);
      beginning = λ _ _ failed. absurd (levels_in_no_write text error c.in-Err-drafts_for.ensures.err (same_error _ _ failed));
      untouched = λ _. keeps_same _;
      cause = counts_levels_in _ _ text error c.in-Err-drafts_for.ensures.err c.in-Ok.ensures.cause refl;
      taken = c.read_whole.ensures.taken;
    }
