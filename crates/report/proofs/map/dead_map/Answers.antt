-- There are four ways out: the read fails, there is no map, the write fails, or the map is written. An error comes at its place in the
-- order of work, because a text that was read before isn't too long. The text that was read is the bytes of the source, if these are
-- known, so what `map_text` says of the text holds of the bytes. The count of a device rises only in the way out that returns its error.
use Rattle.std.proofs.Common.{◌≡◌, ◌<◌, ℕ, List, length, Some, Err, ap, refl, sym, ◌∙◌}
use Rattle.std.proofs.lemmas.Option.{MatchOption-at_some}
use Rattle.report.specs.DeadMap.{IsMapOf}
use Rattle.devices.specs.Reading.{most_bytes}
use Rattle.report.proofs.ReadErrors.{at_known, counts_for, due_for, keeps_same, no_error, no_write, same_map_error}
use Rattle.report.proofs.map.dead_map.Goals as goal

pub returns-in-Err : goal.returns-in-Err
returns-in-Err g c =
    let is = c.read_error.ensures in
    record {
      ok = λ _ _. tt;
      refused = λ lt is_lt. rw is (due_for (IsMapOf lt c.args.n) lt _
          (λ long. MatchOption-at_some _ (λ (b : List ℕ). most_bytes < length b) lt is_lt (c.in-Err.ensures.too_long (ap Err long))));
      beginning = λ _ _ failed. absurd (no_write _ _ (sym is ∙ same_map_error _ _ failed));
      untouched = λ _. keeps_same _;
      cause = rw is (counts_for (Unit {0}) _ _ _ c.in-Err.ensures.cause refl);
      taken = c.read_whole.ensures.taken;
    }

pub returns-in-Ok-write_whole : goal.returns-in-Ok-write_whole
returns-in-Ok-write_whole g c =
    let map_is = rw (← c.deref-2.ensures.value) at c.in_ok-text.ensures.ok in
    record {
      ok = λ lt is_lt. (
        _,
        at_known (λ b. IsMapOf b c.args.n c.deref-2.result.now) _ _ lt _ c.deref.ensures.value c.in-Ok.ensures.value is_lt map_is,
        c.in-Ok-write_whole.ensures.wrote,
      );
      refused = λ _ _. tt;
      beginning = λ _ _ failed. absurd (no_error _ _ failed);
      untouched = tt;
      cause = (c.in-Ok.ensures.cause, c.in-Ok-write_whole.ensures.cause);
      taken = c.read_whole.ensures.taken;
    }

pub returns : goal.returns
returns g c =
    let map_is = rw (← c.deref-2.ensures.value) at c.in_ok-text.ensures.ok in
    let is_map : (lt : List ℕ) → g.L.Source.left c.args.levels.now ≡ Some lt → IsMapOf lt c.args.n c.deref-2.result.now
    = λ lt is_lt. at_known (λ b. IsMapOf b c.args.n c.deref-2.result.now) _ _ lt _ c.deref.ensures.value c.in-Ok.ensures.value is_lt map_is in
    record {
      ok = λ _ _. tt;
      refused = λ lt is_lt. (_, is_map lt is_lt);
      beginning = λ lt is_lt _. (_, is_map lt is_lt, c.in-Err-write_whole.ensures.beginning);
      untouched = λ other. absurd (other refl);
      cause = (c.in-Ok.ensures.cause, c.in-Err-write_whole.ensures.cause);
      taken = c.read_whole.ensures.taken;
    }
