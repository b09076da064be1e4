-- There are six ways out: no kept line, a bad level line, no kind line, a bad kind line, no `end`, and a record. In each the kept lines of
-- the text are the level line, the kind line and so on, put together from what the calls say, and one lemma of `NextRecords.antt` has what
-- reading such lines comes to, whatever entries were read before. Comments before the body are passed, and kept lines stay. Each call keeps the count of lines, so the number of the line after the
-- last one is that of the fault, and no number overflows. No call adds bytes and some take bytes off, so the rest is shorter.
use Rattle.std.proofs.Common.{◌+◌, ◌∷◌, Err, ap, ◌∙◌, refl, sym, arith}
use Rattle.answers.specs.declared.fault.AnswersFault.TheVariants.{Unclosed}
use Rattle.answers.specs.Held.{AreNone, kept_in, said_line}
use Rattle.answers.proofs.DueLines.{kind_is, level_taken}
use Rattle.answers.proofs.KeptLines.{cut_past, kept_left, kept_past, number_past, passed_count, passed_no_longer}
use Rattle.answers.proofs.NextRecords.{end_missing, record_taken}
use Rattle.answers.proofs.splitting.next_record.Goals as goal

pub returns-in_default-cut_at_end-clause-fault : goal.returns-in_default-cut_at_end-clause-fault
returns-in_default-cut_at_end-clause-fault c = λ entries after.
    let level = said_line c.in-Some.line in
    let kind = said_line c.in-Some-next_kept.line in
    let passed = c.after_comments-content.ensures in
    let kept = c.in-Some.ensures.some ∙ ap (λ ls. level ∷ ls) (c.in-Some-next_kept.ensures.some ∙ ap (λ ls. kind ∷ ls) (kept_left _ _ passed)) in
    let count = passed_count AreNone _ _ passed ∙ c.in-Some-next_kept.ensures.count ∙ c.in-Some.ensures.count in
    end_missing c.args.version c.args.levels c.args.last entries after _ _ level kind _ _ _ kept (sym c.in_ok-level.ensures) c.in_ok-kind.ensures
    c.in_default-cut_at_end.ensures.none
    ∙ ap (λ n. Err (Unclosed (n + 1))) (sym count) ∙ ap Err (sym c.unclosed-in_default-cut_at_end.ensures)

pub returns : goal.returns
returns c =
    let level = said_line c.in-Some.line in
    let kind = said_line c.in-Some-next_kept.line in
    let passed = c.after_comments-content.ensures in
    let kept = c.in-Some.ensures.some ∙ ap (λ ls. level ∷ ls) (c.in-Some-next_kept.ensures.some ∙ ap (λ ls. kind ∷ ls) (kept_left _ _ passed)) in
    let cut = c.in-Some-cut_at_end.ensures.some in
    record {
      some = λ entries after. record_taken c.args.version c.args.levels c.args.last entries after _ cut.last (kept_in c.in-Some-cut_at_end.rest)
          kept (sym c.in_ok-level.ensures) c.in_ok-kind.ensures cut.kept cut.goes_on cut.ends;
      none = tt;
      place = record {
        from = c.in-Some.from.text.now;
        below = c.in-Some.after_level.text.now;
        below_lines = c.in-Some.after_level.before;
        kind_from = _;
        inside = c.in-Some-next_kept.inside.text.now;
        inside_lines = c.in-Some-next_kept.inside.before;
        text = _;
        last = c.in-Some-cut_at_end.end.text.now;
        version_is = refl;
        level_is = rw (level_taken _ _ level _ (sym c.in_ok-level.ensures)).line.spelled at c.in-Some.ensures.place;
        kind_is = rw (kind_is kind _ c.in_ok-kind.ensures) at c.in-Some-next_kept.ensures.place;
        cut = cut_past _ _ passed _ _ _ cut;
        body = kept_past _ _ passed _ _ _ cut;
        goes_on = cut.goes_on;
        ends = cut.first;
        number = number_past _ _ passed _ _ _ cut;
        place = refl;
      };
      count = cut.count ∙ passed_count AreNone _ _ passed ∙ c.in-Some-next_kept.ensures.count ∙ c.in-Some.ensures.count;
      shorter = omega (arith, c.in-Some.ensures.shorter, c.in-Some-next_kept.ensures.shorter, passed_no_longer AreNone _ _ passed, cut.shorter);
      fault = tt;
    }

pub cut_at_end-requires : goal.cut_at_end-requires
cut_at_end-requires c =
    omega (arith, passed_count AreNone _ _ c.after_comments-content.ensures, c.in-Some-next_kept.ensures.count, c.in-Some.ensures.count)

pub unclosed-requires-in_default-cut_at_end : goal.unclosed-requires-in_default-cut_at_end
unclosed-requires-in_default-cut_at_end c =
    omega (arith, passed_count AreNone _ _ c.after_comments-content.ensures, c.in-Some-next_kept.ensures.count, c.in-Some.ensures.count)
