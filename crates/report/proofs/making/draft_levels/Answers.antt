-- The invariant says that the drafts so far are the drafts of the records that are made for the levels so far. A turn adds the draft of the next
-- level, if a record is made for it. After the loop all levels have come.
use Rattle.std.proofs.Common.{◌+◌, [], ◌∷◌, ◌++◌, length, refl, ap, arith, ◌∙◌}
use Rattle.std.specs.Prelude.{vec_capacity}
use Rattle.std.proofs.lemmas.List.{drop_all, length-append}
use Rattle.std.proofs.lemmas.Option.{MatchOption-at_some}
use Rattle.answers.specs.declared.record.MadeRecord.{MadeRecord}
use Rattle.report.specs.Making.{IsDraftFor}
use Rattle.report.proofs.Reports.{drop_at}
use Rattle.report.proofs.FoundRecords.{record_of}
use Rattle.report.proofs.MadeRecords.{drafts_more, made_all, none_more, record_more}
use Rattle.report.proofs.making.draft_levels.Goals as goal
use Rattle.report.proofs.making.draft_levels.Goals.{in-Some, in_default}

pub loop-before-preserved : goal.loop-before-preserved
loop-before-preserved c =
    let k = c.loop-before.before in
    let levels = c.args.levels.now in
    let rows = c.index-levels-before.result in
    let so_far = c.loop-before.invariant in
    let next = drop_at levels k rows c.loop-before-test.true c.index-levels-before.is in
    let (records, up_to, drafts_are) = so_far.records in
    elim c.match-branch-3.branch [
      | in-Some w ↦
          let draft = w.in-Some.draft in
          let (body, made, is) = record_of (k + 1) rows draft (MatchOption-at_some _ (IsDraftFor (k + 1) rows) draft w.in-Some.is c.in_ok-draft.ensures.some) in
          let one : MadeRecord = record { level = k + 1; body = body } in
          let pushed = ap (λ v. v.items) w.drafts-is ∙ w.push_reserved.ensures.items in
          record {
            records = (
              records ++ one ∷ [],
              record_more levels k rows one records next refl made up_to,
              rw pushed (drafts_more records one c.loop-before.drafts.items draft drafts_are is),
            );
            few = omega (arith, ap length pushed, length-append c.loop-before.drafts.items (draft ∷ []), so_far.few);
            room = ap vec_capacity w.drafts-is ∙ w.push_reserved.ensures.capacity ∙ so_far.room;
          }
      | in_default w ↦
          let none = rw w.in_default.is at c.in_ok-draft.ensures.none in
          let same = ap (λ v. v.items) w.drafts-is in
          record {
            records = (records, none_more levels k rows records next none up_to, rw same drafts_are);
            few = omega (arith, ap length same, so_far.few);
            room = ap vec_capacity w.drafts-is ∙ so_far.room;
          }
    ]

pub returns : goal.returns
returns c =
    let (records, so_far, drafts) = c.loop-before.invariant.records in
    (records, made_all c.args.levels.now c.loop-before.before records (drop_all c.loop-before.before c.args.levels.now c.loop-before-test.false) so_far, drafts)
