-- The invariant says two things. The statuses so far, put before any statuses of the levels that are left, are the statuses of all
-- levels, and mean something true. The records from `next` on have the answers of the levels that are left. `answer_to` returns the answer
-- to the next level, and `judge` returns its status, which means something true. So one more status keeps the invariant, and at the end
-- no level is left. The summary counts each status as it is added.
use Rattle.std.proofs.Common.{◌≡◌, ◌+◌, ◌<◌, [], ◌∷◌, ◌++◌, length, sym, ◌∙◌, ap, arith}
use Rattle.std.specs.Prelude.{map}
use Rattle.std.proofs.lemmas.List.{drop_all, append-nil}
use Rattle.std.proofs.Math.ListN.{length-append}
use Rattle.answers.specs.Reading.{entry_of}
use Rattle.report.specs.Answer.{answer_to}
use Rattle.report.specs.Means.{Means}
use Rattle.report.specs.Status.{Says}
use Rattle.report.specs.Summary.{summary_of, with_status}
use Rattle.report.proofs.Answered.{means, says_said}
use Rattle.report.proofs.Reports.{drop_at, summary_more, each_more}
use Rattle.report.proofs.report.judge_levels.Goals as goal

pub loop-before-preserved : goal.loop-before-preserved
loop-before-preserved c =
    let inv = c.loop-before.invariant in
    let entries = map entry_of c.args.answers.now in
    let levels = c.args.levels.now in
    let k = c.loop-before.before in
    let rows = c.index-levels-before.result in
    let status = c.in-Ok.status in
    let so_far = c.loop-before.statuses.items in
    let below : k < k + 1 = omega arith in
    let answer = c.answer_to-answer.ensures.answer ∙ inv.later (k + 1) below in
    let said = says_said rows c.answer_to-answer.result status c.in-Ok.ensures.says in
    let says : Says rows (answer_to (k + 1) entries) status = rw answer at said in
    let mean = means rows (answer_to (k + 1) entries) status c.in-Ok.ensures.unsolvable says in
    let next = drop_at levels k rows c.loop-before-test.true c.index-levels-before.is in
    let more = sym c.push_reserved.ensures.items in
    let numbers = c.add.ensures.value ∙ ap (λ s. with_status s status) inv.numbers ∙ sym (summary_more so_far status) in
    let long : length so_far ≡ k = sym (ap (λ s. s.levels) inv.numbers) ∙ inv.count in
    let longer : length (so_far ++ status ∷ []) ≡ k + 1 = length-append so_far (status ∷ []) ∙ ap (λ n. n + 1) long in
    record {
      adds_up = c.add.ensures.adds_up;
      room = c.push_reserved.ensures.capacity ∙ inv.room;
      count = ap (λ s. s.levels) numbers ∙ longer;
      rise = c.answer_to-answer.ensures.rise;
      later = λ n above.
          let before : k < n = omega arith in
          c.answer_to-answer.ensures.rest n above ∙ inv.later n before;
      numbers = numbers ∙ ap summary_of more;
      say = λ rest after. rw more at (each_more Says levels entries k rows status so_far next says inv.say rest after);
      mean = λ rest after. rw more at (each_more Means levels entries k rows status so_far next mean inv.mean rest after);
    }

pub returns : goal.returns
returns c =
    let inv = c.loop-before.invariant in
    let entries = map entry_of c.args.answers.now in
    let levels = c.args.levels.now in
    let k = c.loop-before.before in
    let none = drop_all k levels c.loop-before-test.false in
    let say = inv.say [] (rw none tt) in
    let mean = inv.mean [] (rw none tt) in
    let same = append-nil c.loop-before.statuses.items in
    (rw same at say, rw same at mean, inv.numbers)
