-- The invariant says that the lines so far are written, and that the lines of the letters that are left make up the rest. A turn writes the
-- next line. If its write fails, a beginning of the whole text is written. At the end no letters are left.
use Rattle.std.proofs.Common.{◌≡◌, ◌<◌, ◌++◌, ℕ, List, length, rules, append_assoc, ap, ◌∙◌}
use Rattle.std.specs.List.{flat_map}
use Rattle.answers.specs.Canonical.{ended, letter_lines}
use Rattle.answers.proofs.LetterLines.{next_line}
use Rattle.devices.proofs.WrittenTexts.{handed_as, handed_both, handed_part, passed_on}
use Rattle.answers.proofs.writing.write_letters.Goals as goal

-- The text of lines of letters, each with its end.
abbrev text : List ℕ → List ℕ
text letters = flat_map ended (letter_lines letters)

-- what is written goes on by a line
goes_on : (front line after rest all : List ℕ) → ended line ++ text after ≡ text rest → front ++ text rest ≡ text all →
    (front ++ ended line) ++ text after ≡ text all
goes_on front line after rest all next whole = append_assoc front (ended line) (text after) ∙ ap (λ l. front ++ l) next ∙ whole

pub loop-rest-preserved : goal.loop-rest-preserved
loop-rest-preserved g c =
    let (front, wrote, whole) = c.loop-rest.invariant in
    let some : 0 < length c.loop-rest.rest.now = search rules in
    let next = next_line c.loop-rest.rest.now some c.min.ensures c.split_at.ensures.front c.split_at.ensures.back in (
      front ++ ended c.split_at.result.0.now,
      handed_both _ _ _ front (ended c.split_at.result.0.now) _ _ wrote c.in_ok-write_line.ensures,
      goes_on front c.split_at.result.0.now c.split_at.result.1.now c.loop-rest.rest.now c.args.letters.now next whole,
    )

pub returns-in_err-write_line : goal.returns-in_err-write_line
returns-in_err-write_line g c =
    let (front, wrote, whole) = c.loop-rest.invariant in
    let some : 0 < length c.loop-rest.rest.now = search rules in
    let next = next_line c.loop-rest.rest.now some c.min.ensures c.split_at.ensures.front c.split_at.ensures.back in
    let cut = handed_both _ _ _ front (ended c.split_at.result.0.now) _ _ wrote c.in_err-write_line.ensures in
    let more = handed_part _ _ (front ++ ended c.split_at.result.0.now) (text c.split_at.result.1.now) _ cut in
    passed_on _ _ _ _ _ c.from_residual.ensures.0 (handed_as _ _ _ _ _ (goes_on front c.split_at.result.0.now c.split_at.result.1.now c.loop-rest.rest.now
    c.args.letters.now next whole) more)
