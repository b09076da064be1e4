use Rattle.std.proofs.Common.{◌≡◌, ◌++◌, length, map}
use Rattle.answers.specs.Held.{kept_in, line_count}
use Rattle.answers.proofs.body.letter_lines.Given as goal

abbrev pub invariant-loop-line : goal.invariant-loop-line
invariant-loop-line l = record {
  count : line_count l.left ≡ line_count l.lines;
  read : map (λ letters. letters.now) l.letters.items ++ map (λ line. line.text) (kept_in l.left) ≡ map (λ line. line.text) (kept_in l.lines);
}

abbrev pub decreases-loop-line : goal.decreases-loop-line
decreases-loop-line l = length l.left.text.now
