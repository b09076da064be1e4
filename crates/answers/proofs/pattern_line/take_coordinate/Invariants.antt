use Rattle.std.proofs.Common.{◌≤◌, ◌-◌, length}
use Rattle.answers.proofs.Coordinates.{BeginsWithDigits}
use Rattle.answers.proofs.pattern_line.take_coordinate.Given as goal

abbrev pub invariant-loop-more : goal.invariant-loop-more
invariant-loop-more l = record {
  some : 1 ≤ l.at;
  read : BeginsWithDigits l.text l.at l.number;
  small : l.number ≤ 65539;
}

abbrev pub decreases-loop-more : goal.decreases-loop-more
decreases-loop-more l = length l.text - l.at
