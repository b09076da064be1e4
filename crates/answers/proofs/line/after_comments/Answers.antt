use Rattle.std.proofs.Common.{Option, Some, None, refl}
use Rattle.std.specs.Prelude.{IfSome, not, ◌==◌}
use Rattle.std.specs.Option.{unwrap_or}
use Rattle.answers.specs.declared.line.Left.{Left}
use Rattle.answers.specs.Held.{AreNone, HasPassed, IsSkipped}
use Rattle.answers.proofs.KeptLines.{comments_passed, passed_none}
use Rattle.answers.proofs.line.after_comments.Goals as goal

passed : (lines : Left) (found : Option Left) → IfSome found (λ left. IsSkipped (λ b. not (b == 59)) lines left) → HasPassed AreNone lines (unwrap_or found lines)
passed lines (Some left) skipped = comments_passed lines lines (passed_none AreNone lines refl) skipped
passed lines None skipped = passed_none AreNone lines refl

pub returns : goal.returns
returns c = rw c.unwrap_or.ensures (passed c.args.lines c.skip_to.result c.skip_to.ensures.some)
