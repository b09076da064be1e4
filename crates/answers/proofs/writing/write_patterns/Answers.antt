use Rattle.std.proofs.Common.{ℕ, List, arith}
use Rattle.answers.specs.declared.pattern.Pattern.{Pattern}
use Rattle.answers.specs.Canonical.{ended, line_of_made}
use Rattle.devices.proofs.WrittenTexts.{handed_item, handed_some, passed_on}
use Rattle.answers.proofs.writing.write_patterns.Goals as goal

abbrev text : Pattern → List ℕ
text p = ended (line_of_made p)

pub returns-in_err-write_pattern : goal.returns-in_err-write_pattern
returns-in_err-write_pattern g c =
    let cut = handed_item text c.args.patterns.now c.loop-pattern.pattern-index c.pattern-item.result _ _ _ _ _ (omega arith) c.pattern-item.is
    c.loop-pattern.invariant (rw c.as_slice.ensures at c.in_err-write_pattern.ensures) in
    passed_on _ _ _ _ _ c.from_residual.ensures.0 (handed_some text c.args.patterns.now c.loop-pattern.pattern-index _ _ _ cut)

pub loop-pattern-preserved : goal.loop-pattern-preserved
loop-pattern-preserved g c =
    handed_item text c.args.patterns.now c.loop-pattern.pattern-index c.pattern-item.result _ _ _ _ _ (omega arith) c.pattern-item.is
    c.loop-pattern.invariant (rw c.as_slice.ensures at c.in_ok-write_pattern.ensures)
