use Rattle.std.proofs.Common.{◌∙◌, ap, ◌++◌, arith, length}
use Rattle.std.specs.Fmt.InlineText.{inline_text}
use Rattle.report.proofs.Fits.{fits}
use Rattle.report.proofs.fault.joined.Goals as goal

pub returns : goal.returns
returns c =
    let second = c.args.second.now in
    c.and_str.ensures.within c.requires ∙ ap (λ kept. inline_text c.args.first ++ kept) (fits (length second) second (omega arith))
