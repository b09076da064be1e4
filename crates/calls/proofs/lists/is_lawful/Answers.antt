use Rattle.std.proofs.Common.{◌≢◌, map, subst}
use Rattle.answers.specs.Grammar.{said_pattern}
use Rattle.closure.specs.declared.fault.CheckFault.TheVariants.{Memory}
use Rattle.closure.specs.FirstFault.{IsFirstPatternFault}
use Rattle.calls.proofs.lists.is_lawful.Goals as goal

pub returns-in-Err-Start : goal.returns-in-Err-Start
returns-in-Err-Start g c =
    let IsFirst = IsFirstPatternFault c.args.board.now (map said_pattern c.args.patterns.now) in
    λ _. (subst (λ f. f ≢ Memory → IsFirst f) c.in-Err-Start.field-0-is c.in-Err-Start.ensures.exact (λ e. cc)).0

pub returns-in-Err-Push : goal.returns-in-Err-Push
returns-in-Err-Push g c =
    let IsFirst = IsFirstPatternFault c.args.board.now (map said_pattern c.args.patterns.now) in
    λ _. (subst (λ f. f ≢ Memory → IsFirst f) c.in-Err-Push.field-0-is c.in-Err-Push.ensures.exact (λ e. cc)).0
