use Rattle.std.proofs.Common.{rules}
use Rattle.std.proofs.lemmas.Option.{IfSome_then}
use Rattle.clap.specs.Words.{found_of, rows_of, subcommand_rows_of}
use Rattle.arguments.proofs.Requests.{met}
use Rattle.arguments.proofs.command.asked.Goals as goal

pub returns-in-Some-clause-some : goal.returns-in-Some-clause-some
returns-in-Some-clause-some c =
    let is = met (subcommand_rows_of c.args.matches.now) c.in-Some.name.now (rows_of (found_of c.in-Some.inner.now)) (search rules) (search rules) in
    IfSome_then c.asked_by.result c.asked_by.ensures.some (λ command given. (_, is, given))
