-- The parser that is built is `program_app`, so what clap's clauses say of any parser holds of this one. If clap refuses the words, it
-- found a fault in them, or memory ran out. Words that ask for a request have no fault, and words that spell one ask for it. If clap
-- accepts the words, its matches are the matches of the subcommand in the words. These give one request at most, so the command is the request
-- that the words ask for, and without a command they ask for none.
use Rattle.std.proofs.Common.{◌≡◌, ap, sym, inl, inr, ⊎_elim, ◌∙◌, Some, option_map}
use Rattle.std.proofs.lemmas.Bool.{false≢true}
use Rattle.std.proofs.lemmas.Result.{err_from_is_err_and}
use Rattle.clap.specs.Walk.{texts}
use Rattle.clap.specs.Words.{fault_of, is_simple_and_free, subcommand_rows_of}
use Rattle.arguments.specs.Command.{given_of, request_of}
use Rattle.arguments.proofs.Spellings.{free, only_memory, spelled, found_in, found_once, rows_found}
use Rattle.arguments.proofs.command.parse.Goals as goal

pub returns-in_err-program : goal.returns-in_err-program
returns-in_err-program c =
    let p = err_from_is_err_and c.from_residual.result c.from_residual.ensures.1 in
    rw p.1 (record { found = tt; only = λ _ _. p.2; kinds = inl (inl p.2); spelled = λ _ _. p.2 })

pub returns-in-Err-clause-only : goal.returns-in-Err-clause-only
returns-in-Err-clause-only c request h =
    let kinds = c.in-Err.ensures.kinds (ap is_simple_and_free c.in_ok-program.ensures ∙ free) in
    only_memory _ c.in-Err.error kinds (ap (λ app. fault_of app (texts c.args.words.now)) c.in_ok-program.ensures ∙ h.0)

pub returns-in-Err-clause-spelled : goal.returns-in-Err-clause-spelled
returns-in-Err-clause-spelled c request h =
    let kinds = c.in-Err.ensures.kinds (ap is_simple_and_free c.in_ok-program.ensures ∙ free) in
    let same = spelled {words = (texts c.args.words.now)} request h in
    only_memory _ c.in-Err.error kinds (ap (λ app. fault_of app (texts c.args.words.now)) c.in_ok-program.ensures ∙ same.faultless)

pub returns-in-Err-clause-kinds : goal.returns-in-Err-clause-kinds
returns-in-Err-clause-kinds c =
    let kinds = c.in-Err.ensures.kinds (ap is_simple_and_free c.in_ok-program.ensures ∙ free) in
    inl (rw (ap (λ app. fault_of app (texts c.args.words.now)) c.in_ok-program.ensures) at kinds)

pub returns-clause-found : goal.returns-clause-found
returns-clause-found c =
    let rows = rows_found _ (texts c.args.words.now) _ c.in_ok-program.ensures c.in-Ok.ensures.ok.2 in (
      sym (ap (λ app. fault_of app (texts c.args.words.now)) c.in_ok-program.ensures)
          ∙ c.in-Ok.ensures.kinds (ap is_simple_and_free c.in_ok-program.ensures ∙ free),
      found_in (texts c.args.words.now) (request_of c.in-Some.command) _ rows c.in-Some.ensures.some,
    )

pub returns-clause-only : goal.returns-clause-only
returns-clause-only c request h =
    let rows = rows_found _ (texts c.args.words.now) _ c.in_ok-program.ensures c.in-Ok.ensures.ok.2 in
    found_once (texts c.args.words.now) (request_of c.in-Some.command) request
    (found_in (texts c.args.words.now) (request_of c.in-Some.command) _ rows c.in-Some.ensures.some) h.1

pub returns-clause-spelled : goal.returns-clause-spelled
returns-clause-spelled c request h =
    let rows = rows_found _ (texts c.args.words.now) _ c.in_ok-program.ensures c.in-Ok.ensures.ok.2 in
    found_once (texts c.args.words.now) (request_of c.in-Some.command) request
    (found_in (texts c.args.words.now) (request_of c.in-Some.command) _ rows c.in-Some.ensures.some) (spelled request h).found

pub returns-in_default-clause-only : goal.returns-in_default-clause-only
returns-in_default-clause-only c request (_, found) =
    let rows = rows_found _ (texts c.args.words.now) _ c.in_ok-program.ensures c.in-Ok.ensures.ok.2 in
    let met : option_map given_of (subcommand_rows_of c.in-Ok.matches) ≡ Some found.0 = ap (option_map given_of) rows ∙ found.1 in
    let asked = c.in_default.ensures.none found.0 request met found.2 in
    absurd (false≢true asked)

pub returns-in_default-clause-spelled : goal.returns-in_default-clause-spelled
returns-in_default-clause-spelled c request h =
    let same = spelled request h in
    let rows = rows_found _ (texts c.args.words.now) _ c.in_ok-program.ensures c.in-Ok.ensures.ok.2 in
    let met : option_map given_of (subcommand_rows_of c.in-Ok.matches) ≡ Some same.found.0 = ap (option_map given_of) rows ∙ same.found.1 in
    let asked = c.in_default.ensures.none same.found.0 request met same.found.2 in
    absurd (false≢true asked)

pub returns-in_default-clause-kinds : goal.returns-in_default-clause-kinds
returns-in_default-clause-kinds c = ⊎_elim (λ missing. inr missing) (λ memory. inl (inl memory)) c.no_request-error.ensures
