-- The program's parser is the bare one with each subcommand added in turn. `Are` says that the commands of a list have given parsers, and
-- that none of their arguments is for all subcommands. Each call of `with_next` adds one such command, or memory ran out before (`next`).
-- Such commands add their parsers and nothing else, in their order (`added`), so the result is `program_app`.
use Rattle.std.proofs.Common.{◌≡◌, ◌∙◌, ◌++◌, List, [], ◌∷◌, false, ap, sym, subst, IfOk, IsOkAnd, Ok, Err, Result}
use Rattle.std.proofs.lemmas.Result.{IfOk-weaker}
use Rattle.std.specs.declared.alloc.AllocError.{AllocError}
use Rattle.clap.specs.declared.builder.command.Command.{Command}
use Rattle.clap.specs.declared.builder.command.Command.TheViews.{out-Command}
use Rattle.clap.specs.Words.{App, AddsInTurn, AddsSubcommand, app_of, shape_of, with_subcommand}
use Rattle.arguments.specs.Command.{bare_app, audit_app, make_app, dead_app}
use Rattle.arguments.proofs.command.program_command.Goals as goal

-- the commands have these parsers, and none of their arguments is for all subcommands
abbrev Are : List App → List Command → Type 0
Are [] [] = Unit {0}
Are [] (c ∷ cs) = ⊥
Are (a ∷ apps) [] = ⊥
Are (a ∷ apps) (c ∷ cs) = ((app_of c ≡ a) × ((out-Command c).has_globals ≡ false)) × Are apps cs

one_more : (apps : List App) {a : App} (cs : List Command) (c : Command) → Are apps cs → (app_of c ≡ a) × ((out-Command c).has_globals ≡ false)
    → Are (apps ++ a ∷ []) (cs ++ c ∷ [])
one_more [] [] c are is = (is, tt)
one_more [] (d ∷ cs) c are is = absurd are
one_more (b ∷ apps) [] c are is = absurd are
one_more (b ∷ apps) (d ∷ cs) c are is = (are.0, one_more apps cs c are.1 is)

next : {V : Type 0} (items : V → List Command) (apps : List App) (a : App) (list longer : Result V AllocError) (command : Result Command AllocError)
    → IfOk longer (λ r. IsOkAnd list (λ l. IsOkAnd command (λ c. items r ≡ items l ++ c ∷ [])))
    → IfOk list (λ l. Are apps (items l)) → IfOk command (λ c. app_of c ≡ a) → IfOk command (λ c. (out-Command c).has_globals ≡ false)
    → IfOk longer (λ r. Are (apps ++ a ∷ []) (items r))
next items apps a list (Err e) command says are is local = tt
next items apps a (Err e) (Ok r) command says are is local = absurd says
next items apps a (Ok l) (Ok r) (Err e) says are is local = absurd says
next items apps a (Ok l) (Ok r) (Ok c) says are is local = subst (Are (apps ++ a ∷ [])) (sym says) (one_more apps (items l) c are (is, local))

abbrev with_all : App → List App → App
with_all a [] = a
with_all a (b ∷ apps) = with_all (with_subcommand a b.top) apps

added : {a : App} (apps : List App) (old : Command) (cs : List Command) (new : Command) → Are apps cs → app_of old ≡ a → AddsInTurn AddsSubcommand old cs new
    → app_of new ≡ with_all a apps
added [] old [] new are was adds = ap app_of (sym adds) ∙ was
added [] old (c ∷ cs) new are was adds = absurd are
added (b ∷ apps) old [] new are was adds = absurd are
added {a} (b ∷ apps) old (c ∷ cs) new are was adds =
    let is = adds.1.shape are.0.1 ∙ ap (λ app. with_subcommand app (shape_of c)) was ∙ ap (λ app. with_subcommand a app.top) are.0.0 in
    added apps adds.0 cs new are.1 is adds.2

pub returns : goal.returns
returns c =
    let one = next (λ l. l.items) [] audit_app (Ok c.new.result) c.with_next-commands.result c.audit_command.result c.with_next-commands.ensures
    (rw c.new.ensures.items tt) c.audit_command.ensures.app c.audit_command.ensures.local in
    let two = next (λ l. l.items) (audit_app ∷ []) make_app c.with_next-commands.result c.with_next-commands-2.result c.make_command.result
    c.with_next-commands-2.ensures one c.make_command.ensures.app c.make_command.ensures.local in
    let three = next (λ l. l.items) (audit_app ∷ make_app ∷ []) dead_app c.with_next-commands-2.result c.with_next.result c.dead_command.result
    c.with_next.ensures two c.dead_command.ensures.app c.dead_command.ensures.local in
    let are : Are (audit_app ∷ make_app ∷ dead_app ∷ []) c.in_ok-commands.commands.items = rw c.in_ok-commands.was at three in
    IfOk-weaker c.subcommands.result _ _
    (λ command adds. added {a = bare_app} (audit_app ∷ make_app ∷ dead_app ∷ []) c.bare_command.result c.in_ok-commands.commands.items command are
    c.bare_command.ensures.app adds)
    c.subcommands.ensures
