-- What a command of the program leaves printed.
-- A file that is opened has the known bytes. Opening changes no file, so the second of two still has the bytes
-- that are known. The command's call adds its text to what the output held, and a flush adds no byte. A status below 2 means
-- that there was no error, and then the text and the status are those that the request asks for. A failed write raises the
-- output's count of failures, and any other error leaves the output as it was. A function that returns an error has written nothing to
-- standard error, so the line that reports it is what standard error got.
use Rattle.std.proofs.Common.{◌≡◌, ◌<◌, ◌≤◌, ℕ, List, Option, None, Some, inr, refl, sym, subst, arith}
use Rattle.std.specs.Prelude.{Result, Ok, Err, IfOk, IfErr, IsSome, MatchResult}
use Rattle.std.specs.Io.KnownBytes.{Appends}
use Rattle.report.specs.Audit.{IsDue}
use Rattle.report.specs.ErrorWords.{error_line}
use Rattle.report.specs.declared.fault.AuditError.{AuditError}
use Rattle.report.specs.declared.fault.AuditError.TheVariants.{Memory}
use Rattle.report.specs.declared.fault.DeadError.{DeadError}
use Rattle.report.specs.declared.fault.DeadError.TheVariants.{Audit}
use Rattle.arguments.specs.Command.{Request, audit, make, dead}
use Rattle.program.specs.Program.{AreKnown, CountsOutput, HasError, IsDueError, Prints, SaysUnlessFailed}

-- the known bytes of a file are what is read of it
pub bytes_of : (known : Option (List ℕ)) → IsSome known → (bytes : List ℕ) × (known ≡ Some bytes)
bytes_of None is = cc
bytes_of (Some bytes) is = (bytes, refl)

-- a text was added to the output, and the request asks for it with this status
abbrev pub IsPrinted : (List ℕ → Option (List ℕ)) → Option (List ℕ) → Option (List ℕ) → Request → ℕ → Type 0
IsPrinted known old new request status = (text : List ℕ) × Appends old new text × Prints known request text status

-- a status below 2 comes from an outcome without an error
pub without_error : {E : Type 0} (P : ℕ → Type 0) (outcome : Result ℕ E) (status : ℕ) → IfOk outcome P
    → MatchResult outcome (λ own. status ≡ own) (λ _. status ≡ 2) → status < 2 → P status
without_error P (Ok own) status known is less = subst P (sym is) known
without_error P (Err error) status known is less = absurd (omega (arith, is, less))

-- the command of a request prints what is asked for
pub done : {E : Type 0} (known : List ℕ → Option (List ℕ)) (old new : Option (List ℕ)) (asked request : Request) (outcome : Result ℕ E) (status : ℕ)
    → asked ≡ request → AreKnown known asked → (AreKnown known request → IfOk outcome (λ own. IsPrinted known old new request own))
    → MatchResult outcome (λ own. status ≡ own) (λ _. status ≡ 2) → status < 2 → IsPrinted known old new asked status
done known old new asked request outcome status same files job is less =
    subst (λ (r : Request). IsPrinted known old new r status) (sym same)
    (without_error (IsPrinted known old new request) outcome status (job (subst (AreKnown known) same files)) is less)

-- ---- what an error leaves
-- ---- errors
-- the bytes of files that have an error are known
known_by : (known : List ℕ → Option (List ℕ)) (request : Request) → HasError known request → AreKnown known request
known_by known (audit levels answers) (lt, lt_is, at, at_is, _, _) = (rw lt_is refl, rw at_is refl)
known_by known (make levels) (lt, lt_is, _) = rw lt_is refl
known_by known (dead levels n) (lt, lt_is, _) = rw lt_is refl

-- a request whose texts have an error has nothing to print, so the status is 2
pub two : {E : Type 0} (known : List ℕ → Option (List ℕ)) (old new : Option (List ℕ)) (request asked : Request) (outcome : Result ℕ E) (status : ℕ)
    → request ≡ asked → HasError known asked → (AreKnown known request → IfOk outcome (λ own. IsPrinted known old new request own))
    → ((text : List ℕ) (own : ℕ) → Prints known request text own → HasError known request → ⊥)
    → MatchResult outcome (λ own. status ≡ own) (λ _. status ≡ 2) → status ≡ 2
two known old new request asked (Ok own) status same error job none is =
    let here = subst (HasError known) (sym same) error in
    let (text, _, prints) = job (known_by known request here) in
    absurd (none text own prints here)
two known old new request asked (Err e) status same error job none is = is

-- the error of an audit comes at its place in the order of work
pub due_as : (known : List ℕ → Option (List ℕ)) (levels answers : List ℕ) (error : DeadError) (own : AuditError) → error ≡ Audit own
    → ((levels_text answers_text : List ℕ) → known levels ≡ Some levels_text → known answers ≡ Some answers_text → IsDue levels_text answers_text own)
    → IsDueError known (audit levels answers) error
due_as known levels answers error own is due = subst (IsDueError known (audit levels answers)) (sym is) (inr due)

-- any request can end out of memory
memory_is_due : (known : List ℕ → Option (List ℕ)) (request : Request) → IsDueError known request (Audit Memory)
memory_is_due known (audit levels answers) = inr (λ levels_text answers_text _ _. tt)
memory_is_due known (make levels) = λ levels_text _. tt
memory_is_due known (dead levels n) = λ levels_text _. tt

-- the error is due, the output failed if it is a failed write, and standard error gets its line
abbrev pub IsSaid : (List ℕ → Option (List ℕ)) → Request → ℕ → ℕ → (Option (List ℕ)) × ℕ → (Option (List ℕ)) × ℕ → Type 0
IsSaid known request before after old new =
    (error : DeadError) × IsDueError known request error × CountsOutput before after error × SaysUnlessFailed (error_line error) old new

-- a status of 2 comes from an outcome with an error, whose line is printed
pub said : (known : List ℕ → Option (List ℕ)) (request asked : Request) (before after : ℕ) (old new : (Option (List ℕ)) × ℕ) (outcome : Result ℕ DeadError)
    (status : ℕ) → request ≡ asked → IfOk outcome (λ own. own ≤ 1) → IfErr outcome (IsDueError known request) → IfErr outcome (CountsOutput before after)
    → IfErr outcome (λ error. SaysUnlessFailed (error_line error) old new)
    → MatchResult outcome (λ own. status ≡ own) (λ _. status ≡ 2) → status ≡ 2 → IsSaid known asked before after old new
said known request asked before after old new (Ok own) status same low due counts line is two = absurd (omega (arith, low, is, two))
said known request asked before after old new (Err error) status same low due counts line is two =
    (error, subst (λ (r : Request). IsDueError known r error) same due, counts, line)

-- out of memory before standard error got anything is printed there
pub said_memory : {F : Type 0} (held : F → Option (List ℕ)) (failures : F → ℕ) (known : List ℕ → Option (List ℕ)) (request : Request) (before after : ℕ)
    (old between new : F) (outcome : Result ℕ DeadError) → outcome ≡ Err (Audit Memory)
    → MatchResult outcome (λ status. status < 2 → between ≡ old) (λ _. between ≡ old) → IfErr outcome (CountsOutput before after)
    → IfErr outcome (λ error. SaysUnlessFailed (error_line error) (held between, failures between) (held new, failures new))
    → IsSaid known request before after (held old, failures old) (held new, failures new)
said_memory held failures known request before after old between new (Ok status) error quiet counts line = let no : ⊥ = cc in absurd no
said_memory {F} held failures known request before after old between new (Err own) error quiet counts line =
    let is : own ≡ Audit Memory = cc in
    let here = subst (λ (e : DeadError). SaysUnlessFailed (error_line e) (held between, failures between) (held new, failures new)) is line in (
      Audit Memory,
      memory_is_due known request,
      subst (CountsOutput before after) is counts,
      subst (λ (f : F). SaysUnlessFailed (error_line (Audit Memory)) (held f, failures f) (held new, failures new)) quiet here,
    )
