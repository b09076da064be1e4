-- The error of a text that can't be read whole comes at its place in the order of work, and is no error of a write. The count
-- of the source rises exactly if the source failed.
use Rattle.std.proofs.Common.{◌≡◌, ◌⊎◌, ℕ, ◌<◌, ◌≤◌, List, length, Some, IfSome, None, Ok, Err, inl, inr, refl, arith}
use Rattle.std.specs.Prelude.{IfErr, IsErrOf, Option, Result}
use Rattle.devices.specs.Device.{CountsFault}
use Rattle.std.specs.Io.KnownBytes.{Keeps}
use Rattle.report.specs.Audit.{CountsAudit, IsDue}
use Rattle.report.specs.Collection.{Count, CountsError, HasTooManyLevels, IsDueFor, Stays, error_of_read}
use Rattle.report.specs.MadeAnswers.{CountsMade}
use Rattle.devices.specs.Reading.{CountsReadFault, TakesAtMost, most_bytes}
use Rattle.devices.specs.declared.reading.ReadFault.{ReadFault}
use Rattle.devices.specs.declared.reading.ReadFault.TheVariants as read
use Rattle.report.specs.declared.fault.Which.{Which}
use Rattle.report.specs.declared.fault.Which.TheVariants as which
use Rattle.report.specs.declared.fault.AuditError.{AuditError}
use Rattle.report.specs.declared.fault.AuditError.TheVariants.{Write, TooManyLevels, Memory}
use Rattle.report.specs.declared.fault.DeadError.TheVariants.{Audit}

-- ---- the error of a fault in reading a text
pub no_write : (fault : ReadFault) (text : Which) → error_of_read fault text ≡ Write → ⊥
no_write read.Device text e = absurd cc
no_write read.TooLong text e = absurd cc
no_write read.Memory text e = absurd cc

pub due_levels : (lt at : List ℕ) (fault : ReadFault) → (fault ≡ read.TooLong → most_bytes < length lt) → IsDue lt at (error_of_read fault which.Levels)
due_levels lt at read.Device long = tt
due_levels lt at read.TooLong long = long refl
due_levels lt at read.Memory long = tt

pub due_answers : (lt at : List ℕ) (fault : ReadFault) → length lt ≤ most_bytes → (fault ≡ read.TooLong → most_bytes < length at)
    → IsDue lt at (error_of_read fault which.Answers)
due_answers lt at read.Device fits long = fits
due_answers lt at read.TooLong fits long = (fits, long refl)
due_answers lt at read.Memory fits long = tt

module _ (A B : Type 0) (levels answers report : Count) where
  pub counts_levels : (fault : ReadFault) → CountsReadFault {A = B} levels.before levels.after (Err fault) → Stays answers → Stays report
      → CountsAudit {A = A} levels answers report (Err (error_of_read fault which.Levels))
  counts_levels read.Device count a r = (count, a, r)
  counts_levels read.TooLong count a r = (count, a, r)
  counts_levels read.Memory count a r = (count, a, r)

  pub counts_answers : (fault : ReadFault) → Stays levels → CountsReadFault {A = B} answers.before answers.after (Err fault) → Stays report
      → CountsAudit {A = A} levels answers report (Err (error_of_read fault which.Answers))
  counts_answers read.Device l count r = (l, count, r)
  counts_answers read.TooLong l count r = (l, count, r)
  counts_answers read.Memory l count r = (l, count, r)

pub due_for : (IsResult : List ℕ → Type 0) (lt : List ℕ) (fault : ReadFault) → (fault ≡ read.TooLong → most_bytes < length lt)
    → IsDueFor IsResult lt (error_of_read fault which.Levels)
due_for IsResult lt read.Device long = tt
due_for IsResult lt read.TooLong long = long refl
due_for IsResult lt read.Memory long = tt

pub counts_for : (B : Type 0) (levels result : Count) (fault : ReadFault) → CountsReadFault {A = B} levels.before levels.after (Err fault)
    → Stays result → CountsError levels result (error_of_read fault which.Levels)
counts_for B levels result read.Device count r = (count, r)
counts_for B levels result read.TooLong count r = (count, r)
counts_for B levels result read.Memory count r = (count, r)

pub same_error : {T : Type 0} (e f : AuditError) → IsErrOf {T = T} (Err e) f → e ≡ f
same_error e f is = cc

pub same_map_error : {T : Type 0} (e f : AuditError) → IsErrOf {T = T} (Err (Audit e)) (Audit f) → e ≡ f
same_map_error e f is = cc

pub no_error : {T E : Type 0} (x : T) (f : E) → IsErrOf {T = T} {E = E} (Ok x) f → ⊥
no_error x f is = absurd (cc)

-- the error is one of a levels text that was read: out of memory, or too many levels
abbrev FromLevels : List ℕ → AuditError → Type 0
FromLevels lt e = (e ≡ Memory) ⊎ ((e ≡ TooManyLevels) × HasTooManyLevels lt)

pub due_levels_in : (IsResult : List ℕ → Type 0) (lt : List ℕ) (e : AuditError) → length lt ≤ most_bytes → FromLevels lt e → IsDueFor IsResult lt e
due_levels_in IsResult lt e short (inl is) = grind arith
due_levels_in IsResult lt e short (inr h) = grind arith

pub counts_levels_in : (levels result : Count) (lt : List ℕ) (e : AuditError) → FromLevels lt e → Stays levels → Stays result → CountsError levels result e
counts_levels_in levels result lt e (inl is) l r = grind arith
counts_levels_in levels result lt e (inr h) l r = grind arith

pub levels_in_no_write : (lt : List ℕ) (e : AuditError) → FromLevels lt e → e ≡ Write → ⊥
levels_in_no_write lt e (inl none) is = absurd (cc)
levels_in_no_write lt e (inr h) is = grind arith

-- if what P says of an error means what Q says, an error with P is one with Q
pub err_weaker : {T E : Type 0} (r : Result T E) (P Q : E → Type 0) → ((e : E) → P e → Q e) → IfErr r P → IfErr r Q
err_weaker (Ok x) P Q f h = tt
err_weaker (Err e) P Q f h = f e h

pub counts_written : {A : Type 0} (levels answers : Count) (r : Result A AuditError) → IfErr r (λ e. e ≡ Write) → Stays levels
    → CountsFault answers.before answers.after r → CountsMade levels answers r
counts_written levels answers (Ok x) only l count = (l, count)
counts_written levels answers (Err e) only l count = grind arith

-- what holds of a text that was read holds of the bytes that the source had, if they are known
pub at_known : (P : List ℕ → Type 0) (o : Option (List ℕ)) (text bytes lent : List ℕ) → lent ≡ text → IfSome o (λ b. text ≡ b) → o ≡ Some bytes
    → P lent → P bytes
at_known P o text bytes lent is value known h = grind arith

-- a device that isn't used holds what it held
pub keeps_same : (o : Option (List ℕ)) → Keeps o o
keeps_same None = tt
keeps_same (Some bytes) = refl

pub takes_none : (most : ℕ) (o : Option (List ℕ)) → TakesAtMost most o o
takes_none most o = grind arith
