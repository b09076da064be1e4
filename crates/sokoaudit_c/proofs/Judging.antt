-- A verdict is the one status of the two texts, and a fault comes from their error or from the number of their statuses.
-- There are as many statuses as levels. An error of the answers can come of a text without levels, so these are counted first.
use Rattle.std.proofs.Common.{◌≡◌, ◌⊎◌, ℕ, ◌<◌, List, [], ◌∷◌, length, refl, sym, subst, inl, inr, arith}
use Rattle.std.specs.Prelude.{Result, Ok, Err, IfOk, IfErr}
use Rattle.report.specs.Audit.{IsFirstError}
use Rattle.report.specs.Collection.{HasTooManyLevels}
use Rattle.report.specs.Report.{AreShort, AreStatuses}
use Rattle.report.specs.declared.fault.AuditError.{AuditError}
use Rattle.report.specs.declared.fault.AuditError.TheVariants as error_is
use Rattle.answers.specs.declared.fault.Why.{Why}
use Rattle.report.specs.declared.status.Status.{Status}
use Rattle.report.proofs.Reports.{each_long}
use Rattle.sokoaudit_c.specs.Judged.{HasLevels, HasSeveralLevels, IsFirstFault, answers_around}
use Rattle.sokoaudit_c.specs.declared.judge.Fault.{Fault}
use Rattle.sokoaudit_c.specs.declared.judge.Fault.TheVariants as fault

levels_as : (level at : List ℕ) (statuses : List Status) → AreStatuses level at statuses → HasLevels level (length statuses)
levels_as level at statuses are = grind (arith, each_long)

pub one_ok : (level at : List ℕ) (statuses : List Status) (r : Result Status Fault) → AreStatuses level at statuses
    → IfOk r (λ status. statuses ≡ status ∷ []) → IfOk r (λ status. AreStatuses level at (status ∷ []))
one_ok level at statuses (Ok status) are is = subst (AreStatuses level at) is are
one_ok level at statuses (Err f) are is = tt

pub one_err : (level : List ℕ) (kind : ℕ) (body : List ℕ) (statuses : List Status) (r : Result Status Fault) → AreStatuses level (answers_around kind body) statuses
    → IfErr r (λ f. ((f ≡ fault.NoLevel) × (length statuses ≡ 0)) ⊎ ((f ≡ fault.ManyLevels) × (1 < length statuses))) → IfErr r (IsFirstFault level kind body)
one_err level kind body statuses (Ok status) are is = tt
one_err level kind body statuses (Err f) are (inl none) =
    let (is, long) = none in
    let no_level : IsFirstFault level kind body fault.NoLevel = (are.short, rw long at (levels_as level (answers_around kind body) statuses are)) in
    subst (IsFirstFault level kind body) (sym is) no_level
one_err level kind body statuses (Err f) are (inr many) =
    let (is, above) = many in
    let levels : IsFirstFault level kind body fault.ManyLevels = (are.short, (length statuses, levels_as level (answers_around kind body) statuses are, above)) in
    subst (IsFirstFault level kind body) (sym is) levels

pub many : (level : List ℕ) → HasTooManyLevels level → HasSeveralLevels level
many level (levels, are, above) = (length levels, (levels, are, refl), omega arith)

-- an error of two texts is their first error, unless it is out of memory
pub error_of : (level at : List ℕ) (error this : AuditError) → error ≡ this → (this ≡ error_is.Memory → ⊥)
    → (error ≡ error_is.Memory) ⊎ IsFirstError level at error → IsFirstError level at this
error_of level at error this is other (inl none) = grind arith
error_of level at error this is other (inr first) = subst (IsFirstError level at) is first

pub many_by : (level at : List ℕ) → IsFirstError level at error_is.TooManyLevels → AreShort level at × HasSeveralLevels level
many_by level at (short, levels) = (short, many level levels)

pub not_many : error_is.TooManyLevels ≡ error_is.Memory → ⊥
not_many e = absurd cc

pub not_answers : (line : ℕ) (why : Why) → error_is.Answers line why ≡ error_is.Memory → ⊥
not_answers line why e = absurd cc
