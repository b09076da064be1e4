-- An error of two texts comes at its place in the order of work, and two texts have at most one first error.
-- An error of two texts that are not too long is their first, and it is one of two kinds; no other error is an error of the
-- texts. It comes after both reads, and a text that was read whole is not too long.
-- A first error is of one of four kinds. No two of them can hold together, and each kind allows one error: the levels of a
-- text are one list, and an answers text has one first fault for a number of levels.
use Rattle.std.proofs.Common.{◌≡◌, ◌⊎◌, ℕ, ◌<◌, ◌≤◌, List, length, inl, inr, refl, sym, ap, ◌∙◌, arith}
use Rattle.std.specs.Prelude.{Result, Ok, Err, IfOk, IfErr, MatchResult}
use Rattle.board.specs.Lines.{lines_in, without_mark}
use Rattle.board.specs.Levels.{AreLevelsOf}
use Rattle.answers.specs.FirstFault.{IsFirstAnswersFault}
use Rattle.answers.specs.declared.fault.AnswersFault.{AnswersFault}
use Rattle.report.specs.Collection.{HasTooManyLevels}
use Rattle.devices.specs.Reading.{most_bytes}
use Rattle.answers.specs.declared.fault.Why.{Why}
use Rattle.answers.specs.declared.fault.Why.TheVariants as why
use Rattle.report.specs.declared.fault.AuditError.{AuditError}
use Rattle.report.specs.declared.fault.AuditError.TheVariants.{Read, Write, TooLong, TooManyLevels, Answers, Memory}
use Rattle.report.specs.declared.fault.Which.TheVariants as which
use Rattle.report.specs.Audit.{IsTextError, IsFirstError, IsDue, answers_fault_of, error_of}
use Rattle.report.specs.Report.{AreShort}

module _ (lt at : List ℕ) where
  first_due : (e : AuditError) → IsFirstError lt at e → IsDue lt at e
  first_due (Read w) error = absurd error.1
  first_due Write error = absurd error.1
  first_due (TooLong which.Levels) error = error
  first_due (TooLong which.Answers) error = error
  first_due TooManyLevels error = error
  first_due (Answers line why) error = error
  first_due Memory error = tt

  pub error_due : (e : AuditError) → (e ≡ Memory) ⊎ IsFirstError lt at e → IsDue lt at e
  error_due e (inl none) = grind arith
  error_due e (inr error) = first_due e error

-- ---- one error
data FirstKind (lt at : List ℕ) : AuditError → Type 0 where
  long_levels : most_bytes < length lt → FirstKind lt at (TooLong which.Levels)
  long_answers : length lt ≤ most_bytes → most_bytes < length at → FirstKind lt at (TooLong which.Answers)
  many : AreShort lt at → HasTooManyLevels lt → FirstKind lt at TooManyLevels
  faulty : {line : ℕ} {w : Why} → AreShort lt at → IsTextError lt at (Answers line w) → FirstKind lt at (Answers line w)

first_kind : (lt at : List ℕ) (e : AuditError) → IsFirstError lt at e → FirstKind lt at e
first_kind lt at (Read w) error = absurd error.1
first_kind lt at Write error = absurd error.1
first_kind lt at (TooLong which.Levels) error = long_levels error
first_kind lt at (TooLong which.Answers) error = long_answers error.0 error.1
first_kind lt at TooManyLevels error = many error.0 error.1
first_kind lt at (Answers line w) error = faulty error.0 error.1
first_kind lt at Memory error = absurd error.1

error_again : (line : ℕ) (w : Why) → error_of (answers_fault_of line w) ≡ Answers line w
error_again line why.Header = refl
error_again line why.Level = refl
error_again line why.Order = refl
error_again line why.Unknown = refl
error_again line why.Kind = refl
error_again line why.Unclosed = refl

module _ (one_list : (levels others : List (List (List ℕ))) (lines : List (List ℕ)) → AreLevelsOf levels lines → AreLevelsOf others lines → levels ≡ others)
    (one_fault : (text : List ℕ) (levels : ℕ) (a b : AnswersFault) → IsFirstAnswersFault text levels a → IsFirstAnswersFault text levels b → a ≡ b)
    (lt at : List ℕ) where
  one_answers_error : (line other : ℕ) (w v : Why) → IsTextError lt at (Answers line w) → IsTextError lt at (Answers other v) → Answers line w ≡ Answers other v
  one_answers_error line other w v (levels, are, few, first) (others, they, less, again) =
      let same = one_list levels others (lines_in (without_mark lt)) are they in
      let there = rw same at first in
      sym (error_again line w) ∙ ap error_of (one_fault at (length others) (answers_fault_of line w) (answers_fault_of other v) there again)
      ∙ error_again other v

  not_both : (line : ℕ) (w : Why) → HasTooManyLevels lt → IsTextError lt at (Answers line w) → ⊥
  not_both line w (levels, are, above) (others, they, few, _) = grind arith

  one_kind : (a b : AuditError) → FirstKind lt at a → FirstKind lt at b → a ≡ b
  one_kind a b (long_levels h) (long_levels k) = refl
  one_kind a b (long_levels h) (long_answers fits k) = grind arith
  one_kind a b (long_levels h) (many short k) = grind arith
  one_kind a b (long_levels h) (faulty short k) = grind arith
  one_kind a b (long_answers fits h) (long_levels k) = grind arith
  one_kind a b (long_answers fits h) (long_answers _ k) = refl
  one_kind a b (long_answers fits h) (many short k) = grind arith
  one_kind a b (long_answers fits h) (faulty short k) = grind arith
  one_kind a b (many short h) (long_levels k) = grind arith
  one_kind a b (many short h) (long_answers _ k) = grind arith
  one_kind a b (many short h) (many _ k) = refl
  one_kind a b (many short h) (faulty {line = line} {w = w} _ k) = absurd (not_both line w h k)
  one_kind a b (faulty short h) (long_levels k) = grind arith
  one_kind a b (faulty short h) (long_answers _ k) = grind arith
  one_kind a b (faulty {line = line} {w = w} short h) (many _ k) = absurd (not_both line w k h)
  one_kind a b (faulty {line = line} {w = w} short h) (faulty {line = other} {w = v} _ k) = one_answers_error line other w v h k

  pub one_error : (a b : AuditError) → IsFirstError lt at a → IsFirstError lt at b → a ≡ b
  one_error a b h k = search (one_kind, first_kind)

-- if a call returns a report or a first error, and the two texts have an error, then it returns that error
module _ {A : Type 0} (lt at : List ℕ) (Is : A → Type 0)
    (no_error : (done : A) (e : AuditError) → Is done → IsFirstError lt at e → ⊥)
    (one : (a b : AuditError) → IsFirstError lt at a → IsFirstError lt at b → a ≡ b) where
  pub first_by : (r : Result A AuditError) → IfOk r Is → IfErr r (λ e. (e ≡ Memory) ⊎ IsFirstError lt at e)
      → (error : AuditError) → IsFirstError lt at error → MatchResult r (λ _. ⊥) (λ e. (e ≡ Memory) ⊎ (e ≡ error))
  first_by (Ok done) is refused error first = no_error done error is first
  first_by (Err e) is (inl none) error first = inl none
  first_by (Err e) is (inr of) error first = inr (one e error of first)
