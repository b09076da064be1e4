-- The first line at fault. A loop over the lines stops at a line at fault, and the lines before it were fine: so the list is the fine
-- lines, then this one, then the rest. A list with a first fault is not closed.
use Rattle.std.proofs.Common.{◌≡◌, ◌≢◌, ◌⊎◌, ℕ, suc, ◌<◌, List, ◌∷◌, ◌++◌, length, get_or, take, drop, refl, sym, ◌∙◌, ap, inl, inr, arith}
use Rattle.std.specs.{Prelude.Result, Prelude.Ok, Prelude.Err, Prelude.IfOk, Prelude.IfErr, Prelude.OnOk, Prelude.IsOkUnless, List.Contains}
use Rattle.std.proofs.Math.Seq.{drop-cons}
use Rattle.std.proofs.lemmas.List.{get_or-map, get_or-take, length-take-le, take-append-drop}
use Rattle.cellset.proofs.{Members.not_both, Truth.either}
use Rattle.board.specs.{Game.Level}
use Rattle.answers.specs.Body.{PatternLine}
use Rattle.closure.specs.declared.fault.LineWhy.{LineWhy, TheVariants.Board, TheVariants.Wall, TheVariants.Seed, TheVariants.Goals}
use Rattle.closure.specs.declared.fault.CheckFault.{CheckFault, TheVariants.Line, TheVariants.Start, TheVariants.Push, TheVariants.Memory}
use Rattle.certificates.specs.Pattern.{Pattern, pattern_of, patterns_of, IsLawful}
use Rattle.certificates.specs.Closed.{Closed}
use Rattle.closure.specs.FirstFault.{IsUnlawful, IsFirstFaultyLine, IsFirstPatternFault}
use Rattle.closure.proofs.Lists.{mapped, middle}

-- A line at fault, with fine lines before it, is the first line at fault.
pub first_line : (IsFine IsFaulty : Pattern → Type 0) (lines : List PatternLine) (i : ℕ) (p : Pattern) (d : PatternLine) → i < length lines
    → ((j : ℕ) → j < i → IsFine (get_or (patterns_of lines) j p)) → IsFaulty (get_or (patterns_of lines) i p)
    → IsFirstFaultyLine (λ l. IsFine (pattern_of l)) (λ l. IsFaulty (pattern_of l)) lines (get_or lines i d).line
first_line IsFine IsFaulty lines i p d lt fine faulty = record {
  before = take i lines;
  line = get_or lines i d;
  after = drop (suc i) lines;
  list = sym (take-append-drop i lines) ∙ ap (λ rest. take i lines ++ rest) (drop-cons lines i d lt);
  number_is = refl;
  fine = λ earlier (k, less, is).
      let long = length-take-le i lines (omega arith) in
      rw (get_or-map pattern_of lines k earlier p (omega arith) ∙ ap pattern_of (sym (get_or-take i lines k earlier (omega arith)) ∙ is))
      at (fine k (omega arith));
  faulty = rw (get_or-map pattern_of lines i d p lt) at faulty;
}

-- ---- a fault and a closed list exclude each other
pub unlawful_not : (level : Level) (pattern : Pattern) (why : LineWhy) → IsUnlawful level pattern why → IsLawful level pattern → ⊥
unlawful_not level pattern Board (c, named, off) lawful = off (lawful.board c named)
unlawful_not level pattern Wall (board, c, box, wall) lawful = grind (arith, not_both)
unlawful_not level pattern Seed (board, off, c, seed, bad) lawful = grind (arith, not_both)
unlawful_not level pattern Goals (board, off, fair, all) lawful = grind (arith, not_both)

-- the pattern of the line at fault is in the list
pub line_listed : (before : List PatternLine) (line : PatternLine) (after lines : List PatternLine) → lines ≡ before ++ line ∷ after →
    Contains (patterns_of lines) (pattern_of line)
line_listed before line after lines is = rw is (mapped pattern_of (before ++ line ∷ after) line (middle before line after))

pub fault_not_closed : (level : Level) (lines : List PatternLine) (fault : CheckFault) → Closed level (patterns_of lines)
    → IsFirstPatternFault level lines fault → ⊥
fault_not_closed level lines (Line number why) closed found =
    unlawful_not level (pattern_of found.line) why found.faulty (closed.lawful (pattern_of found.line) (line_listed found.before found.line found.after lines
    found.list))
fault_not_closed level lines Start closed found = found.1 closed.start
fault_not_closed level lines (Push number player dir) closed (lawful, start, found) =
    let (push, same_player, same_dir, first) = found.faulty in
    first.uncovered (closed.pushes (pattern_of found.line) (line_listed found.before found.line found.after lines found.list) push first.out)
fault_not_closed level lines Memory closed found = found

pub memory_or : (fault : CheckFault) → (fault ≡ Memory) ⊎ (fault ≢ Memory)
memory_or (Line number why) = inr (λ e. cc)
memory_or Start = inr (λ e. cc)
memory_or (Push number player dir) = inr (λ e. cc)
memory_or Memory = inl refl

-- ---- the answer of a check
-- If the result of a check is right, what is fine passes, and what has a fault gets this fault, unless memory runs out.
module _ {A Fault : Type 0} (memory : Fault) (or_other : (f : Fault) → (f ≡ memory) ⊎ (f ≢ memory)) (IsFirst : Fault → Type 0) (Fine : Type 0)
    (never : (f : Fault) → Fine → IsFirst f → ⊥) where
  pub ok_unless : (r : Result A Fault) → IfErr r (λ f. f ≢ memory → IsFirst f) → Fine → IsOkUnless r memory
  ok_unless (Ok a) found fine = tt
  ok_unless (Err f) found fine = either (or_other f) (λ e. e) (λ other. absurd (never f fine (found other)))

  pub first_unless : ((a b : Fault) → IsFirst a → IsFirst b → a ≡ b) → (P : A → Type 0) (r : Result A Fault) → IfOk r (λ a. Fine × P a)
      → IfErr r (λ f. f ≢ memory → IsFirst f) → (f : Fault) → IsFirst f → (r ≡ Err f) ⊎ (r ≡ Err memory)
  first_unless one P (Ok a) ok found f is = absurd (never f ok.0 is)
  first_unless one P (Err g) ok found f is = either (or_other g) (λ e. inr (ap Err e)) (λ other. inl (ap Err (one g f (found other) is)))

pub where_ok : {A Fault Fine Never : Type 0} (P : A → Type 0) (r : Result A Fault) → (Fine → Never) → IfOk r (λ a. Fine × P a) → OnOk r Never
where_ok P (Ok a) never accepted = never accepted.0
where_ok P (Err f) never accepted = tt
