-- Lists to which lines are added one after another. As long as all lines are lawful, the list has them. The first line that isn't lawful is
-- the first fault of the lines so far, and of those with any line more.
use Rattle.std.proofs.Common.{◌≡◌, true, false, List, [], ◌∷◌, ◌++◌, ℕ, append_assoc, refl, sym, ◌∙◌, ap, inl, inr}
use Rattle.std.{specs.Prelude.MatchOption, specs.Prelude.Option, specs.Prelude.None, specs.Prelude.Some, specs.Option.is_some, proofs.lemmas.Bool.false≢true}
use Rattle.std.proofs.lemmas.List.{map_push, Elements.Contains-push_cases}
use Rattle.board.specs.Game.{Level}
use Rattle.answers.specs.Body.{PatternLine}
use Rattle.certificates.specs.Pattern.{pattern_of, patterns_of, AreLawful, IsLawful}
use Rattle.closure.specs.FirstFault.{IsFirstPatternFault, IsUnlawful}
use Rattle.closure.proofs.Lists.{mapped}
use Rattle.closure.specs.declared.fault.{LineWhy.LineWhy, CheckFault.TheVariants.Line}

-- What a list says of the lines that were added to it (`IsListOf`): it has them, and they are lawful, or the first fault is theirs.
abbrev AreAdded : Level → List PatternLine → List PatternLine → Option (ℕ × LineWhy) → Type 0
AreAdded level has lines fault =
    MatchOption fault ((has ≡ lines) × AreLawful level (patterns_of lines)) (λ first. IsFirstPatternFault level lines (Line first.0 first.1))

module _ (level : Level) (has lines : List PatternLine) (l : PatternLine) where
  -- Lawful lines and one more are lawful.
  pub lawful_added : (now : List PatternLine) (fault : Option (ℕ × LineWhy)) → is_some fault ≡ false → AreAdded level has lines fault
      → (now ≡ has ++ l ∷ []) × IsLawful level (pattern_of l) → AreAdded level now (lines ++ l ∷ []) fault
  lawful_added now None none all new = (
    new.0 ∙ ap (λ ls. ls ++ l ∷ []) all.0,
    λ pattern listed.
        elim (Contains-push_cases (patterns_of lines) (pattern_of l) pattern (rw (map_push pattern_of lines l) at listed)) [
          | inl before ↦ all.1 pattern before
          | inr last ↦ rw last at new.1
        ],
  )
  lawful_added now (Some first) none all new = absurd (false≢true (sym none))

  -- A line that isn't lawful is the first fault if it comes after lawful ones.
  pub unlawful_added : (why : LineWhy) (fault : Option (ℕ × LineWhy)) → is_some fault ≡ false → AreAdded level has lines fault
      → IsUnlawful level (pattern_of l) why → IsFirstPatternFault level (lines ++ l ∷ []) (Line l.line why)
  unlawful_added why None none all new = record {
    before = lines;
    line = l;
    after = [];
    list = refl;
    number_is = refl;
    fine = λ earlier listed. all.1 (pattern_of earlier) (mapped pattern_of lines earlier listed);
    faulty = new;
  }
  unlawful_added why (Some first) none all new = absurd (false≢true (sym none))

  -- A first line that isn't lawful stays the first fault if a line comes after it.
  pub still_unlawful : (fault : Option (ℕ × LineWhy)) → is_some fault ≡ true → AreAdded level has lines fault → AreAdded level has (lines ++ l ∷ []) fault
  still_unlawful None some all = absurd (false≢true some)
  still_unlawful (Some first) some found = record {
    before = found.before;
    line = found.line;
    after = found.after ++ l ∷ [];
    list = ap (λ ls. ls ++ l ∷ []) found.list ∙ append_assoc found.before (found.line ∷ found.after) (l ∷ []);
    number_is = found.number_is;
    fine = found.fine;
    faulty = found.faulty;
  }
