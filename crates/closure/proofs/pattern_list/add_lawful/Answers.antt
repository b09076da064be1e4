-- The arena has the pattern as its last line. So the line that is read is that pattern, and what is said of the line is said of the pattern.
use Rattle.std.proofs.Common.{◌≡◌, ℕ, Ok, Err, Some, None, IfOk, List, ◌∷◌, [], ◌++◌, length, ap, sym, subst, ◌∙◌, arith}
use Rattle.std.specs.Prelude.{MatchOption, Option, Result}
use Rattle.std.proofs.lemmas.List.{get_or_push, length-append, length-map, map-append}
use Rattle.answers.specs.{Body.PatternLine, Grammar.said_pattern}
use Rattle.certificates.specs.Pattern.{pattern_of, patterns_of}
use Rattle.closure.specs.Arena.{IsOnGrid, pattern_at, stored_pattern}
use Rattle.closure.proofs.pattern_list.add_lawful.Goals as goal
use Rattle.closure.proofs.pattern_list.add_lawful.Goals.{After-line}

last_pattern : (lines : List PatternLine) (l : PatternLine) (n : ℕ) → n ≡ length lines → pattern_at (patterns_of (lines ++ l ∷ [])) n ≡ pattern_of l
last_pattern lines l n is = grind (arith, map-append, get_or_push, length-append, length-map)

with_lines : {W X E : Type 0} (L : Type 0) (U : W → Type 0) (r : Result (Option W) X) → E → IfOk r (λ why. MatchOption why L U) → IfOk r (λ why. MatchOption why (E × L) U)
with_lines L U (Ok (Some why)) e h = h
with_lines L U (Ok None) e h = (e, h)
with_lines L U (Err x) e h = tt

-- the line that is read is the pattern that was added
stored_is : (g : _) (c : After-line g) → stored_pattern c.add.new.self c.line.result ≡ pattern_of (said_pattern c.args.pattern.now)
stored_is g c = grind (arith, length-map, last_pattern)

pub why_unlawful-requires : goal.why_unlawful-requires
why_unlawful-requires g c = record {
  line = c.line.ensures.within;
  on = subst (IsOnGrid c.args.board.now.shape) (sym (stored_is g (goal.at.why_unlawful-requires g c).After-line))
      (rw (c.if-not-branch.false, c.shape.ensures.value) at c.in_ok-add.ensures.on);
}

pub returns : goal.returns
returns g c =
    let said = said_pattern c.args.pattern.now in
    let added = rw c.if-not-branch.false at c.in_ok-add.ensures.added in
    with_lines _ _ c.why_unlawful.result (added ∙ ap (λ ls. ls ++ said ∷ []) c.make_room.ensures)
    (rw (stored_is g (goal.at.returns g c).After-line) at c.why_unlawful.ensures)
