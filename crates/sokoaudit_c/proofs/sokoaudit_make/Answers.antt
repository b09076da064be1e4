use Rattle.std.proofs.Common.{ℕ, List, length, ◌++◌, Some, sym, ap, ◌∙◌, Bor}
use Rattle.sokoaudit_c.specs.Outcome.{outcome_of_answers}
use Rattle.sokoaudit_c.proofs.sokoaudit_make.Goals as goal

-- the buffer begins with the text that was written in memory
pub returns-in-Ok-clause-done : goal.returns-in-Ok-clause-done
returns-in-Ok-clause-done c _ =
    let written = c.in-Ok.ensures.ok c.args.levels.now (ap (λ (b : Bor (List ℕ)). Some b.now) c.new-2.ensures.value) in
    let empty = ap (λ v. v.items) c.new-text.ensures.value ∙ c.new.ensures.items in
    let whole = c.deref.ensures.value ∙ ap (λ v. v.items) c.into_inner-text.ensures ∙ written.2 ∙ ap (λ (xs : List ℕ). xs ++ written.0) empty in (
      written.0,
      _,
      written.1,
      rw whole at c.put.ensures,
      c.of_answers.ensures ∙ ap (λ (n : ℕ). outcome_of_answers n c.in-Ok.records) (c.len.ensures ∙ sym c.deref.ensures.len ∙ ap length whole),
    )
