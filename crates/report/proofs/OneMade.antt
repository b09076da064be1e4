-- No level both has a made record and lacks one, and a level has one map.
-- A certificate is made only if a box is on a dead square, a frozen box is off the goals, or a zone refutes the level.
-- Nothing is made only if none of these holds. The dead squares of a level are one set, and its map follows from them.
use Rattle.std.proofs.Common.{◌≡◌, ◌⊎◌, ℕ, List, Some, inl, inr, sym, ◌∙◌, ap}
use Rattle.std.proofs.lemmas.Bool.{false≢true}
use Rattle.board.specs.Game.{Level}
use Rattle.board.specs.Legal.{IsBoardOf, IsRefusal}
use Rattle.board.specs.Levels.{AreLevelsOf}
use Rattle.board.specs.declared.reading.BoardFault.{BoardFault}
use Rattle.answers.specs.declared.record.MadeBody.{MadeBody}
use Rattle.maker.specs.Made.{IsAcceptedMade, IsMade, IsNothingMade}
use Rattle.maker.specs.declared.making.Made.{Made}
use Rattle.maker.specs.declared.making.Made.TheVariants.{Patterns, Zone}
use Rattle.maker.proofs.Accepting.{one_dead_set}
use Rattle.report.specs.DeadMap.{IsMap, IsMapOf, level_at, rows_text}
use Rattle.report.specs.MadeAnswers.{HasNothingMade, IsMadeBody, IsRefused}

not_both : (level : Level) (made : Made) → IsMade level made → IsAcceptedMade level made → IsNothingMade level → ⊥
not_both level (Patterns patterns) (inl dead) accepted nothing = nothing.no_list.no_dead_box dead.box
not_both level (Patterns patterns) (inr frozen) accepted nothing =
    let (c, has, lacks) = frozen.off_goals in
    false≢true (sym lacks ∙ nothing.no_list.on_goals frozen.frozen frozen.exact c has)
not_both level (Zone zone) is accepted nothing = nothing.no_zone (_, record { closed = accepted.closed; more = accepted.more })

one_text : (level : Level) (a b : List ℕ) → IsMap level a → IsMap level b → a ≡ b
one_text level a b (dead, are, is) (other, they, also) =
    is ∙ ap (λ cells. rows_text level cells level.shape.height) (one_dead_set level dead other are they) ∙ sym also

some_same : (a b : List (List ℕ)) → Some a ≡ Some b → a ≡ b
some_same a b e = cc

module _ (one_board : (rows : List (List ℕ)) (level other : Level) → IsBoardOf rows level → IsBoardOf rows other → level ≡ other) where
  pub made_or_not : ((rows : List (List ℕ)) (level : Level) (why : BoardFault) → IsBoardOf rows level → IsRefusal rows why → ⊥)
      → (rows : List (List ℕ)) (body : MadeBody) → IsMadeBody rows body → IsRefused rows ⊎ HasNothingMade rows → ⊥
  made_or_not not_refused rows body made (inl (why, refusal)) = not_refused rows made.level why made.legal refusal
  made_or_not not_refused rows body made (inr (level, is, nothing)) =
      not_both made.level made.made made.is made.accepted (rw (one_board rows level made.level is made.legal) at nothing)

  pub one_map : ((levels others : List (List (List ℕ))) (lines : List (List ℕ)) → AreLevelsOf levels lines → AreLevelsOf others lines → levels ≡ others)
      → (lt : List ℕ) (n : ℕ) (text other : List ℕ) → IsMapOf lt n text → IsMapOf lt n other → text ≡ other
  one_map one_list lt n text other a b =
      let levels = one_list a.levels b.levels _ a.collection.levels_are b.collection.levels_are in
      let rows = some_same a.rows b.rows (sym a.level_is ∙ ap (λ ls. level_at ls n) levels ∙ b.level_is) in
      let level = one_board b.rows a.level b.level (rw rows at a.legal) b.legal in
      one_text b.level text other (rw level at a.map) b.map
