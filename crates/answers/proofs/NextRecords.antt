-- One record after the other. A level line that is taken, a kind line, lines other than `end`, and `end` add what the
-- record says to the entries; a line that is refused, or a text that ends before, gives the fault. So the records so
-- far, together with the rest, come to what the whole text comes to.
use Rattle.std.proofs.Common.{◌≡◌, ℕ, ◌+◌, List, [], ◌∷◌, ◌++◌, Result, Ok, Err, ap, ◌∙◌}
use Rattle.std.specs.Prelude.{codes}
use Rattle.answers.specs.declared.fault.AnswersFault.{AnswersFault}
use Rattle.answers.specs.declared.fault.AnswersFault.TheVariants.{Unclosed}
use Rattle.answers.specs.Grammar.{Line, NoneEnds}
use Rattle.answers.specs.Body.{Body, Entry}
use Rattle.answers.specs.FirstFault.{last_level}
use Rattle.answers.specs.Reading.{LevelDue, KindDue, BodyDue, after_lines, body_after, closed, level_after, on_ok, run}
use Rattle.answers.proofs.BlockRuns.{from_there, run_end, run_lines}

module _ (version levels last : ℕ) (entries : List Entry) (after : last_level entries ≡ last) where
  level_taken : (l : Line) (ls : List Line) (n : ℕ) → level_after last levels l ≡ Ok n
      → run version levels entries LevelDue (l ∷ ls) ≡ run version levels entries (KindDue n) ls
  level_taken l ls n e = search

  kind_taken : (l : Line) (ls : List Line) (n : ℕ) (b : Body) → body_after l ≡ Ok b
      → run version levels entries (KindDue n) (l ∷ ls) ≡ run version levels entries (BodyDue n b) ls
  kind_taken l ls n b e = search

  -- a whole record adds its entry, and the rest is read from there
  pub record_taken : {kept : List Line} {level kind : Line} {more : List Line} {n : ℕ} {b : Body} (lines : List Line) (end : Line) (rest : List Line)
      → kept ≡ level ∷ kind ∷ more → level_after last levels level ≡ Ok n → body_after kind ≡ Ok b
      → more ≡ lines ++ end ∷ rest → NoneEnds lines → end.text ≡ codes "end"
      → run version levels entries LevelDue kept ≡ run version levels (entries ++ record { level = n; body = after_lines version b lines } ∷ []) LevelDue rest
  record_taken {level} {kind} {more} {n} {b} lines end rest is at_level at_kind split none ends =
      let body = run_lines version levels lines entries n b none in
      let close = run_end version levels entries n (after_lines version b lines) end ends in
      ap (run version levels entries LevelDue) is ∙ level_taken level (kind ∷ more) n at_level ∙ kind_taken kind more n b at_kind
      ∙ ap (run version levels entries (BodyDue n b)) split
      ∙ from_there version levels lines (end ∷ rest) entries (BodyDue n b) entries (BodyDue n (after_lines version b lines)) body
      ∙ from_there version levels (end ∷ []) rest entries (BodyDue n (after_lines version b lines))
      (entries ++ record { level = n; body = after_lines version b lines } ∷ []) LevelDue close

  -- the outcome of a text of this number of lines
  abbrev pub comes_to : ℕ → List Line → Result (List Entry) AnswersFault
  comes_to count kept = on_ok (run version levels entries LevelDue kept) (closed count)

  pub end_missing : (count : ℕ) (kept : List Line) (level kind : Line) (more : List Line) (n : ℕ) (b : Body)
      → kept ≡ level ∷ kind ∷ more → level_after last levels level ≡ Ok n → body_after kind ≡ Ok b → NoneEnds more
      → comes_to count kept ≡ Err (Unclosed (count + 1))
  end_missing count kept level kind more n b is at_level at_kind none =
      ap (comes_to count) is ∙ ap (λ r. on_ok r (closed count)) (level_taken level (kind ∷ more) n at_level ∙ kind_taken kind more n b at_kind)
      ∙ ap (λ r. on_ok r (closed count)) (run_lines version levels more entries n b none)
