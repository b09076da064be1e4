-- How an augmenting path is flipped, from the free goal at its end back to the box of the search.
-- Before each step one goal is freed. The step matches it to the box whose pushes reach it on the path. Every other goal keeps its box,
-- every box that was matched at first is matched to one of these other goals, and no box is matched to two. If the box of the step was
-- matched to another goal, that goal is freed next. If it is the box of the search, the table is a matching again, of one box more.
use Rattle.std.proofs.Common.{◌≡◌, ◌≢◌, sym, ◌∙◌, ap, subst, inl, inr}
use Rattle.std.proofs.lemmas.Bool.{false≢true}
use Rattle.std.specs.FinSet as set
use Rattle.cellset.specs.CellSet.{Cells, Has, Lacks}
use Rattle.cellset.specs.declared.cell.Cell.{Cell}
use Rattle.cellset.proofs.Members.{same, same_itself, same_or_other, not_both, inserted, kept_by_insert, has_insert}
use Rattle.board.specs.Game.{Level}
use Rattle.maker.specs.Matching.{InReach, IsMatching}

pub is_or_other : (a b : Cell) {G : Type 0} → (a ≡ b → G) → (a ≢ b → G) → G
is_or_other a b {G} if_same if_other = same_or_other a b {G = G} if_same (λ f. if_other (λ e. false≢true (sym f ∙ (ap (λ x. same x b) e ∙ same_itself b))))

-- goal g is paired with box k, and the other goals are paired as before
pub record IsRematched (PairsBefore : Cell → Cell → Type 0) (g k : Cell) (Pairs : Cell → Cell → Type 0) : Type 0 where
  pub here : Pairs g k
  pub only : (b : Cell) → Pairs g b → b ≡ k
  pub was : (h b : Cell) → h ≢ g → Pairs h b → PairsBefore h b
  pub kept : (h b : Cell) → h ≢ g → PairsBefore h b → Pairs h b

-- without the pairs of the freed goal, the pairs are a matching of these boxes
pub record IsFreed (level : Level) (matched : Cells) (Pairs : Cell → Cell → Type 0) (freed : Cell) : Type 0 where
  pub here : Has level.goals freed
  pub goal : (g b : Cell) → g ≢ freed → Pairs g b → Has level.goals g
  pub box : (g b : Cell) → g ≢ freed → Pairs g b → Has matched b
  pub reach : (g b : Cell) → g ≢ freed → Pairs g b → InReach level b g
  pub one_box : (g b c : Cell) → Pairs g b → Pairs g c → b ≡ c
  pub one_goal : (g h b : Cell) → g ≢ freed → h ≢ freed → Pairs g b → Pairs h b → g ≡ h
  pub each : (b : Cell) → Has matched b → (g : Cell) × (g ≢ freed) × Pairs g b

-- a goal that is paired with no box is freed
pub freed_start : (level : Level) (matched : Cells) (Pairs : Cell → Cell → Type 0) (free : Cell) → IsMatching level matched Pairs → Has level.goals free
    → ((b : Cell) → Pairs free b → ⊥) → IsFreed level matched Pairs free
freed_start level matched Pairs free valid goal unmatched = record {
  here = goal;
  goal = λ g b _ pair. valid.goal g b pair;
  box = λ g b _ pair. valid.box g b pair;
  reach = λ g b _ pair. valid.reach g b pair;
  one_box = valid.one_box;
  one_goal = λ g h b _ _ p q. valid.one_goal g h b p q;
  each = λ b has. let (g, pair) = valid.each b has in (g, λ e. unmatched b (rw e at pair), pair);
}

module _ (level : Level) (matched : Cells) (PairsBefore Pairs : Cell → Cell → Type 0) (one_box : (g b c : Cell) → Pairs g b → Pairs g c → b ≡ c)
    (freed k : Cell) (before : IsFreed level matched PairsBefore freed) (after : IsRematched PairsBefore freed k Pairs) (near : InReach level k freed) where
  -- if a box gets the freed goal, its goal before is freed
  pub freed_next : (next : Cell) → next ≢ freed → PairsBefore next k → IsFreed level matched Pairs next
  freed_next next other paired = record {
    here = before.goal next k other paired;
    goal = λ g b _ pair. is_or_other g freed (λ e. rw e before.here) (λ ne. before.goal g b ne (after.was g b ne pair));
    box = λ g b _ pair. is_or_other g freed
        (λ e. rw (after.only b (subst (λ (x : Cell). Pairs x b) e pair)) (before.box next k other paired))
        (λ ne. before.box g b ne (after.was g b ne pair));
    reach = λ g b _ pair. is_or_other g freed
        (λ e. rw (e, after.only b (subst (λ (x : Cell). Pairs x b) e pair)) near)
        (λ ne. before.reach g b ne (after.was g b ne pair));
    one_box = one_box;
    one_goal = λ g h b g_ne h_ne p q. is_or_other g freed
        (λ e. is_or_other h freed (λ f. e ∙ sym f) (λ h_other.
        absurd (h_ne (before.one_goal h next b h_other other (after.was h b h_other q)
        (rw (after.only b (subst (λ (x : Cell). Pairs x b) e p)) paired)))))
        (λ g_other. is_or_other h freed
        (λ f. absurd (g_ne (before.one_goal g next b g_other other (after.was g b g_other p)
        (rw (after.only b (subst (λ (x : Cell). Pairs x b) f q)) paired))))
        (λ h_other. before.one_goal g h b g_other h_other (after.was g b g_other p) (after.was h b h_other q)));
    each = λ b has.
        let (g, g_ne, paired_g) = before.each b has in
        is_or_other g next {G = (g : Cell) × (g ≢ next) × Pairs g b}
        (λ e. (
          freed,
          λ f. other (sym f),
          rw (before.one_box next k b paired (subst (λ (x : Cell). PairsBefore x b) e paired_g)) at after.here,
        ))
        (λ ne. (g, ne, after.kept g b g_ne paired_g));
  }

  -- if the new box gets the freed goal, the pairs are a matching of one box more
  pub all_matched : Lacks matched k → IsMatching level (set.insert matched k) Pairs
  all_matched new = record {
    goal = λ g b pair. is_or_other g freed (λ e. rw e before.here) (λ ne. before.goal g b ne (after.was g b ne pair));
    box = λ g b pair. is_or_other g freed
        (λ e. rw (after.only b (subst (λ (x : Cell). Pairs x b) e pair)) (inserted matched k))
        (λ ne. kept_by_insert matched k b (before.box g b ne (after.was g b ne pair)));
    reach = λ g b pair. is_or_other g freed
        (λ e. rw (e, after.only b (subst (λ (x : Cell). Pairs x b) e pair)) near)
        (λ ne. before.reach g b ne (after.was g b ne pair));
    one_box = one_box;
    one_goal = λ g h b p q. is_or_other g freed
        (λ e. is_or_other h freed (λ f. e ∙ sym f)
        (λ h_other. not_both matched k (rw (after.only b (subst (λ (x : Cell). Pairs x b) e p)) at (before.box h b h_other (after.was h b h_other q))) new))
        (λ g_other. is_or_other h freed
        (λ f. not_both matched k (rw (after.only b (subst (λ (x : Cell). Pairs x b) f q)) at (before.box g b g_other (after.was g b g_other p)))
        new)
        (λ h_other. before.one_goal g h b g_other h_other (after.was g b g_other p) (after.was h b h_other q)));
    each = λ b has. elim (has_insert matched k b has) [
      | inl e ↦ (freed, rw e after.here)
      | inr old ↦ let (g, g_ne, paired_g) = before.each b old in (g, after.kept g b g_ne paired_g)
    ];
  }
