-- How the largest frozen set is found.
-- All boxes are in the set at the start. A box that isn't held in some direction is in no frozen set, since a box that is held within a
-- smaller set is held within a larger one. So the box leaves the set. Then only its neighbours may no longer be held, and they are queued.
-- When the worklist is empty, every box of the set is held, so the set is frozen, and no box of any frozen set has left it. Four times
-- the size of the set plus the length of the worklist falls with each box that is taken from the worklist, so the loop ends.
use Rattle.std.proofs.Common.{◌≡◌, ◌+◌, ◌≤◌, List, [], ◌∷◌, ◌++◌, length, refl, sym, ◌∙◌, ap, subst, inl, inr, arith}
use Rattle.std.specs.Prelude.{◌⊎◌, ◌↔◌}
use Rattle.std.specs.List.{Contains}
use Rattle.std.specs.FinSet as set
use Rattle.std.proofs.lemmas.List.Elements.{Contains-push_cases}
use Rattle.cellset.specs.Cell.{IsOn, neighbor, opposite}
use Rattle.cellset.specs.CellSet.{Cells, Has, Lacks}
use Rattle.cellset.specs.declared.cell.Cell.{Cell}
use Rattle.cellset.specs.declared.dir.Dir.{Dir}
use Rattle.cellset.specs.declared.dir.Dir.TheVariants.{L, U, R, D}
use Rattle.std.proofs.lemmas.Bool.{false≢true}
use Rattle.cellset.proofs.Members.{has_or_lacks, not_both, same, same_itself, same_or_other, kept_by_remove, has_remove}
use Rattle.board.specs.Game.{Level}
use Rattle.board.specs.Board.{IsWellFormed}
use Rattle.cellset.proofs.Neighbors.{neighbor_back}
use Rattle.cellset.proofs.Truth.{either}
use Rattle.certificates.proofs.Counts.{len-remove_member}
use Rattle.maker.specs.Frozen.{IsHeld, IsFrozen, IsLargestFrozen}
use Rattle.maker.specs.Review.{IsReviewed}

-- What holds a box within a set holds it within a larger one.
pub held_more : (level : Level) (dead few many : Cells) (b : Cell) (d : Dir) → ((c : Cell) → Has few c → Has many c)
    → IsHeld level dead few b d → IsHeld level dead many b d
held_more level dead few many b d within held = grind (arith, either)

-- ---- one box is taken from the worklist
module _ (level : Level) (dead : Cells) (b : Cell) (frozen : Cells) (work : List Cell) where
  -- If the box is held in every direction, nothing has to change.
  pub reviewed_held : ((d : Dir) → IsHeld level dead frozen b d) → IsReviewed level dead b frozen work frozen work
  reviewed_held held = grind (arith, not_both)

  -- If the box isn't held in some direction, it leaves the set, and its neighbours are queued.
  pub reviewed_gone : (work' : List Cell) → Has frozen b → (d : Dir) → (IsHeld level dead frozen b d → ⊥) → ((q : Cell) → Contains work q → Contains work' q)
      → ((d : Dir) → Has (set.remove frozen b) (neighbor b d) → Contains work' (neighbor b d)) → length work' ≤ length work + 4
      → IsReviewed level dead b frozen work (set.remove frozen b) work'
  reviewed_gone work' has d loose waiting around more = record {
    kept = λ q h. (has_remove frozen b q h).1;
    lost = λ q h. same_or_other q b
        (λ e. inr (e, d, loose))
        (λ other. inl (kept_by_remove frozen b q (λ e. false≢true (sym other ∙ (ap (λ x. same x b) e ∙ same_itself b))) h));
    held = λ again. absurd ((has_remove frozen b b again).0 refl);
    waiting = waiting;
    around = λ _ _. around;
    less = let one = len-remove_member frozen b has in omega arith;
  }

-- ---- all boxes, one after another
-- The worklist has every box of the set that may be loose, and the set has every frozen set.
pub record IsThawing (level : Level) (dead frozen : Cells) (work : List Cell) : Type 0 where
  pub boxes : (q : Cell) → Has frozen q → Has level.boxes q
  pub whole : (some : Cells) → IsFrozen level dead some → (q : Cell) → Has some q → Has frozen q
  pub seen : (q : Cell) → Has frozen q → Contains work q ⊎ ((d : Dir) → IsHeld level dead frozen q d)

-- If A or P holds in each direction, then A holds, or P holds in all directions.
each_way : {A : Type 0} {P : Dir → Type 0} → ((d : Dir) → A ⊎ P d) → A ⊎ ((d : Dir) → P d)
each_way {A} {P} f =
    either (f L) (λ a. inl a) (λ l.
    either (f U) (λ a. inl a) (λ u.
    either (f R) (λ a. inl a) (λ r.
    either (f D) (λ a. inl a) (λ b. inr (λ d. elim d as P [ L ↦ l | U ↦ u | R ↦ r | D ↦ b ])))))

-- A step back and one forth lead to the same cell.
forth : (q : Cell) (d : Dir) → 1 ≤ q.row → 1 ≤ q.column → 1 ≤ (neighbor q (opposite d)).row → 1 ≤ (neighbor q (opposite d)).column
    → neighbor (neighbor q (opposite d)) d ≡ q
forth q L row column r c = neighbor_back q R row column
forth q U row column r c = neighbor_back q D row column
forth q R row column r c = neighbor_back q L row column
forth q D row column r c = neighbor_back q U row column

module _ (level : Level) (formed : IsWellFormed level) (dead : Cells) where
  pub thawing_start : (frozen : Cells) (work : List Cell) → ((q : Cell) → Has frozen q ↔ Has level.boxes q)
      → ((q : Cell) → Has frozen q → Contains work q) → IsThawing level dead frozen work
  thawing_start frozen work all waiting = grind arith

  -- A box that was held in a direction still is, unless the box that left was beside it. Then it is queued.
  still_held : (b : Cell) (frozen : Cells) (work : List Cell) (frozen' : Cells) (work' : List Cell) (q : Cell) (d : Dir)
      → IsOn level.shape b → IsReviewed level dead b frozen work frozen' work' → ((c : Cell) → Has frozen c → Has level.boxes c)
      → Has frozen' q → IsHeld level dead frozen q d → Contains work' q ⊎ IsHeld level dead frozen' q d
  still_held b frozen work frozen' work' q d on_b r boxes here held =
      either held
      (λ behind. either behind
      (λ outside. inr (inl (inl outside)))
      (λ box. still_there (neighbor q (opposite d)) box (λ e. q_waits d (behind_is e)) (λ there. inr (inl (inr there)))))
      (λ ahead. either ahead
      (λ wall. inr (inr (inl wall)))
      (λ more. either more
      (λ box. still_there (neighbor q d) box (λ e. q_waits (opposite d) (ahead_is e)) (λ there. inr (inr (inr (inl there)))))
      (λ is_dead. inr (inr (inr (inr is_dead))))))
    where
      on_q : IsOn level.shape q
      on_q = (formed.boxes q (boxes q (r.kept q here))).0

      behind_is : neighbor q (opposite d) ≡ b → neighbor b d ≡ q
      behind_is e =
          let top = rw (← e) at on_b.top in
          let left = rw (← e) at on_b.left in
          subst (λ (x : Cell). neighbor x d ≡ q) e (forth q d on_q.top on_q.left top left)

      ahead_is : neighbor q d ≡ b → neighbor b (opposite d) ≡ q
      ahead_is e = subst (λ (x : Cell). neighbor x (opposite d) ≡ q) e (neighbor_back q d on_q.top on_q.left)

      q_waits : (e : Dir) → neighbor b e ≡ q → Has frozen b → Lacks frozen' b → Contains work' q ⊎ IsHeld level dead frozen' q d
      q_waits e is had gone = inl (rw is at (r.around had gone e (rw is here)))

      still_there : (c : Cell) → Has frozen c → (c ≡ b → Has frozen b → Lacks frozen' b → Contains work' q ⊎ IsHeld level dead frozen' q d)
          → (Has frozen' c → Contains work' q ⊎ IsHeld level dead frozen' q d) → Contains work' q ⊎ IsHeld level dead frozen' q d
      still_there c had if_gone if_there = has_or_lacks frozen' c if_there (λ lacks.
          either (r.lost c had)
          (λ there. not_both frozen' c there lacks)
          (λ gone. if_gone gone.0 (rw gone.0 at had) (rw gone.0 at lacks)))

  pub thawing_more : (b : Cell) (frozen : Cells) (work : List Cell) (frozen' : Cells) (work' : List Cell)
      → IsOn level.shape b → IsThawing level dead frozen (work ++ b ∷ []) → IsReviewed level dead b frozen work frozen' work'
      → IsThawing level dead frozen' work'
  thawing_more b frozen work frozen' work' on_b t r = record {
    boxes = λ q h. t.boxes q (r.kept q h);
    whole = λ some hold q h. either (r.lost q (t.whole some hold q h))
        (λ there. there)
        (λ gone.
        let held = rw gone.0 at (hold.held q gone.1 h) in
        absurd (gone.2 (held_more level dead some frozen b gone.1 (t.whole some hold) held)));
    seen = λ q h. either (t.seen q (r.kept q h))
        (λ waits. either (Contains-push_cases work b q waits)
        (λ still. inl (r.waiting q still))
        (λ is. inr (rw is at (r.held (rw is h)))))
        (λ held. each_way (λ d. still_held b frozen work frozen' work' q d on_b r t.boxes h (held d)));
  }

  -- With an empty worklist the set is the largest frozen one.
  pub thawing_end : (frozen : Cells) (work : List Cell) → length work ≡ 0 → IsThawing level dead frozen work → IsLargestFrozen level dead frozen
  thawing_end frozen work none t c = (
    (λ h. (frozen, record { boxes = t.boxes; held = λ b d has. either (t.seen b has) (λ (k, within, is). absurd (omega arith)) (λ held. held d) }, h)),
    (λ (some, hold, h). t.whole some hold c h),
  )
