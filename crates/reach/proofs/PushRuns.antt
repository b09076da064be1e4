-- What a loop over the pushes out of a region has seen.
-- An iterator is seen as the list of the pushes that are left, and each call takes its front, so the pushes that came
-- so far and those that are left make up the whole list.
-- That list holds exactly the pushes out of the region, in their order: so each one that came is a push out, those
-- that are before the next one all came, and once none is left every push out has come.
use Rattle.std.proofs.Common.{◌≡◌, List, [], ◌∷◌, ◌++◌, Some, None, sym, ◌∙◌, ap}
use Rattle.std.proofs.lemmas.List.{append-nil}
use Rattle.std.specs.List.{Contains}
use Rattle.std.specs.Iterator.{Yields, YieldsFirst}
use Rattle.cellset.specs.Shape.{Extent}
use Rattle.cellset.specs.CellSet.{Cells}
use Rattle.cellset.specs.declared.cell.Cell.{Cell}
use Rattle.reach.specs.Pushes.{ArePushesOut, IsPushOut, PushBefore, push_cmp}
use Rattle.reach.specs.declared.pushes.Push.{Push}
use Rattle.std.proofs.lemmas.List.Elements.{Contains-append_right}
use Rattle.cellset.proofs.Filters.{first_in, in_front}
use Rattle.reach.proofs.PushOrder.{push_before_itself, push_before_trans}

-- the pushes that came and those that are left make up the list
pub came_and_left : (pushes came left : List Push) → Yields (YieldsFirst (λ s. s)) pushes came left → pushes ≡ came ++ left
came_and_left pushes [] left run = run
came_and_left pushes (p ∷ came) left (j, first, run) = search (came_and_left j came left run)

module _ {shape : Extent} {walls boxes : Cells} {InRegion : Cell → Type 0} {pushes : List Push} (all : ArePushesOut shape walls boxes InRegion pushes)
    (came left : List Push) (run : Yields (YieldsFirst (λ s. s)) pushes came left) where
  -- the next push is a push out of the region
  pub next_is_out : (p : Push) (rest : List Push) → YieldsFirst (λ s. s) left (Some p) rest → IsPushOut shape walls boxes InRegion p
  next_is_out p rest next =
      (all.exact p).0 (rw (sym (came_and_left pushes came left run ∙ ap (λ r. came ++ r) next)) at (Contains-append_right came (p ∷ rest) p (first_in p rest)))

  -- the pushes out before the next one came already
  pub came_before : (p : Push) (rest : List Push) → YieldsFirst (λ s. s) left (Some p) rest → (q : Push) → IsPushOut shape walls boxes InRegion q
      → PushBefore q p → Contains came q
  came_before p rest next q out early =
      let whole = came_and_left pushes came left run ∙ ap (λ r. came ++ r) next in
      in_front push_cmp (push_before_itself {G = ⊥}) push_before_trans came rest p q (rw whole at all.in_order) (rw whole at ((all.exact q).1 out)) early

  -- at the end every push out has come
  pub all_came : (rest : List Push) → YieldsFirst (λ s. s) left None rest → (q : Push) → IsPushOut shape walls boxes InRegion q → Contains came q
  all_came rest none q out = rw (came_and_left pushes came left run ∙ ap (λ r. came ++ r) none.0 ∙ append-nil came) at ((all.exact q).1 out)
