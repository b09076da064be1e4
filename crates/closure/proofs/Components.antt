-- Cells in one component. The room of a board is in one component. Cells in one component stay so without one of them, if the free neighbours of that
-- cell are joined without it: a chain through the cell comes from one of them and goes on to another. A free corner joins the two
-- neighbours beside it, so all four are joined if each but one is joined to the next.
use Rattle.std.{proofs.Common.◌≡◌, proofs.Common.false, proofs.Common.refl, proofs.Common.sym, proofs.Common.◌∙◌, proofs.Common.ap, proofs.Common.subst, proofs.Common.arith, proofs.lemmas.Bool.false≢true, specs.Prelude.◌↔◌}
use Rattle.cellset.specs.{Shape.Extent, Cell.IsOn, Cell.neighbor, Cell.opposite, CellSet.Has, declared.cell.Cell.Cell, declared.dir.Dir.Dir}
use Rattle.cellset.specs.declared.dir.Dir.TheVariants.{L, U, R, D}
use Rattle.cellset.proofs.{Members.same, Members.same_itself, Members.same_or_other, Neighbors.neighbor_back}
use Rattle.reach.specs.{Region.Joined, Region.at_seed, Region.beside, Reached.Reached, Reached.WalksTo}
use Rattle.reach.proofs.Instances.{joined_is, walked_more}
use Rattle.board.specs.{Game.Level, Game.IsFloor, Board.IsWellFormed}
use Rattle.closure.specs.Around.{AreSidesJoined, IsOneComponent}

-- Cells that don't compare equal are two cells.
pub other_cell : (a b : Cell) → same a b ≡ false → a ≡ b → ⊥
other_cell a b other e = grind (arith, false≢true, same_itself)

-- If the neighbour in the first direction is free, so are the neighbour in the second one and the corner between them.
abbrev pub IsLinked : (Cell → Type 0) → Cell → Dir → Dir → Type 0
IsLinked Free c d e = Free (neighbor c d) → Free (neighbor c e) × Free (neighbor (neighbor c d) e)

-- ---- chains
module _ (Free : Cell → Type 0) where
  abbrev pub IsJoined : Cell → Cell → Type 0
  IsJoined x = Joined Free (λ seed. seed ≡ x)

  pub joined_free : (Seed : Cell → Type 0) (c : Cell) → Joined Free Seed c → Free c
  joined_free Seed c (at_seed seed free) = free
  joined_free Seed c (beside d before free) = free

  pub joined_on : (x y z : Cell) → IsJoined x y → IsJoined y z → IsJoined x z
  joined_on x y z first (at_seed is free) = subst (IsJoined x) (sym is) first
  joined_on x y z first (beside {c = b} d before free) = beside d (joined_on x y b first before) free

  module _ (shape : Extent) (inside : (c : Cell) → Free c → IsOn shape c) where
    pub step_back : (b : Cell) (d : Dir) → Free b → Free (neighbor b d) → IsJoined (neighbor b d) b
    step_back b d here there =
        let back = neighbor_back b d (inside b here).top (inside b here).left in
        subst (IsJoined (neighbor b d)) back (beside (opposite d) (at_seed refl there) (rw back here))

    pub joined_back : (x y : Cell) → IsJoined x y → IsJoined y x
    joined_back x y (at_seed is free) = at_seed (sym is) (rw is at free)
    joined_back x y (beside {c = b} d before free) =
        joined_on (neighbor b d) b x (step_back b d (joined_free (λ seed. seed ≡ x) b before) free) (joined_back x b before)

    -- ---- round a cell
    module _ (c : Cell) where
      -- A free corner joins the two neighbours beside it.
      pub by_corner : (d e : Dir) → neighbor (neighbor c d) e ≡ neighbor (neighbor c e) d → IsLinked Free c d e
          → Free (neighbor c d) → IsJoined (neighbor c d) (neighbor c e)
      by_corner d e same linked free =
          let (next, corner) = linked free in
          joined_on (neighbor c d) (neighbor (neighbor c d) e) (neighbor c e) (beside e (at_seed refl free) corner)
          (rw same (step_back (neighbor c e) d next (rw same at corner)))

      abbrev LeadsTo : Dir → Dir → Type 0
      LeadsTo d e = Free (neighbor c d) → IsJoined (neighbor c d) (neighbor c e)

      -- If each of four neighbours leads to the next one, each leads to the last one.
      to_last : (s t u v : Dir) → LeadsTo s t → LeadsTo t u → LeadsTo u v → LeadsTo s v × LeadsTo t v × LeadsTo u v × LeadsTo v v
      to_last s t u v st tu uv =
          let on : (a b : Dir) → LeadsTo a b → LeadsTo b v → LeadsTo a v =
          λ a b first then free. let to = first free in
          joined_on (neighbor c a) (neighbor c b) (neighbor c v) to (then (joined_free (λ seed. seed ≡ neighbor c a) (neighbor c b) to)) in
          let tv = on t u tu uv in
          (on s t st tv, tv, uv, λ free. at_seed refl free)

      sides_joined : (v : Dir) → LeadsTo L v → LeadsTo U v → LeadsTo R v → LeadsTo D v → AreSidesJoined Free c
      sides_joined v from_l from_u from_r from_d d e free other =
          joined_on (neighbor c d) (neighbor c v) (neighbor c e) (from d free) (joined_back (neighbor c e) (neighbor c v) (from e other))
        where
          from : (d : Dir) → LeadsTo d v
          from L = from_l
          from U = from_u
          from R = from_r
          from D = from_d

      -- Three links in a row join all four neighbours.
      pub gap_last : IsLinked Free c L U → IsLinked Free c U R → IsLinked Free c R D → AreSidesJoined Free c
      gap_last lu ur rd = let (l, u, r, d) = to_last L U R D (by_corner L U refl lu) (by_corner U R refl ur) (by_corner R D refl rd) in sides_joined D l u r d

      pub gap_left : IsLinked Free c U R → IsLinked Free c R D → IsLinked Free c D L → AreSidesJoined Free c
      gap_left ur rd dl = let (u, r, d, l) = to_last U R D L (by_corner U R refl ur) (by_corner R D refl rd) (by_corner D L refl dl) in sides_joined L l u r d

      pub gap_up : IsLinked Free c R D → IsLinked Free c D L → IsLinked Free c L U → AreSidesJoined Free c
      gap_up rd dl lu = let (r, d, l, u) = to_last R D L U (by_corner R D refl rd) (by_corner D L refl dl) (by_corner L U refl lu) in sides_joined U l u r d

      pub gap_right : IsLinked Free c D L → IsLinked Free c L U → IsLinked Free c U R → AreSidesJoined Free c
      gap_right dl lu ur = let (d, l, u, r) = to_last D L U R (by_corner D L refl dl) (by_corner L U refl lu) (by_corner U R refl ur) in sides_joined R l u r d

-- ---- without a cell
module _ (Free New : Cell → Type 0) (k : Cell) (shape : Extent) (inside : (c : Cell) → Free c → IsOn shape c)
    (turn : (c : Cell) → New c ↔ (Free c × (c ≡ k → ⊥))) (sides : AreSidesJoined New k) where
  -- a chain from x to another cell than k goes round k, and one to k comes to each of its free neighbours
  abbrev ComesTo : Cell → Cell → Type 0
  ComesTo x z = ((z ≡ k → ⊥) → IsJoined New x z) × (z ≡ k → (d : Dir) → New (neighbor k d) → IsJoined New x (neighbor k d))

  comes : (x z : Cell) → New x → IsJoined Free x z → ComesTo x z
  comes x z new (at_seed is free) = (λ _. at_seed is (rw is new), λ here. absurd (((turn x).0 new).1 (sym is ∙ here)))
  comes x z new (beside {c = b} d before free) =
      let so_far = comes x b new before in (
        λ other. same_or_other b k
            (λ at. rw at (so_far.1 at d (subst (λ q. New (neighbor q d)) at ((turn (neighbor b d)).1 (free, other)))))
            (λ off. beside d (so_far.0 (other_cell b k off)) ((turn (neighbor b d)).1 (free, other))),
        λ here e next. same_or_other b k
            (λ at. so_far.1 at e next)
            (λ off.
            let before_free = joined_free Free (λ seed. seed ≡ x) b before in
            let is_new = (turn b).1 (before_free, other_cell b k off) in
            let on = inside b before_free in
            let back : neighbor k (opposite d) ≡ b = ap (λ q. neighbor q (opposite d)) (sym here) ∙ neighbor_back b d on.top on.left in
            joined_on New x b (neighbor k e) (so_far.0 (other_cell b k off))
            (rw back at (sides (opposite d) e (rw back is_new) next))),
      )

  pub one_component_without : IsOneComponent Free → IsOneComponent New
  one_component_without whole x y from to =
      let to_free = (turn y).0 to in
      (comes x y from (whole x y ((turn x).0 from).0 to_free.0)).0 to_free.1

-- ---- the room of a board is in one component
module _ (level : Level) (formed : IsWellFormed level) where
  from_player : (c : Cell) → Joined (IsFloor level) (λ seed. seed ≡ level.player) c → IsJoined (Has level.room) level.player c
  from_player c (at_seed is floor) = at_seed is (rw is formed.here)
  from_player c (beside {c = b} d before floor) =
      let chain = from_player b before in
      beside d chain (formed.goes_on b d (joined_free (Has level.room) (λ seed. seed ≡ level.player) b chain) floor)

  pub room_is_one : IsOneComponent (Has level.room)
  room_is_one x y from to =
      joined_on (Has level.room) x level.player y
      (joined_back (Has level.room) level.shape (λ c has. (formed.room c has).0) level.player x (from_player x (formed.joined x from)))
      (from_player y (formed.joined y to))

-- ---- what is in one component is reached from each of its cells
pub reached_whole : (Free Begins : Cell → Type 0) → IsOneComponent Free → (x : Cell) → Begins x → Free x → (c : Cell) → Free c → Reached (WalksTo Free) Begins c
reached_whole Free Begins whole x begun free c to =
    walked_more Free Free (λ q. (q ≡ x) × Free q) Begins (λ _ h. h) (λ q both. rw both.0 begun) c ((joined_is Free (λ q. q ≡ x) c).0 (whole x c free to))
