-- The list of the pushes that are left, which is what contracts see of an iterator of pushes: of the region's cells with each direction,
-- those that pass a test.
-- The cells come in reading order and the directions in theirs, so all that is tried is in the order of pushes, and what passes too. Each push
-- out of the region is tried, since its player is in the region, and something tried passes exactly if it is a push out.
-- `next` needs no lemma: a call takes the front of what is left to try, and the test decides whether that is given or dropped.
use Rattle.std.proofs.Common.{◌≡◌, true, List, [], ◌∷◌, None, refl, ap, subst, arith, rules, tests}
use Rattle.std.proofs.lemmas.Cmp.{tied_itself}
use Rattle.std.proofs.lemmas.List.Kept.{IsStrictlySortedBy-filter}
use Rattle.std.specs.List.{AllByRecursion, Contains}
use Rattle.std.proofs.lemmas.List.Elements.{Contains-append_cases, Contains-append_left, Contains-append_right}
use Rattle.std.specs.List.Sorted.{IsStrictlySortedBy}
use Rattle.std.specs.declared.cmp.Ordering.TheVariants.{Less}
use Rattle.std.specs.Ordering.{nat_cmp}
use Rattle.cellset.specs.Shape.{Extent}
use Rattle.cellset.specs.Cell.{Before, IsOn, cell_cmp, neighbor}
use Rattle.cellset.specs.CellSet.{Cells, Has}
use Rattle.cellset.specs.Members.{AreMembersOf}
use Rattle.cellset.specs.declared.cell.Cell.{Cell}
use Rattle.cellset.specs.declared.dir.Dir.{Dir}
use Rattle.cellset.specs.declared.dir.Dir.TheVariants.{L, U, R, D}
use Rattle.cellset.proofs.Members.{cells_total}
use Rattle.cellset.proofs.Filters.{later_in, in_cases, all_of, of_all, filter_kept, filter_from, sorted_append}
use Rattle.cellset.proofs.Truth.{either}
use Rattle.reach.specs.Pushes.{ArePushesOut, IsPushOut, PushBefore, push_by, push_cmp, dir_rank}
use Rattle.reach.specs.PushesLeft.{is_push, pushes_left, tries_from, tries_left}
use Rattle.reach.specs.declared.pushes.Push.{Push}
use Rattle.reach.proofs.PushOrder.{player_before}

-- ---- each of these cells with each direction
dir_before : (c : Cell) (d e : Dir) → nat_cmp (dir_rank d) (dir_rank e) ≡ Less → PushBefore (push_by c d) (push_by c e)
dir_before c d e h = grind (arith, tied_itself, cells_total)

here_sorted : (c : Cell) → IsStrictlySortedBy push_cmp (tries_from c L)
unfolding IsStrictlySortedBy
here_sorted c = search (dir_before)

in_here : (c : Cell) (p : Push) → Contains (tries_from c L) p → p ≡ push_by c p.dir
in_here c p h = grind (arith, of_all)

here_has : (c : Cell) (d : Dir) → Contains (tries_from c L) (push_by c d)
here_has c L = (0, omega arith, refl)
here_has c U = (1, omega arith, refl)
here_has c R = (2, omega arith, refl)
here_has c D = (3, omega arith, refl)

in_tries : (cells : List Cell) (p : Push) → Contains (tries_left None cells) p → (p ≡ push_by p.player p.dir) × Contains cells p.player
in_tries [] p (k, within, is) = absurd (omega arith)
in_tries (c ∷ cells) p h = either (Contains-append_cases (tries_from c L) (tries_left None cells) p h)
    (λ here. grind arith)
    (λ later. let rest = in_tries cells p later in (rest.0, later_in c cells p.player rest.1))

tries_have : (cells : List Cell) (c : Cell) (d : Dir) → Contains cells c → Contains (tries_left None cells) (push_by c d)
tries_have [] c d (k, within, is) = absurd (omega arith)
tries_have (b ∷ cells) c d h = either (in_cases b cells c h)
    (λ e. Contains-append_left (tries_from b L) (tries_left None cells) (push_by c d)
    (subst (λ (q : Cell). Contains (tries_from q L) (push_by c d)) e (here_has c d)))
    (λ later. Contains-append_right (tries_from b L) (tries_left None cells) (push_by c d) (tries_have cells c d later))

tries_sorted : (cells : List Cell) → IsStrictlySortedBy cell_cmp cells → IsStrictlySortedBy push_cmp (tries_left None cells)
unfolding IsStrictlySortedBy
tries_sorted [] s = tt
tries_sorted (c ∷ cells) s = sorted_append push_cmp (tries_from c L) (tries_left None cells) (here_sorted c) (tries_sorted cells s.1)
    (λ a b in_a in_b. player_before a b (rw (ap (λ (q : Push). q.player) (in_here c a in_a)) (of_all (λ y. Before c y) cells b.player s.0 (in_tries cells b in_b).1)))

-- the cells that are tried are on the grid
pub tries_on : {shape : Extent} {region : Cells} {players : List Cell} → AreMembersOf shape region players
    → AllByRecursion (λ p. IsOn shape p.player) (tries_left None players)
tries_on {players = players} members = all_of _ (tries_left None players) (λ p h. members.on p.player (in_tries players p h).1)

module _ {shape : Extent} {walls boxes region : Cells} {players : List Cell} (members : AreMembersOf shape region players) where
  out_of_try : (p : Push) → Contains (tries_left None players) p → is_push shape walls boxes p ≡ true → IsPushOut shape walls boxes (Has region) p
  out_of_try p h t = let is = in_tries players p h in grind arith

  try_of_out : (p : Push) → IsPushOut shape walls boxes (Has region) p → Contains (tries_left None players) p
  try_of_out p out = rw (same p.player p.dir p.from p.to out.next_cell out.cell_behind) at (tries_have players p.player p.dir ((members.exact p.player).1 out.standing))
    where
      same : (c : Cell) (d : Dir) (from to : Cell) → from ≡ neighbor c d → to ≡ neighbor from d
          → ◌≡◌ {A = Push} (push_by c d) (record { player = c; dir = d; from = from; to = to })
      same c d from to e f = cc

  passes : (p : Push) → IsPushOut shape walls boxes (Has region) p → is_push shape walls boxes p ≡ true
  passes p out = search (tests, rules)

  -- from the start the pushes that are left are all pushes out of the region
  pub all_left : ArePushesOut shape walls boxes (Has region) (pushes_left shape walls boxes None players)
  all_left =
      let test = is_push shape walls boxes in
      let tries = tries_left None players in
      record {
        exact = λ p. (
          λ c. let is = filter_from test tries p c in out_of_try p is.0 is.1,
          λ out. filter_kept test tries p (try_of_out p out) (passes p out),
        );
        in_order = IsStrictlySortedBy-filter push_cmp test tries (tries_sorted players members.in_order);
      }
