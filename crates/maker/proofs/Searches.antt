-- What a search keeps, and what it shows at its end.
-- No push leads out of the visited cells. So once a box and its reach are visited, each new cell is in the reach of this box. An alternating
-- path leads to the box, and so to each goal among the new cells, and every set that confines the paths has all of them. If at the end each
-- visited goal is matched to a visited box, the visited cells are the least set that confines the paths, which is a Hall violator.
use Rattle.std.proofs.Common.{◌≡◌, ℕ, ◌+◌, ◌<◌, ◌≤◌, List, [], ◌∷◌, ◌++◌, length, get_or, refl, sym, ◌∙◌, ap, subst, inl, inr, arith}
use Rattle.std.specs.Prelude.{◌⊎◌, ◌↔◌, Option, None, Some, vec_capacity}
use Rattle.std.proofs.lemmas.Bool.{cases_lt}
use Rattle.std.specs.FinSet as set
use Rattle.std.proofs.Math.ListN.{length-append}
use Rattle.std.proofs.lemmas.List.{get_or_append_left, get_or_at, get_or_default}
use Rattle.cellset.specs.Shape.{Extent}
use Rattle.cellset.specs.Cell.{IsOn, neighbor}
use Rattle.cellset.specs.SortedList.{index}
use Rattle.cellset.specs.CellSet.{Cells, Has, Lacks}
use Rattle.cellset.specs.declared.cell.Cell.{Cell}
use Rattle.cellset.proofs.Members.{not_both, has_empty, lacks_where, kept_by_remove, has_remove, same_members}
use Rattle.cellset.proofs.Truth.{either}
use Rattle.reach.specs.Reached.{Reached, at_seed, by_step, PushesTo, IsClosedUnder}
use Rattle.certificates.proofs.Counts.{len-remove_member}
use Rattle.board.specs.Game.{Level, IsFloor}
use Rattle.board.specs.Board.{IsWellFormed}
use Rattle.maker.specs.Matching.{InReach, IsHallViolator}
use Rattle.maker.specs.Search.{Pairs, IsPaired, IsFreeGoal, no_visit, visit_at, cell_visited, IsTraced, AreTraced, IsFound, AreListed, IsLonger, IsListing, IsSearch, IsNext, VisitsBox, IsFurther}
use Rattle.maker.specs.declared.zones.search.Visit.{Visit}
use Rattle.maker.specs.declared.zones.search.Search.{Search}
use Rattle.maker.proofs.Flipped.{is_or_other}
use Rattle.maker.proofs.Hubs.{pushed_inside}
use Rattle.maker.proofs.Living.{beside_room}

-- ---- one goal more in the list
last_visit : (found : List Visit) (v : Visit) → visit_at (found ++ v ∷ []) (length found) ≡ v
last_visit found v = search (get_or_at)

earlier_visit : (found : List Visit) (v : Visit) (i : ℕ) → i < length found → visit_at (found ++ v ∷ []) i ≡ visit_at found i
earlier_visit found v i h = search (get_or_append_left)

-- each visit of the longer list is an earlier one or the last
each_visit : {G : Type 0} (found : List Visit) (v : Visit) (i : ℕ) → i < length (found ++ v ∷ [])
    → (i < length found → visit_at (found ++ v ∷ []) i ≡ visit_at found i → G)
    → (i ≡ length found → visit_at (found ++ v ∷ []) i ≡ v → G) → G
each_visit {G} found v i h earlier last = elim (cases_lt i (length found)) [
  | inl less ↦ earlier less (earlier_visit found v i less)
  | inr ge ↦ let more = length-append found (v ∷ []) in let e : i ≡ length found = omega arith in
      last e (rw e (last_visit found v))
]

module _ (found : List Visit) (left left' : Cells) (v : Visit) (has : Has left v.cell)
    (without : (q : Cell) → Has left' q ↔ (Has left q × (q ≡ v.cell → ⊥))) where
  abbrev more : List Visit
  more = found ++ v ∷ []

  pub one_less : set.len left ≡ set.len left' + 1
  one_less =
      let same : set.remove left v.cell ≡ left' = same_members _ _
      (λ q h. let old = has_remove left v.cell q h in (without q).1 (old.1, λ e. old.0 e))
      (λ q h. let old = (without q).0 h in kept_by_remove left v.cell q old.1 old.0) in
      len-remove_member left v.cell has ∙ ap (λ (s : Cells). set.len s + 1) same

  gone : Lacks left' v.cell
  gone = lacks_where left' v.cell (λ h. ((without v.cell).0 h).1 refl)

  pub listed_more : (goals : Cells) → AreListed goals found left → AreListed goals more left'
  listed_more goals listed = record {
    rest = λ g h. listed.rest g ((without g).0 h).0;
    goal = λ i h. each_visit found v i h
        (λ less is. subst (λ (x : Visit). Has goals x.cell × Lacks left' x.cell) (sym is)
        ((listed.goal i less).0, lacks_where left' _ (λ h. not_both left _ ((without _).0 h).0 (listed.goal i less).1)))
        (λ e is. subst (λ (x : Visit). Has goals x.cell × Lacks left' x.cell) (sym is) (listed.rest v.cell has, gone));
    once = λ i j less h. each_visit found v j h
        (λ below is. let i_below : i < length found = omega arith in
        λ e. listed.once i j less below (ap (λ (x : Visit). x.cell) (sym (earlier_visit found v i i_below)) ∙ (e ∙ ap (λ (x : Visit). x.cell) is)))
        (λ last is. let i_below : i < length found = omega arith in
        λ e. not_both left v.cell has (subst (Lacks left)
        (ap (λ (x : Visit). x.cell) (sym (earlier_visit found v i i_below)) ∙ (e ∙ ap (λ (x : Visit). x.cell) is)) (listed.goal i i_below).1));
    all = λ g h. either (listed.all g h)
        (λ there. is_or_other g v.cell {G = Has left' g ⊎ IsFound more g}
        (λ e. inr (length found, let longer = length-append found (v ∷ []) in omega arith, ap (λ (x : Visit). x.cell) (last_visit found v) ∙ sym e))
        (λ ne. inl ((without g).1 (there, ne))))
        (λ (i, less, is). inr (i, let longer = length-append found (v ∷ []) in omega arith, ap (λ (x : Visit). x.cell) (earlier_visit found v i less) ∙ is));
    count = let longer = length-append found (v ∷ []) in let fewer = one_less in let count = listed.count in omega arith;
  }

  pub longer_more : (visited start : Cells) (via : Option ℕ) (first : List Visit) → IsLonger visited start via first found → Has visited v.cell
      → Has start v.cell → v.via ≡ via → IsLonger visited start via first more
  longer_more visited start via first longer seen was is_via =
      let one = length-append found (v ∷ []) in
      let length_before = longer.longer in
      record {
        longer = omega arith;
        same = λ i less. earlier_visit found v i (omega arith) ∙ longer.same i less;
        new = λ i late h. each_visit found v i h
            (λ less is. subst (λ (x : Visit). Has visited x.cell × Has start x.cell × (x.via ≡ via)) (sym is) (longer.new i late less))
            (λ e is. subst (λ (x : Visit). Has visited x.cell × Has start x.cell × (x.via ≡ via)) (sym is) (seen, was, is_via));
      }

-- the visited goals of the rows before a row are listed, and the others are left
pub record IsPartlyListed (via : Option ℕ) (first s : Search) (row : ℕ) : Type 0 where
  pub left_on : s.left.extent ≡ first.left.extent
  pub visited : s.visited ≡ first.visited
  pub goals : s.goals ≡ first.goals
  pub capacity : vec_capacity s.found ≡ vec_capacity first.found
  pub space : length s.found.items + set.len s.left.members ≤ vec_capacity s.found
  pub kept : (c : Cell) → Has s.left.members c → Has first.left.members c
  pub listed : (goals : Cells) → AreListed goals first.found.items first.left.members → AreListed goals s.found.items s.left.members
  pub longer : IsLonger first.visited.members first.left.members via first.found.items s.found.items
  pub below : (c : Cell) → Has first.visited.members c → Has s.left.members c → row ≤ c.row

module _ (via : Option ℕ) (first s s' : Search) (row : ℕ) (cell : Cell) (partly : IsPartlyListed via first s row) (seen : Has s.visited.members cell)
    (has : Has s.left.members cell) (same_visited : s'.visited ≡ s.visited) (same_goals : s'.goals ≡ s.goals) (left_on : s'.left.extent ≡ s.left.extent)
    (capacity : vec_capacity s'.found ≡ vec_capacity s.found) (items : s'.found.items ≡ s.found.items ++ record { cell = cell; via = via } ∷ [])
    (without : (q : Cell) → Has s'.left.members q ↔ (Has s.left.members q × (q ≡ cell → ⊥))) where
  abbrev visit : Visit
  visit = record { cell = cell; via = via }

  pub partly_more : IsPartlyListed via first s' row
  partly_more = record {
    left_on = left_on ∙ partly.left_on;
    visited = same_visited ∙ partly.visited;
    goals = same_goals ∙ partly.goals;
    capacity = capacity ∙ partly.capacity;
    space =
        let longer = ap length items in
        let one = length-append s.found.items (visit ∷ []) in
        let fewer = one_less s.found.items s.left.members s'.left.members visit has without in
        let before = partly.space in
        omega arith;
    kept = λ c h. partly.kept c ((without c).0 h).0;
    listed = λ goals l. rw items (listed_more s.found.items s.left.members s'.left.members visit has without goals (partly.listed goals l));
    longer = rw items (longer_more s.found.items s.left.members s'.left.members visit has without first.visited.members first.left.members via
        first.found.items partly.longer (rw partly.visited at seen) (partly.kept cell has) refl);
    below = λ c there h. partly.below c there ((without c).0 h).0;
  }

-- once no visited goal of a row is left, those of the rows before the next row are listed
pub partly_next : (via : Option ℕ) (first s : Search) (row : ℕ) → IsPartlyListed via first s row
    → ((c : Cell) → Has s.visited.members c → Has s.left.members c → c.row ≡ row → ⊥) → IsPartlyListed via first s (row + 1)
partly_next via first s row partly none = record {
  left_on = partly.left_on;
  visited = partly.visited;
  goals = partly.goals;
  capacity = partly.capacity;
  space = partly.space;
  kept = partly.kept;
  listed = partly.listed;
  longer = partly.longer;
  below = λ c there h.
      let late = partly.below c there h in
      elim (cases_lt row c.row) [
        | inl later ↦ omega arith
        | inr early ↦ absurd (none c (rw partly.visited there) h (omega arith))
      ];
}

-- ---- alternating paths
module _ (level : Level) (matching : List (Option Cell)) (start : Cell) where
  traced_near : (found : List Visit) (i : ℕ) (c g : Cell) (via : Option ℕ) → InReach level c g → IsTraced level matching start found i c via
      → IsTraced level matching start found i g via
  traced_near found i c g None near traced = λ zone closed h. near zone closed (traced zone closed h)
  traced_near found i c g (Some j) near (less, b, pair, reach) = (less, b, pair, λ zone closed h. near zone closed (reach zone closed h))

  pub traced_later : (found : List Visit) (i n : ℕ) (c : Cell) (via : Option ℕ) → i ≤ n → IsTraced level matching start found i c via
      → IsTraced level matching start found n c via
  traced_later found i n c None up traced = traced
  traced_later found i n c (Some j) up (less, b, pair, reach) = (omega arith, b, pair, reach)

  traced_longer : (found found' : List Visit) (i : ℕ) (c : Cell) (via : Option ℕ) → i ≤ length found
      → ((j : ℕ) → j < length found → visit_at found' j ≡ visit_at found j) → IsTraced level matching start found i c via
      → IsTraced level matching start found' i c via
  traced_longer found found' i c None up same traced = traced
  traced_longer found found' i c (Some j) up same (less, b, pair, reach) =
      (less, b, subst (λ (x : Visit). Pairs level.shape matching x.cell b) (sym (same j (omega arith))) pair, reach)

-- ---- a box and its reach are visited
module _ (level : Level) (formed : IsWellFormed level) (visited : Cells) (closed : IsClosedUnder (PushesTo (Has level.room)) (Has visited)) (cell : Cell)
    (Seed : Cell → Type 0) (seed : (q : Cell) → Seed q → Has visited q ⊎ (q ≡ cell)) where
  grown_cases : (c : Cell) → Reached (PushesTo (Has level.room)) Seed c → Has visited c ⊎ InReach level cell c
  grown_cases c (at_seed h) = either (seed c h) (λ old. inl old) (λ e. inr (rw e (λ zone closed inside. inside)))
  grown_cases c (by_step b before p) = either (grown_cases b before)
      (λ old. inl (closed b c old p))
      (λ near. inr (λ zone shut h. pushed_inside level formed zone b c shut p (near zone shut h)))

  pub grown_floor : ((q : Cell) → Has visited q → IsFloor level q) → IsFloor level cell → (c : Cell) → Reached (PushesTo (Has level.room)) Seed c
      → IsFloor level c
  grown_floor old here c (at_seed h) = either (seed c h) (λ was. old c was) (λ e. rw e here)
  grown_floor old here c (by_step b before p) = formed.room c p.ahead

  -- if no push leads on from the cell, no more is reached
  pub not_grown : ((c : Cell) → PushesTo (Has level.room) cell c → Has visited c) → (c : Cell) → Reached (PushesTo (Has level.room)) Seed c
      → Has visited c ⊎ (c ≡ cell)
  not_grown here c (at_seed h) = seed c h
  not_grown here c (by_step b before p) = either (not_grown here b before)
      (λ old. inl (closed b c old p))
      (λ e. inl (here c (rw e at p)))

-- a list is no shorter than itself
pub not_longer : (visited left : Cells) (via : Option ℕ) (found : List Visit) → IsLonger visited left via found found
not_longer visited left via found = record { longer = omega arith; same = λ i h. refl; new = λ i late h. absurd (omega arith) }

module _ (level : Level) (formed : IsWellFormed level) (old new : Search) (cell : Cell) (via : Option ℕ) (Seed : Cell → Type 0)
    (seeds : (q : Cell) → Seed q ↔ (Has old.visited.members q ⊎ (q ≡ cell)))
    (grown : (q : Cell) → Has new.visited.members q ↔ Reached (PushesTo (Has level.room)) Seed q)
    (listing : IsListing level old) (floor : IsFloor level cell) (listed : AreListed level.goals new.found.items new.left.members)
    (longer : IsLonger new.visited.members old.left.members via old.found.items new.found.items)
    (unseen : (g : Cell) → Has new.left.members g → Lacks new.visited.members g) where
  kept : (q : Cell) → Has old.visited.members q → Has new.visited.members q
  kept q h = (grown q).1 (at_seed ((seeds q).1 (inl h)))

  pub reach_further : IsFurther old new
  reach_further = record { kept = kept; longer = longer.longer; same = longer.same }

  pub reach_here : Has new.visited.members cell
  reach_here = (grown cell).1 (at_seed ((seeds cell).1 (inr refl)))

  -- a visit of the longer list is an earlier one or a new one
  old_or_new : {G : Type 0} (i : ℕ) → (i < length old.found.items → G) → (length old.found.items ≤ i → G) → G
  old_or_new i if_old if_new = elim (cases_lt i (length old.found.items)) [ inl less ↦ if_old less | inr late ↦ if_new late ]

  pub reach_listing : IsListing level new
  reach_listing = record {
    floor = λ q h. grown_floor level formed old.visited.members listing.closed cell Seed (λ q s. (seeds q).0 s) listing.floor floor q ((grown q).0 h);
    closed = λ b c h push. (grown c).1 (by_step b ((grown b).0 h) push);
    listed = listed;
    visited = λ i h. old_or_new i
        (λ less. subst (λ (x : Visit). Has new.visited.members x.cell) (sym (longer.same i less)) (kept _ (listing.visited i less)))
        (λ late. (longer.new i late h).0);
    unseen = unseen;
  }

  new_cases : (q : Cell) → Has new.visited.members q → Has old.visited.members q ⊎ InReach level cell q
  new_cases q h = grown_cases level formed old.visited.members listing.closed cell Seed (λ q s. (seeds q).0 s) q ((grown q).0 h)

  pub reach_search : VisitsBox level old cell via new
  reach_search matching start is_search next = record {
    least = λ zone q confines h. either (new_cases q h)
        (λ was. is_search.least zone q confines was)
        (λ near. near zone confines.closed (next.confined zone confines));
    traced = λ i h. old_or_new i
        (λ less. subst (λ (x : Visit). IsTraced level matching start new.found.items i x.cell x.via) (sym (longer.same i less))
        (traced_longer level matching start old.found.items new.found.items i _ _ (omega arith) longer.same (is_search.traced i less)))
        (λ late.
        let (seen, was, is_via) = longer.new i late h in
        let near : InReach level cell (cell_visited new.found.items i) = either (new_cases _ seen)
        (λ there. not_both old.visited.members _ there (listing.unseen _ was)) (λ near. near) in
        subst (λ (v : Option ℕ). IsTraced level matching start new.found.items i (cell_visited new.found.items i) v) (sym is_via)
        (traced_later level matching start new.found.items (length old.found.items) i _ via late
        (traced_longer level matching start old.found.items new.found.items (length old.found.items) _ via (omega arith) longer.same
        (traced_near level matching start old.found.items (length old.found.items) cell _ via near next.traced))));
  }

-- ---- the end
module _ (level : Level) (formed : IsWellFormed level) (matching : List (Option Cell)) (start : Cell) (s : Search)
    (listing : IsListing level s) (is_search : IsSearch level matching start s) (begins : Has s.visited.members start)
    (goals : (g b : Cell) → Pairs level.shape matching g b → Has level.goals g)
    (paired : (i : ℕ) → i < length s.found.items → IsPaired level.shape matching (cell_visited s.found.items i))
    (boxes : (i : ℕ) (b : Cell) → i < length s.found.items → Pairs level.shape matching (cell_visited s.found.items i) b
    → Has s.visited.members b) where
  goal_found : (g : Cell) → Has s.visited.members g → Has level.goals g → IsFound s.found.items g
  goal_found g seen goal = either (listing.listed.all g goal)
      (λ left. not_both s.visited.members g seen (listing.unseen g left))
      (λ is. is)

  -- if each found goal is matched to a visited box, the visited cells are a Hall violator
  pub search_violator : IsHallViolator level (Pairs level.shape matching) start s.visited.members
  search_violator = record {
    confines = record {
      closed = λ x d leak. not_both s.visited.members (neighbor x d) (listing.closed x (neighbor x d) leak.inside (record {
        dir = d;
        next = refl;
        behind = leak.behind;
        ahead = formed.goes_on x d (beside_room level formed x d (listing.floor x leak.inside) leak.behind) leak.ahead;
      })) leak.outside;
      begins = begins;
      boxes = λ g b seen pair.
          let (i, less, is) = goal_found g seen (goals g b pair) in
          boxes i b less (rw is pair);
    };
    paired = λ g seen goal. let (i, less, is) = goal_found g seen goal in rw is at (paired i less);
    floor = listing.floor;
    least = λ other c confines h. is_search.least other c confines h;
  }

-- ---- the beginning
module _ (level : Level) (s : Search) (none : s.visited.members ≡ set.empty) (empty : s.found.items ≡ []) (left : s.left.members ≡ level.goals) where
  no_visits : (i : ℕ) → i < length s.found.items → ⊥
  no_visits i h = let e = ap length empty in omega arith

  not_visited : (q : Cell) → Has s.visited.members q → ⊥
  not_visited q h = has_empty q (rw none at h)

  pub listing_first : IsListing level s
  listing_first = record {
    floor = λ q h. absurd (not_visited q h);
    closed = λ b c h push. absurd (not_visited b h);
    listed = record {
      rest = λ g h. rw left at h;
      goal = λ i h. absurd (no_visits i h);
      once = λ i j less h. absurd (no_visits j h);
      all = λ g h. inl (rw left h);
      count = let none_found = ap length empty in let all_left = ap set.len left in omega arith;
    };
    visited = λ i h. absurd (no_visits i h);
    unseen = λ g h. lacks_where s.visited.members g (not_visited g);
  }

  pub search_first : (matching : List (Option Cell)) (start : Cell) → IsSearch level matching start s
  search_first matching start = record {
    least = λ zone q confines h. absurd (not_visited q h);
    traced = λ i h. absurd (no_visits i h);
  }

-- an alternating path leads to the first box
pub next_first : (level : Level) (matching : List (Option Cell)) (start : Cell) (s : Search) → IsNext level matching start s start None
next_first level matching start s = record { confined = λ zone confines. confines.begins; traced = λ zone closed h. h }

-- an alternating path leads to the box matched to a found goal
pub next_matched : (level : Level) (matching : List (Option Cell)) (start : Cell) (s : Search) (at : ℕ) (b : Cell) → IsListing level s
    → IsSearch level matching start s → at < length s.found.items → Pairs level.shape matching (cell_visited s.found.items at) b
    → IsNext level matching start s b (Some at)
next_matched level matching start s at b listing is_search within pair = record {
  confined = λ zone confines. confines.boxes _ b (is_search.least zone _ confines (listing.visited at within)) pair;
  traced = (within, b, pair, λ zone closed h. h);
}

-- the found goals are on the grid, and alternating paths lead to them
pub search_traced : (level : Level) (matching : List (Option Cell)) (start : Cell) (s : Search) → IsListing level s → IsSearch level matching start s
    → AreTraced level matching start s.found.items
search_traced level matching start s listing is_search = record {
  on = λ i h. (listing.floor _ (listing.visited i h)).0;
  once = listing.listed.once;
  traced = is_search.traced;
}

-- ---- the table as the code reads it
module _ (level : Level) (s : Extent) (matching : List (Option Cell)) (found : List Visit) (at : ℕ) (v : Visit) (i : ℕ) (entry : Option Cell)
    (read : v ≡ get_or found at v) (within : at < length found) (is_shape : s ≡ level.shape) (is_index : i ≡ index s v.cell) (below : i < length matching)
    (is_entry : entry ≡ get_or matching i entry) (on : IsOn level.shape (cell_visited found at)) where
  pub read_visit : v ≡ visit_at found at
  read_visit = read ∙ get_or_default found at v no_visit within

  at_goal : i ≡ index level.shape (cell_visited found at)
  at_goal = is_index ∙ (ap (λ (x : Extent). index x v.cell) is_shape ∙ ap (λ (x : Visit). index level.shape x.cell) read_visit)

  at_entry : entry ≡ get_or matching (index level.shape (cell_visited found at)) None
  at_entry = is_entry ∙ (get_or_default matching i entry None below ∙ ap (λ (n : ℕ). get_or matching n None) at_goal)

  pub read_pair : (b : Cell) → entry ≡ Some b → Pairs level.shape matching (cell_visited found at) b
  read_pair b is = record { on = on; entry = sym at_entry ∙ is }

  pub read_free : entry ≡ None → Has level.goals (cell_visited found at) → IsFreeGoal level matching v.cell
  read_free is goal = subst (IsFreeGoal level matching) (ap (λ (x : Visit). x.cell) (sym read_visit))
      (record { on = on; goal = goal; unmatched = sym at_entry ∙ is })

-- ---- the loop over the list
-- the matched boxes of the first goals are visited
abbrev pub AreBoxesVisited : Level → List (Option Cell) → Search → ℕ → Type 0
AreBoxesVisited level matching s at =
    (i : ℕ) (b : Cell) → i < at → i < length s.found.items → Pairs level.shape matching (cell_visited s.found.items i) b → Has s.visited.members b

pub boxes_more : (level : Level) (matching : List (Option Cell)) (s s' : Search) (at : ℕ) → at < length s.found.items → IsFurther s s'
    → AreBoxesVisited level matching s at
    → ((b : Cell) → Pairs level.shape matching (cell_visited s.found.items at) b → Has s'.visited.members b) → AreBoxesVisited level matching s' (at + 1)
boxes_more level matching s s' at within further before here i b below less pair =
    let same : visit_at s'.found.items i ≡ visit_at s.found.items i = further.same i (omega arith) in
    let pair_before : Pairs level.shape matching (cell_visited s.found.items i) b = subst (λ (x : Visit). Pairs level.shape matching x.cell b) same pair in
    elim (cases_lt i at) [
      | inl earlier ↦ further.kept b (before i b earlier (omega arith) pair_before)
      | inr late ↦ let e : i ≡ at = omega arith in here b (subst (λ (n : ℕ). Pairs level.shape matching (cell_visited s.found.items n) b) e pair_before)
    ]

-- the goals of a longer list are matched, if those of the list and the new ones are
pub paired_more : (level : Level) (matching : List (Option Cell)) (s s' : Search) → IsFurther s s'
    → ((i : ℕ) → i < length s.found.items → IsPaired level.shape matching (cell_visited s.found.items i))
    → ((i : ℕ) → length s.found.items ≤ i → i < length s'.found.items → IsPaired level.shape matching (cell_visited s'.found.items i))
    → (i : ℕ) → i < length s'.found.items → IsPaired level.shape matching (cell_visited s'.found.items i)
paired_more level matching s s' further before new i h = elim (cases_lt i (length s.found.items)) [
  | inl less ↦ subst (λ (x : Visit). IsPaired level.shape matching x.cell) (sym (further.same i less)) (before i less)
  | inr late ↦ new i late h
]
