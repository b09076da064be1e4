-- Why the list that is put together is the list that the definitions describe.
-- If a box is on a dead square, the patterns of the dead squares are the list. If none is, and a frozen box is off the goals, they are
-- its beginning. Dead squares and boxes lie on the grid, so a text can spell each of them, and there are at most as many of them as
-- the largest grid has cells.
use Rattle.std.proofs.Common.{◌≡◌, zero, suc, ◌≤◌, true, false, List, [], ◌∷◌, ◌++◌, length, refl, sym, ◌∙◌, ap, subst, inl, inr, arith}
use Rattle.std.specs.Prelude.{◌⊎◌, map}
use Rattle.std.specs.FinSet as set
use Rattle.std.specs.FinSet.{items}
use Rattle.std.specs.List.{Contains, AllByRecursion}
use Rattle.std.proofs.lemmas.Bool.{false≢true}
use Rattle.std.proofs.Math.ListN.{length-append}
use Rattle.std.proofs.lemmas.List.{append-nil, length-map}
use Rattle.std.proofs.Math.Nat.{mul-le-mul_left}
use Rattle.std.proofs.lemmas.List.Elements.{Contains-append_right}
use Rattle.cellset.specs.Shape.{Extent, HasSides}
use Rattle.cellset.specs.Cell.{IsOn}
use Rattle.cellset.specs.CellSet.{Cells, Has, Lacks}
use Rattle.cellset.specs.declared.cell.Cell.{Cell}
use Rattle.cellset.proofs.Members.{cells_total, has_empty, has_or_lacks, not_both, inserted, kept_by_insert, has_item, item_has, has_only}
use Rattle.cellset.proofs.ReadingOrder.{len_on_grid}
use Rattle.cellset.proofs.Truth.{either}
use Rattle.board.specs.Game.{Level}
use Rattle.board.specs.Board.{IsWellFormed}
use Rattle.answers.specs.declared.pattern.Coord.{Coord}
use Rattle.answers.specs.declared.pattern.Pattern.{Pattern}
use Rattle.answers.specs.Canonical.{last_pattern, list_patterns, lone_patterns, made_pattern}
use Rattle.answers.specs.Grammar.{IsPattern, said_pattern, most_patterns}
use Rattle.answers.specs.Body.{PatternLine}
use Rattle.certificates.specs.CellLists.{cell_of, cells_of}
use Rattle.maker.specs.Dead.{AreDead}
use Rattle.maker.specs.Frozen.{IsLargestFrozen}
use Rattle.maker.specs.Made.{AreDeadPatterns, HasDeadBox, HasNoList, IsListOf, IsMadeList}
use Rattle.maker.proofs.Listing.{in_order_len, is_cell_list}
use Rattle.maker.proofs.Accepting.{one_dead_set}
use Rattle.maker.proofs.Living.{dead_on}

-- ---- a member outside another set
outside : (t : Cells) (xs : List Cell) → ((q : Cell) → Contains xs q → Has t q) ⊎ ((q : Cell) × Contains xs q × Lacks t q)
outside t [] = grind arith
outside t (x ∷ xs) = has_or_lacks t x
    (λ has. either (outside t xs)
    (λ all. inl (λ q h. head_or_tail x xs q h (Has t q) (λ e. rw e at has) (λ rest. all q rest)))
    (λ (q, there, lacks). inr (q, Contains-append_right (x ∷ []) xs q there, lacks)))
    (λ lacks. inr (x, (0, omega arith, refl), lacks))
  where
    head_or_tail : (x : Cell) (xs : List Cell) (q : Cell) → Contains (x ∷ xs) q → (G : Type 0) → (x ≡ q → G) → (Contains xs q → G) → G
    head_or_tail x xs q (zero, within, is) G here there = here is
    head_or_tail x xs q (suc k, within, is) G here there = there (k, omega arith, is)

pub not_within : (s t : Cells) → set.is_subset s t ≡ false → (c : Cell) × Has s c × Lacks t c
not_within s t is = either (outside t (items s))
    (λ all. absurd (false≢true (sym is ∙ set.contains-is_subset cells_total s t (λ q has. all q (has_item s q has)))))
    (λ (q, there, lacks). (q, item_has s q there, lacks))

-- ---- what is made
module _ (level : Level) (dead : Cells) (exact : AreDead level dead) (boxes : Cells) (are_boxes : boxes ≡ level.boxes)
    (coords : List Coord) (listed : IsListOf dead coords) where
  pub of_dead : (c : Cell) × Has boxes c × Has dead c → IsMadeList level (list_patterns coords [])
  of_dead (c, box, is_dead) = inl (record {
    box = (c, rw are_boxes at box, (exact c).0 is_dead);
    list = (dead, exact, (coords, listed, append-nil (lone_patterns coords)));
  })

module _ (level : Level) (dead : Cells) (exact : AreDead level dead) (boxes : Cells) (are_boxes : boxes ≡ level.boxes)
    (apart : (c : Cell) → Has boxes c → Lacks dead c) (frozen : Cells) (largest : IsLargestFrozen level dead frozen)
    (goals : Cells) (are_goals : goals ≡ level.goals) where
  no_dead_box : HasDeadBox level → ⊥
  no_dead_box (c, box, is_dead) = grind (arith, not_both)

  pub of_none : set.is_subset frozen goals ≡ true → HasNoList level
  of_none within = record {
    no_dead_box = no_dead_box;
    on_goals = λ other (over, over_exact, over_largest) c has.
        let same = one_dead_set level over dead over_exact exact in
        let here = (largest c).1 (((rw same at over_largest) c).0 has) in
        rw are_goals at (set.is_subset-contains cells_total frozen goals within c here);
  }

  pub of_frozen : set.is_subset frozen goals ≡ false → (coords held : List Coord) → IsListOf dead coords → IsListOf frozen held
      → IsMadeList level (list_patterns coords held)
  of_frozen off coords held listed all =
      let (c, has, lacks) = not_within frozen goals off in
      inr (record {
        no_dead_box = no_dead_box;
        frozen = frozen;
        exact = (dead, exact, largest);
        off_goals = (c, has, rw (← are_goals) lacks);
        first = lone_patterns coords;
        dead = (dead, exact, (coords, listed, refl));
        last = made_pattern held;
        boxes = (held, all, refl);
        list = ap (λ last. lone_patterns coords ++ last) (some_last held c (rw all.same has));
      })
    where
      some_last : (held : List Coord) (c : Cell) → Has (cells_of held) c → last_pattern held ≡ made_pattern held ∷ []
      some_last [] c has = has_empty c has
      some_last (x ∷ held) c has = refl

-- ---- the list as a text spells it
all_push : (lines : List PatternLine) (last : PatternLine) → AllByRecursion IsPattern lines → IsPattern last → AllByRecursion IsPattern (lines ++ last ∷ [])
all_push [] last all here = (here, tt)
all_push (x ∷ lines) last all here = (all.0, all_push lines last all.1 here)

lone_spelled : (shape : Extent) → HasSides shape.width shape.height → (coords : List Coord)
    → ((q : Cell) → Has (cells_of coords) q → IsOn shape q) → AllByRecursion IsPattern (lone_patterns coords)
lone_spelled shape sides [] on = tt
lone_spelled shape sides (x ∷ coords) on =
    let here = inserted (cells_of []) (cell_of x) in (
      record {
        boxes = is_cell_list shape sides (x ∷ []) (λ q h. on q (only_here q h)) tt (cell_of x) here;
        seeds = tt;
      },
      lone_spelled shape sides coords (λ q h. on q (kept_by_insert (cells_of coords) (cell_of x) q h)),
    )
  where
    only_here : (q : Cell) → Has (cells_of (x ∷ [])) q → Has (cells_of (x ∷ coords)) q
    only_here q h = subst (Has (cells_of (x ∷ coords))) (sym (has_only (cell_of x) q h)) (inserted (cells_of coords) (cell_of x))

-- A text can spell the lines.
abbrev AreLawful : List PatternLine → Type 0
AreLawful lines = (length lines ≤ most_patterns) × AllByRecursion IsPattern lines

module _ (level : Level) (formed : IsWellFormed level) where
  are_on : (dead : Cells) → AreDead level dead → (q : Cell) → Has dead q → IsOn level.shape q
  are_on dead exact q has = dead_on level formed q ((exact q).0 has)

  few : (dead : Cells) → AreDead level dead → set.len dead ≤ 65025
  few dead exact =
      let fits = len_on_grid level.shape dead (are_on dead exact) in
      let sides = formed.sides in
      let area = mul-le-mul_left level.shape.width sides.not_too_high in
      omega arith

  dead_lawful : (lines : List PatternLine) → AreDeadPatterns level lines → (length lines ≤ 65025) × AllByRecursion IsPattern lines
  dead_lawful lines (dead, exact, (coords, list, is)) =
      let most = few dead exact in
      let long = length-map coords (λ c. made_pattern (c ∷ [])) in
      let count = in_order_len coords list.order in
      let same = ap set.len list.same in
      let size = ap length is in (
        omega arith,
        subst (AllByRecursion IsPattern) (sym is) (lone_spelled level.shape formed.sides coords (λ q h. are_on dead exact q (rw list.same at h))),
      )

  pub list_lawful : (lines : List PatternLine) → IsMadeList level lines → AreLawful lines
  list_lawful lines (inl made) = let (most, each) = dead_lawful lines made.list in (omega arith, each)
  list_lawful lines (inr made) =
      let (most, each) = dead_lawful made.first made.dead in
      let longer = length-append made.first (made.last ∷ []) in
      let size = ap length made.list in
      let (dead, exact, largest) = made.exact in
      let (coords, list, is) = made.boxes in
      let (box, has, off) = made.off_goals in
      let on = λ (q : Cell) (h : Has (cells_of coords) q).
      let (some, hold, in_some) = (largest q).0 (rw list.same at h) in
      (formed.boxes q (hold.boxes q in_some)).0 in
      let last : IsPattern made.last = rw is (record {
        boxes = is_cell_list level.shape formed.sides coords on list.order box (rw list.same has);
        seeds = tt;
      }) in
      (omega arith, rw made.list (all_push made.first made.last each last))

  -- What holds of the lines holds of the patterns that say them.
  pub said_lawful : (patterns : List Pattern) → IsMadeList level (map said_pattern patterns)
      → (length patterns ≤ most_patterns) × AllByRecursion (λ p. IsPattern (said_pattern p)) patterns
  said_lawful patterns made =
      let (most, each) = list_lawful (map said_pattern patterns) made in
      let long = length-map patterns said_pattern in
      (omega arith, each_of_said patterns each)
    where
      each_of_said : (patterns : List Pattern) → AllByRecursion IsPattern (map said_pattern patterns) → AllByRecursion (λ p. IsPattern (said_pattern p)) patterns
      each_of_said [] all = tt
      each_of_said (p ∷ patterns) all = (all.0, each_of_said patterns all.1)
