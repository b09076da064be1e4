-- A collection has one made text.
-- If two lists in reading order have the same cells, both begin with the cell that comes before all others; so they are the
-- same list, by induction. The dead squares, the largest frozen set and the least zone of a level are one set each. So they
-- fix the lines of its certificate, whatever values hold them. The levels of a text are one list, and the rows of each have
-- one board. So two collections of records for a text have the same lines, which are all that the canonical text has.
use Rattle.std.proofs.Common.{◌≡◌, ◌⊎◌, ℕ, zero, suc, ◌+◌, List, [], ◌∷◌, ◌++◌, length, inl, inr, refl, sym, ◌∙◌, ap, ap₂, subst, arith}
use Rattle.std.specs.Prelude.{map, codes}
use Rattle.std.specs.List.{Contains, flat_map}
use Rattle.std.proofs.lemmas.Bool.{false≢true}
use Rattle.std.proofs.lemmas.Simd.{map-map}
use Rattle.cellset.specs.CellSet.{Cells}
use Rattle.cellset.proofs.Filters.{later_in}
use Rattle.cellset.proofs.Members.{same_members}
use Rattle.board.specs.Game.{Level}
use Rattle.board.specs.Legal.{IsBoardOf, IsRefusal}
use Rattle.board.specs.Levels.{AreLevelsOf}
use Rattle.board.specs.declared.reading.BoardFault.{BoardFault}
use Rattle.answers.specs.Body.{PatternLine, ZoneLine}
use Rattle.answers.specs.Canonical.{holds_zone, lone_patterns, made_lines, made_pattern, record_lines, some_zone}
use Rattle.answers.specs.Grammar.{AreInOrder, pattern_text, said_pattern, zone_text}
use Rattle.answers.specs.declared.pattern.Coord.{Coord}
use Rattle.answers.specs.declared.record.MadeBody.{MadeBody}
use Rattle.answers.specs.declared.record.MadeRecord.{MadeRecord}
use Rattle.answers.proofs.TakenCells.{later}
use Rattle.certificates.specs.CellLists.{cell_of}
use Rattle.certificates.proofs.CellLists.{of_cells}
use Rattle.maker.specs.Made.{AreDeadPatterns, AreFrozen, IsListOf, IsLeastZoneLine, IsMade, IsMadeList, HasNoList, body_of, coord_of}
use Rattle.maker.specs.Zones.{LeastZonesAreOne}
use Rattle.maker.specs.declared.making.Made.{Made}
use Rattle.maker.specs.declared.making.Made.TheVariants.{Patterns, Zone}
use Rattle.maker.proofs.Accepting.{one_dead_set}
use Rattle.maker.proofs.Listing.{after_first, listed_cell, not_around}
use Rattle.report.specs.MadeAnswers.{AreMade, AreMadeAnswers, IsMadeBody, none_left, without, with_record}
use Rattle.report.proofs.OneMade.{made_or_not}

-- ---- cells in reading order
first_or_later : (a : Coord) (xs : List Coord) (x : Coord) → Contains (a ∷ xs) x → (a ≡ x) ⊎ Contains xs x
first_or_later a xs x (zero, within, is) = inl is
first_or_later a xs x (suc k, within, is) = grind arith

same_first : (a b : Coord) (xs ys : List Coord) → AreInOrder (a ∷ xs) → AreInOrder (b ∷ ys) → Contains (b ∷ ys) a → Contains (a ∷ xs) b → a ≡ b
same_first a b xs ys order also there back = elim (first_or_later b ys a there) [
  | inl same ↦ sym same
  | inr below ↦ elim (first_or_later a xs b back) [
    | inl same ↦ same
    | inr above ↦ absurd (not_around a b (after_first a xs order b above) (after_first b ys also a below))
  ]
]

-- if two lists of the same cells begin with the same cell, the rests have the same cells
in_rest : (a b : Coord) (xs ys : List Coord) → a ≡ b → AreInOrder (a ∷ xs) → ((x : Coord) → Contains (a ∷ xs) x → Contains (b ∷ ys) x) → (x : Coord)
    → Contains xs x → Contains ys x
in_rest a b xs ys same order there x h = elim (first_or_later b ys x (there x (later_in a xs x h))) [
  | inl first ↦ let before = rw (sym first ∙ sym same) at (after_first a xs order x h) in absurd (not_around a a before before)
  | inr rest ↦ rest
]

one_order : (xs ys : List Coord) → AreInOrder xs → AreInOrder ys → ((x : Coord) → Contains xs x → Contains ys x)
    → ((x : Coord) → Contains ys x → Contains xs x) → xs ≡ ys
one_order [] [] order also there back = refl
one_order [] (b ∷ ys) order also there back = let h = back b (0, omega arith, refl) in absurd (omega arith)
one_order (a ∷ xs) [] order also there back = let h = there a (0, omega arith, refl) in absurd (omega arith)
one_order (a ∷ xs) (b ∷ ys) order also there back =
    let same = same_first a b xs ys order also (there a (0, omega arith, refl)) (back b (0, omega arith, refl)) in
    ap₂ (λ (x : Coord) (xs : List Coord). x ∷ xs) same
    (one_order xs ys (later a xs order) (later b ys also) (in_rest a b xs ys same order there) (in_rest b a ys xs (sym same) also back))

-- a coordinate of one list of some cells is in any other list of these cells
listed_too : (cells : Cells) (coords others : List Coord) → IsListOf cells coords → IsListOf cells others → (x : Coord) → Contains coords x → Contains others x
listed_too cells coords others list other x h =
    let (y, has, is) = of_cells others (cell_of x) (rw (list.same ∙ sym other.same) at (listed_cell coords x h)) in
    subst (Contains others) (ap coord_of is) has

one_list : (cells : Cells) (coords others : List Coord) → IsListOf cells coords → IsListOf cells others → coords ≡ others
one_list cells coords others list other = search (one_order, listed_too)

-- ---- what is made for a level
one_frozen : (level : Level) (a b : Cells) → AreFrozen level a → AreFrozen level b → a ≡ b
one_frozen level a b (dead, are, largest) (other, they, also) =
    let here = rw (one_dead_set level dead other are they) at largest in
    same_members a b (λ c has. (also c).1 ((here c).0 has)) (λ c has. (here c).1 ((also c).0 has))

one_dead_list : (level : Level) (a b : List PatternLine) → AreDeadPatterns level a → AreDeadPatterns level b → a ≡ b
one_dead_list level a b (dead, are, lone) (other, they, alone) =
    let (coords, list, is) = lone in
    let (others, also, was) = alone in
    let same = one_list other coords others (rw (one_dead_set level dead other are they) at list) also in
    is ∙ ap lone_patterns same ∙ sym was

one_made_list : (level : Level) (a b : List PatternLine) → IsMadeList level a → IsMadeList level b → a ≡ b
one_made_list level a b (inl dead) (inl also) = one_dead_list level a b dead.list also.list
one_made_list level a b (inl dead) (inr frozen) = absurd (frozen.no_dead_box dead.box)
one_made_list level a b (inr frozen) (inl dead) = absurd (frozen.no_dead_box dead.box)
one_made_list level a b (inr one) (inr other) =
    let frozen = one_frozen level one.frozen other.frozen one.exact other.exact in
    let (coords, list, is) = one.boxes in
    let (others, also, was) = other.boxes in
    let same = one_list other.frozen coords others (rw frozen at list) also in
    let last = is ∙ ap made_pattern same ∙ sym was in
    let first = one_dead_list level one.first other.first one.dead other.dead in
    one.list ∙ ap₂ (λ (lines : List PatternLine) (line : PatternLine). lines ++ line ∷ []) first last ∙ sym other.list

no_list_made : (level : Level) (lines : List PatternLine) → IsMadeList level lines → HasNoList level → ⊥
no_list_made level lines (inl dead) none = none.no_dead_box dead.box
no_list_made level lines (inr frozen) none = grind (arith, false≢true)

-- two made certificates of a level have the same lines, whatever values hold them
record HaveOneText (a b : MadeBody) : Type 0 where
  lines : made_lines a ≡ made_lines b
  zone : holds_zone a ≡ holds_zone b

module _ (one_zone : LeastZonesAreOne) (level : Level) where
  one_zone_text : (a b : ZoneLine) → IsLeastZoneLine level a → IsLeastZoneLine level b → zone_text a ≡ zone_text b
  one_zone_text a b one other =
      let zone = one_zone level one.zone other.zone one.least other.least in
      let cells = one_list other.zone a.cells b.cells (rw zone at one.cells) other.cells in
      ap (λ cs. zone_text (record { line = 0; cells = cs })) cells

  one_body_text : (a b : Made) → IsMade level a → IsMade level b → HaveOneText (body_of a) (body_of b)
  one_body_text (Patterns a) (Patterns b) one other =
      let same = one_made_list level (map said_pattern a.items) (map said_pattern b.items) one other in
      let texts = sym (map-map pattern_text said_pattern a.items) ∙ ap (map pattern_text) same ∙ map-map pattern_text said_pattern b.items in
      record {
        lines = ap (λ lines. codes "unsolvable" ∷ lines) texts;
        zone = refl;
      }
  one_body_text (Patterns a) (Zone b) one other = search (no_list_made)
  one_body_text (Zone a) (Patterns b) one other = search (no_list_made)
  one_body_text (Zone a) (Zone b) one other = search (one_zone_text)

-- ---- what is made for a collection
-- two lists of made records of the same levels have the same lines, and one length
record HaveOneTextEach (xs ys : List MadeRecord) : Type 0 where
  lines : flat_map record_lines xs ≡ flat_map record_lines ys
  zones : some_zone xs ≡ some_zone ys
  count : length xs ≡ length ys

one_more : (n : ℕ) (a b : MadeBody) (xs ys : List MadeRecord) → HaveOneText a b → HaveOneTextEach xs ys
    → HaveOneTextEach (record { level = n; body = a } ∷ xs) (record { level = n; body = b } ∷ ys)
one_more n a b xs ys one rest = search

module _ (one_board : (rows : List (List ℕ)) (level other : Level) → IsBoardOf rows level → IsBoardOf rows other → level ≡ other)
    (not_refused : (rows : List (List ℕ)) (level : Level) (why : BoardFault) → IsBoardOf rows level → IsRefusal rows why → ⊥)
    (one_zone : LeastZonesAreOne) where
  one_body : (rows : List (List ℕ)) (a b : MadeBody) → IsMadeBody rows a → IsMadeBody rows b → HaveOneText a b
  one_body rows a b one other =
      let here = rw (one_board rows one.level other.level one.legal other.legal) at one.is in
      let same = one_body_text one_zone other.level one.made other.made here other.is in
      record {
        lines = ap made_lines one.body_is ∙ same.lines ∙ sym (ap made_lines other.body_is);
        zone = ap holds_zone one.body_is ∙ same.zone ∙ sym (ap holds_zone other.body_is);
      }

  one_each : (n : ℕ) (levels others : List (List (List ℕ))) (xs ys : List MadeRecord) → AreMade n levels xs → AreMade n others ys → levels ≡ others
      → HaveOneTextEach xs ys
  one_each n levels others xs ys none_left none_left e = search
  one_each n levels others xs ys none_left (without none rest) e = cc
  one_each n levels others xs ys none_left (with_record made rest) e = cc
  one_each n levels others xs ys (without none rest) none_left e = cc
  one_each n levels others xs ys (without {levels = more} none rest) (without {levels = less} also tail) e = one_each (n + 1) more less xs ys rest tail cc
  one_each n levels others xs ys (without {rows = rows} none rest) (with_record {rows = row} {body = body} made tail) e =
      let same : rows ≡ row = cc in
      absurd (made_or_not one_board not_refused row body made (rw same at none))
  one_each n levels others xs ys (with_record made rest) none_left e = cc
  one_each n levels others xs ys (with_record {rows = rows} {body = body} made rest) (without {rows = row} none tail) e =
      let same : row ≡ rows = cc in
      absurd (made_or_not one_board not_refused rows body made (rw same at none))
  one_each n levels others xs ys (with_record {rows = rows} {levels = more} {body = a} {records = at} made rest)
      (with_record {rows = row} {levels = less} {body = b} {records = bt} also tail) e =
      let same : rows ≡ row = cc in
      one_more n a b at bt (one_body row a b (rw same at made) also) (one_each (n + 1) more less at bt rest tail cc)

  pub one_made_text : ((levels others : List (List (List ℕ))) (lines : List (List ℕ)) → AreLevelsOf levels lines → AreLevelsOf others lines → levels ≡ others)
      → (lt text other : List ℕ) (count others : ℕ) → AreMadeAnswers lt text count → AreMadeAnswers lt other others → (text ≡ other) × (count ≡ others)
  one_made_text one_list lt text other count others a b = grind (arith, one_list, one_each)
