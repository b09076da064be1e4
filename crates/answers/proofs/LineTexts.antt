-- Pattern lines, zone lines and level lines: what is read is spelled that way, and what is spelled that way is read.
-- A pattern line is read from its front: the boxes end where ` @ ` follows, and the rest spells the seeds. If nothing is read, nothing spells
-- the line, because it would have been read.
use Rattle.std.proofs.Common.{◌≡◌, ℕ, ◌≤◌, false, true, cond, List, [], ◌++◌, take, drop, Option, Some, None, refl, sym, ap, ◌∙◌, arith, ⊎_elim, append_assoc}
use Rattle.std.specs.Prelude.{option_map, codes}
use Rattle.std.specs.Str.{bytes_eq}
use Rattle.std.proofs.lemmas.Bool.{cases_Bool, false≢true}
use Rattle.std.proofs.lemmas.Option.{cond_some, same_Some}
use Rattle.std.proofs.lemmas.List.{append-nil}
use Rattle.std.proofs.lemmas.Slice.Eq.{bytes_eq-Decides}
use Rattle.answers.specs.declared.pattern.Coord.{Coord}
use Rattle.answers.specs.Grammar.{Line, numeral, level_text, cells_text, seeds_text, pattern_text, line_of_pattern, line_of_zone, AreSeeds, IsCellList, IsPattern, IsZone, SpellsPattern, SpellsZone}
use Rattle.answers.specs.Body.{PatternLine, ZoneLine}
use Rattle.answers.specs.Reading.{AreCellsBefore, TakesCells, ◌>>=◌, is_number, number_in, cells_in, all_cells_in, after_prefix, seeds_in, pattern_in, zone_in, level_digits}
use Rattle.answers.proofs.Numerals.{is_number-numeral, numeral-number_in}
use Rattle.answers.proofs.CellTexts.{cells_again, cells_found, chained, prefix_found, prefixed, takes_cells}
use Rattle.answers.proofs.TakenCells.{digit_of_cells}

-- ---- seeds

record AreSeedsText (text : List ℕ) (seeds : Option (List Coord)) : Type 0 where
  spelled : text ≡ seeds_text seeds
  lawful : AreSeeds seeds

mapped_some : {A B : Type 0} {f : A → B} (o : Option A) {y : B} → option_map f o ≡ Some y → (x : A) × (o ≡ Some x) × (f x ≡ y)
mapped_some None e = absurd cc
mapped_some (Some x) e = search (same_Some)

seeds_found : {text : List ℕ} {seeds : Option (List Coord)} → seeds_in text ≡ Some seeds → AreSeedsText text seeds
unfolding seeds_in
seeds_found {text} {seeds} e = ⊎_elim
    (λ yes.
    grind (arith, same_Some, bytes_eq-Decides))
    (λ no.
    let listed : option_map Some (all_cells_in text) ≡ Some seeds = rw no at e in
    let m = mapped_some (all_cells_in text) listed in
    let cells = cells_found m.1 in
    rw (← m.2) (record { spelled = cells.spelled; lawful = cells.lawful }))
    (cases_Bool (bytes_eq text (codes "*")))

no_star : (cells : List Coord) → IsCellList cells → bytes_eq (cells_text cells) (codes "*") ≡ false
no_star cells h = ⊎_elim
    (λ yes.
    let e : cells_text cells ≡ codes "*" = (bytes_eq-Decides (cells_text cells) (codes "*")).0 yes in
    let there : AreCellsBefore (cells_text cells) cells [] = record { spelled = sym (append-nil (cells_text cells)); lawful = h } in
    absurd (false≢true (rw e at (digit_of_cells tt there))))
    (λ no. no) (cases_Bool (bytes_eq (cells_text cells) (codes "*")))

seeds_again : (seeds : Option (List Coord)) → AreSeeds seeds → seeds_in (seeds_text seeds) ≡ Some seeds
unfolding seeds_in
seeds_again None h = refl
seeds_again (Some cells) h = search (no_star, cells_again)

-- ---- pattern lines

-- the text of a pattern line after its front
after_front : (boxes seeds : List ℕ) → codes "pattern " ++ boxes ++ codes " @ " ++ seeds ≡ codes "pattern " ++ (boxes ++ (codes " @ " ++ seeds))
after_front boxes seeds = grind (arith, append_assoc)

-- a text that goes on with boxes, ` @ ` and seeds
boxes_before : (boxes : List Coord) (seeds : List ℕ) → IsCellList boxes
    → cells_in (cells_text boxes ++ (codes " @ " ++ seeds)) ≡ Some (boxes, codes " @ " ++ seeds)
boxes_before boxes seeds h =
    (takes_cells (cells_text boxes ++ (codes " @ " ++ seeds))).only boxes (codes " @ " ++ seeds) (record { spelled = refl; lawful = h }) (refl, refl)

-- the line is the pattern's line, and a text can spell the pattern
pub record IsLineOf (l : Line) (p : PatternLine) : Type 0 where
  pub same : l ≡ line_of_pattern p
  pub lawful : IsPattern p

abbrev line_with : Line → List Coord → Option (List Coord) → PatternLine
line_with l boxes seeds = record { line = l.number; boxes = boxes; seeds = seeds }

pub pattern_found : (l : Line) (p : PatternLine) → pattern_in l ≡ Some p → IsLineOf l p
unfolding pattern_in
pattern_found l p e =
    let a = chained (after_prefix (codes "pattern ") l.text) {f = (λ text. cells_in text >>= λ boxes. after_prefix (codes " @ ") boxes.1 >>=
    λ rest. seeds_in rest >>= λ seeds. Some (line_with l boxes.0 seeds))} {y = p} e in
    let b = chained (cells_in a.0) a.2 in
    let c = chained (after_prefix (codes " @ ") b.0.1) b.2 in
    let d = chained (seeds_in c.0) c.2 in
    let boxes : AreCellsBefore a.0 b.0.0 b.0.1 = (rw b.1 at (takes_cells a.0)).found in
    let seeds = seeds_found d.1 in
    grind (arith, prefix_found, after_front, same_Some)

-- with boxes, the pattern is that of the seeds after ` @ `
seeds_after : (l : Line) {boxes : List Coord} (seeds : List ℕ) → l.text ≡ codes "pattern " ++ (cells_text boxes ++ (codes " @ " ++ seeds)) → IsCellList boxes
    → (seeds_in seeds >>= λ s. Some (line_with l boxes s)) ≡ pattern_in l
unfolding pattern_in
seeds_after l seeds is h = grind (arith, boxes_before)

pub pattern_again : {p : PatternLine} → IsPattern p → pattern_in (line_of_pattern p) ≡ Some p
pattern_again {p} h =
    sym (seeds_after (line_of_pattern p) (seeds_text p.seeds) (after_front (cells_text p.boxes) (seeds_text p.seeds)) h.boxes)
    ∙ ap (λ s. s >>= λ seeds. Some (line_with (line_of_pattern p) p.boxes seeds)) (seeds_again p.seeds h.seeds)

pub no_pattern : (l : Line) → pattern_in l ≡ None → ¬ SpellsPattern l.text
no_pattern l e h =
    let p : PatternLine = record { line = l.number; boxes = h.0.boxes; seeds = h.0.seeds } in
    let same : l ≡ line_of_pattern p = ap (λ x. let line : Line = record { number = l.number; text = x } in line) h.2 in
    let read : pattern_in l ≡ Some p = ap pattern_in same ∙ pattern_again (record { boxes = h.1.boxes; seeds = h.1.seeds }) in
    cc

-- ---- a pattern line that is read from its front

pub not_pattern : (l : Line) → bytes_eq (take 8 l.text) (codes "pattern ") ≡ false → None ≡ pattern_in l
unfolding pattern_in
not_pattern l e = rw e refl

module _ (l : Line) (text : List ℕ) (front : bytes_eq (take 8 l.text) (codes "pattern ") ≡ true) (rest_is : text ≡ drop 8 l.text) where
  begins : l.text ≡ codes "pattern " ++ text
  begins = search (prefixed)

  -- without boxes before ` @ ` there is no pattern
  pub none_by : (taken : Option (List Coord × List ℕ)) → TakesCells text taken
      → ((boxes : List Coord) (seeds : List ℕ) → taken ≡ Some (boxes, codes " @ " ++ seeds) → ⊥) → None ≡ pattern_in l
  none_by taken t other = by_case (pattern_in l) refl
    where
      by_case : (o : Option PatternLine) → pattern_in l ≡ o → None ≡ o
      by_case None e = refl
      by_case (Some p) e =
          let is = pattern_found l p e in
          let text_is : l.text ≡ pattern_text p = ap (λ x. x.text) is.same in
          let seeds = codes " @ " ++ seeds_text p.seeds in
          let left : text ≡ cells_text p.boxes ++ seeds = ap (drop 8) (sym begins ∙ text_is ∙ after_front (cells_text p.boxes) (seeds_text p.seeds)) in
          absurd (other p.boxes (seeds_text p.seeds) (t.only p.boxes seeds (record { spelled = left; lawful = is.lawful.boxes }) (refl, refl)))

  -- with boxes, the pattern is that of the seeds after ` @ `
  pub read_by : (boxes : List Coord) (rest seeds : List ℕ) → TakesCells text (Some (boxes, rest)) → bytes_eq (take 3 rest) (codes " @ ") ≡ true
      → seeds ≡ drop 3 rest → (o : Option (Option (List Coord))) → o ≡ seeds_in seeds
      → (o >>= λ s. Some (record { line = l.number; boxes = boxes; seeds = s })) ≡ pattern_in l
  read_by boxes rest seeds t sign seeds_are o e =
      let is = prefixed (codes " @ ") rest seeds sign seeds_are in
      ap (λ o. o >>= λ s. Some (line_with l boxes s)) e
      ∙ seeds_after l seeds (begins ∙ ap (λ x. codes "pattern " ++ x) (t.found.spelled ∙ ap (λ x. cells_text boxes ++ x) is)) t.found.lawful

-- ---- zone lines

pub record IsLineOfZone (l : Line) (z : ZoneLine) : Type 0 where
  pub same : l ≡ line_of_zone z
  pub lawful : IsZone z

pub zone_found : {l : Line} {z : ZoneLine} → zone_in l ≡ Some z → IsLineOfZone l z
unfolding zone_in
zone_found {l} {z} e =
    let a = chained (after_prefix (codes "zone ") l.text) {f = (λ rest. all_cells_in rest >>= λ cells. Some (record { line = l.number; cells = cells }))} {y = z} e in
    let b = chained (all_cells_in a.0) a.2 in
    let cells = cells_found b.1 in
    grind (arith, prefix_found, same_Some)

pub zone_again : {z : ZoneLine} → IsZone z → zone_in (line_of_zone z) ≡ Some z
unfolding zone_in
zone_again h = rw (cells_again h) refl

pub no_zone : (l : Line) → zone_in l ≡ None → ¬ SpellsZone l.text
no_zone l e h =
    let z : ZoneLine = record { line = l.number; cells = h.0.cells } in
    let same : l ≡ line_of_zone z = ap (λ x. let line : Line = record { number = l.number; text = x } in line) h.2 in
    let read : zone_in l ≡ Some z = ap zone_in same ∙ zone_again h.1 in
    cc

-- ---- level lines

pub record IsLevelOf (text digits : List ℕ) : Type 0 where
  pub text_is : text ≡ level_text (number_in digits)
  pub low : 1 ≤ number_in digits

pub level_found : {text digits : List ℕ} → level_digits text ≡ Some digits → IsLevelOf text digits
unfolding level_digits
level_found {text} {digits} e =
    let a = chained (after_prefix (codes "level ") text) {f = (λ digits. cond (is_number digits) (Some digits) None)} {y = digits} e in
    let b = cond_some (is_number a.0) a.0 digits a.2 in
    let n = numeral-number_in a.0 b.0 in
    grind (arith, prefix_found)

pub level_again : {n : ℕ} → 1 ≤ n → level_digits (level_text n) ≡ Some (numeral n)
unfolding level_digits
level_again low = search (is_number-numeral)
