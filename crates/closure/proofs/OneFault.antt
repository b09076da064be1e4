-- A list has one first fault, and a zone has one.
-- Two lines that are each the first at fault are one: the lines before a first one are fine, and a line at fault isn't. The reasons
-- exclude each other, as each says that the reasons before it don't hold. Of two pushes one comes before the other, or they are by one
-- player in one direction, and no uncovered push comes before a first one. The same argument serves for leaks.
use Rattle.std.proofs.Common.{◌≡◌, ◌≢◌, ◌⊎◌, ℕ, List, [], ◌∷◌, ◌++◌, append_assoc, refl, sym, ◌∙◌, ap, inl, inr, arith}
use Rattle.std.{specs.List.Contains, proofs.lemmas.Bool.cases_lt}
use Rattle.cellset.{specs.CellSet.Cells, specs.declared.cell.Cell.Cell, specs.declared.dir.Dir.Dir, proofs.Members.not_both, proofs.Places.places}
use Rattle.cellset.proofs.{ReadingOrder.before_or_after, Truth.either}
use Rattle.reach.{specs.Pushes.dir_rank, proofs.PushOrder.same_dir, proofs.PushOrder.push_before_or_after}
use Rattle.board.specs.Game.{Level}
use Rattle.answers.specs.Body.{PatternLine, ZoneLine}
use Rattle.certificates.specs.CellLists.{cells_of}
use Rattle.closure.specs.declared.fault.LineWhy.{LineWhy, TheVariants.Board, TheVariants.Wall, TheVariants.Seed, TheVariants.Goals}
use Rattle.closure.specs.declared.fault.CheckFault.{CheckFault, TheVariants.Line, TheVariants.Start, TheVariants.Push, TheVariants.Memory}
use Rattle.certificates.specs.Zone.{IsZoneOnBoard, IsZoneOffWalls, IsRefuting}
use Rattle.closure.specs.{declared.fault.ZoneLineWhy.ZoneLineWhy, declared.fault.ZoneFault.ZoneFault}
use Rattle.closure.specs.declared.fault.ZoneLineWhy.TheVariants as zone_why
use Rattle.closure.specs.declared.fault.ZoneFault.TheVariants as zone_fault
use Rattle.certificates.specs.Pattern.{Pattern, pattern_of, patterns_of}
use Rattle.closure.proofs.Lists.{middle}
use Rattle.certificates.specs.Pattern.{IsOnBoard, IsOffWalls, HasFairSeeds, IsLawful, AreLawful, CoversPushesOf}
use Rattle.closure.specs.FirstFault.{IsUnlawful, IsFirstFaultyLine, HasFirstUncovered, IsFirstPatternFault, IsUnlawfulZone, IsFirstLeak, IsFirstZoneFault}
use Rattle.closure.proofs.FirstLines.{unlawful_not, line_listed}

-- ---- one line
listed_before : (before : List PatternLine) (line : PatternLine) (between all : List PatternLine) → all ≡ (before ++ line ∷ []) ++ between → Contains all line
listed_before before line between all e = rw (e ∙ append_assoc before (line ∷ []) between) (middle before line between)

-- Two first lines at fault are one line, if no line is both fine and at fault.
same_line : (IsFine IsFaulty IsBad : PatternLine → Type 0) (lines : List PatternLine) (n m : ℕ)
    → ((l : PatternLine) → IsFine l → IsFaulty l → ⊥) → ((l : PatternLine) → IsFine l → IsBad l → ⊥)
    → IsFirstFaultyLine IsFine IsFaulty lines n → IsFirstFaultyLine IsFine IsBad lines m → (n ≡ m) × (l : PatternLine) × IsFaulty l × IsBad l
same_line IsFine IsFaulty IsBad lines n m not_faulty not_bad x y =
    let here : x.line ≡ y.line = places x.before y.before x.line y.line x.after y.after (sym x.list ∙ y.list)
    (λ _ e. e)
    (λ between e. absurd (not_faulty x.line (y.fine x.line (listed_before x.before x.line between y.before e)) x.faulty))
    (λ between e. absurd (not_bad y.line (x.fine y.line (listed_before y.before y.line between x.before e)) y.faulty)) in
    (sym x.number_is ∙ ap (λ l. l.line) here ∙ y.number_is, y.line, rw here at x.faulty, y.faulty)

-- ---- one reason
module _ (level : Level) (p : Pattern) where
  off_board : {G : Type 0} → IsUnlawful level p Board → IsOnBoard level p → G
  off_board (c, named, off) on = search

  on_wall : {G : Type 0} → IsUnlawful level p Wall → IsOffWalls level p → G
  on_wall (on, c, box, wall) off = grind (arith, not_both)

  unfair : {G : Type 0} → IsUnlawful level p Seed → HasFairSeeds level p → G
  unfair (on, off, c, seed, bad) fair = grind (arith, not_both)

  why_one : (a b : LineWhy) → IsUnlawful level p a → IsUnlawful level p b → a ≡ b
  why_one Board Board x y = refl
  why_one Board Wall x y = off_board x y.0
  why_one Board Seed x y = off_board x y.0
  why_one Board Goals x y = off_board x y.0
  why_one Wall Board x y = off_board y x.0
  why_one Wall Wall x y = refl
  why_one Wall Seed x y = on_wall x y.1
  why_one Wall Goals x y = on_wall x y.1
  why_one Seed Board x y = off_board y x.0
  why_one Seed Wall x y = on_wall y x.1
  why_one Seed Seed x y = refl
  why_one Seed Goals x y = unfair x y.2
  why_one Goals Board x y = off_board y x.0
  why_one Goals Wall x y = on_wall y x.1
  why_one Goals Seed x y = unfair y x.2
  why_one Goals Goals x y = refl

-- ---- one push, one leak
push_one : (level : Level) (patterns : List Pattern) (p : Pattern) (c k : Cell) (d e : Dir) → HasFirstUncovered level patterns p c d →
    HasFirstUncovered level patterns p k e → (c ≡ k) × (d ≡ e)
push_one level patterns p c k d e (a, player_a, dir_a, x) (b, player_b, dir_b, y) =
    push_before_or_after a b
    (λ before. absurd (x.uncovered (y.first a x.out before)))
    (λ player dir. (sym player_a ∙ player ∙ player_b, sym dir_a ∙ dir ∙ dir_b))
    (λ after. absurd (y.uncovered (x.first b y.out after)))

leak_one : (level : Level) (zone : Cells) (x y : Cell) (d e : Dir) → IsFirstLeak level zone x d → IsFirstLeak level zone y e → (x ≡ y) × (d ≡ e)
leak_one level zone x y d e p q =
    before_or_after x y
    (λ before. absurd (q.first x d p.leaks (inl before)))
    (λ here. either (cases_lt (dir_rank d) (dir_rank e)) (λ less. absurd (q.first x d p.leaks (inr (here, less))))
    (λ not_less. either (cases_lt (dir_rank e) (dir_rank d)) (λ more. absurd (p.first y e q.leaks (inr (sym here, more))))
    (λ not_more. (here, same_dir d e (omega arith)))))
    (λ after. absurd (p.first y e q.leaks (inl after)))

-- ---- one first fault of a list
module _ (level : Level) (lines : List PatternLine) where
  not_lawful : {G : Type 0} (n : ℕ) (why : LineWhy) → IsFirstPatternFault level lines (Line n why) → AreLawful level (patterns_of lines) → G
  not_lawful n why found lawful =
      absurd (unlawful_not level (pattern_of found.line) why found.faulty (lawful (pattern_of found.line) (line_listed found.before found.line found.after
      lines found.list)))

  line_one : (n m : ℕ) (why other : LineWhy) → IsFirstPatternFault level lines (Line n why) → IsFirstPatternFault level lines (Line m other) →
      (n ≡ m) × (why ≡ other)
  line_one n m why other x y =
      let (number, l, a, b) = same_line (λ l. IsLawful level (pattern_of l)) (λ l. IsUnlawful level (pattern_of l) why)
      (λ l. IsUnlawful level (pattern_of l) other) lines n m (λ l fine faulty. unlawful_not level (pattern_of l) why faulty fine)
      (λ l fine faulty. unlawful_not level (pattern_of l) other faulty fine) x y in
      (number, why_one level (pattern_of l) why other a b)

  covers_not : (c : Cell) (d : Dir) (l : PatternLine) → CoversPushesOf level (patterns_of lines) (pattern_of l) →
      HasFirstUncovered level (patterns_of lines) (pattern_of l) c d → ⊥
  covers_not c d l covers (push, player, dir, first) = first.uncovered (covers push first.out)

  at_one_push : (n m : ℕ) (c k : Cell) (d e : Dir) → IsFirstPatternFault level lines (Push n c d) → IsFirstPatternFault level lines (Push m k e) →
      (n ≡ m) × (c ≡ k) × (d ≡ e)
  at_one_push n m c k d e (_, _, x) (_, _, y) =
      let IsAt : Cell → Dir → PatternLine → Type 0 = λ c d l. HasFirstUncovered level (patterns_of lines) (pattern_of l) c d in
      let (number, l, a, b) = same_line (λ l. CoversPushesOf level (patterns_of lines) (pattern_of l)) (IsAt c d) (IsAt k e) lines n m
      (covers_not c d) (covers_not k e) x y in
      let one = push_one level (patterns_of lines) (pattern_of l) c k d e a b in
      (number, one.0, one.1)

  pub one_pattern_fault : (a b : CheckFault) → IsFirstPatternFault level lines a → IsFirstPatternFault level lines b → a ≡ b
  one_pattern_fault (Line n why) (Line m other) x y = let one = line_one n m why other x y in λ i. Line (one.0 i) (one.1 i)
  one_pattern_fault (Line n why) Start x y = not_lawful n why x y.0
  one_pattern_fault (Line n why) (Push m c d) x y = not_lawful n why x y.0
  one_pattern_fault Start (Line m other) x y = not_lawful m other y x.0
  one_pattern_fault Start Start x y = refl
  one_pattern_fault Start (Push m c d) x y = absurd (x.1 y.1)
  one_pattern_fault (Push n c d) (Line m other) x y = not_lawful m other y x.0
  one_pattern_fault (Push n c d) Start x y = absurd (y.1 x.1)
  one_pattern_fault (Push n c d) (Push m k e) x y = let one = at_one_push n m c k d e x y in λ i. Push (one.0 i) (one.1 i) (one.2 i)
  one_pattern_fault a Memory x y = absurd y
  one_pattern_fault Memory b x y = absurd x

-- ---- one first fault of a zone
module _ (level : Level) (line : ZoneLine) where
  off_zone : {G : Type 0} → IsUnlawfulZone level (cells_of line.cells) zone_why.Board → IsZoneOnBoard level (cells_of line.cells) → G
  off_zone (c, has, off) on = search

  not_lawful_zone : {G : Type 0} (why : ZoneLineWhy) → IsUnlawfulZone level (cells_of line.cells) why → IsZoneOnBoard level (cells_of line.cells) →
      IsZoneOffWalls level (cells_of line.cells) → G
  not_lawful_zone zone_why.Board x on apart = off_zone x on
  not_lawful_zone zone_why.Wall (_, c, has, wall) on apart = grind (arith, not_both)

  zone_why_one : (a b : ZoneLineWhy) → IsUnlawfulZone level (cells_of line.cells) a → IsUnlawfulZone level (cells_of line.cells) b → a ≡ b
  zone_why_one zone_why.Board zone_why.Board x y = refl
  zone_why_one zone_why.Board zone_why.Wall x y = off_zone x y.0
  zone_why_one zone_why.Wall zone_why.Board x y = off_zone y x.0
  zone_why_one zone_why.Wall zone_why.Wall x y = refl

  pub one_zone_fault : (a b : ZoneFault) → IsFirstZoneFault level line a → IsFirstZoneFault level line b → a ≡ b
  one_zone_fault (zone_fault.Line n why) (zone_fault.Line m other) (number, x) (again, y) = grind (arith, zone_why_one)
  one_zone_fault (zone_fault.Line n why) (zone_fault.Leak m y e) (_, x) z = not_lawful_zone why x z.1 z.2
  one_zone_fault (zone_fault.Line n why) (zone_fault.Fits m) (_, x) z = not_lawful_zone why x z.1 z.2
  one_zone_fault (zone_fault.Leak n c d) (zone_fault.Line m other) z (_, y) = not_lawful_zone other y z.1 z.2
  one_zone_fault (zone_fault.Leak n c d) (zone_fault.Leak m k e) x y = grind (arith, leak_one)
  one_zone_fault (zone_fault.Leak n c d) (zone_fault.Fits m) x y = absurd (y.3 c d x.3.leaks)
  one_zone_fault (zone_fault.Fits n) (zone_fault.Line m other) z (_, y) = not_lawful_zone other y z.1 z.2
  one_zone_fault (zone_fault.Fits n) (zone_fault.Leak m k e) x y = absurd (x.3 k e y.3.leaks)
  one_zone_fault (zone_fault.Fits n) (zone_fault.Fits m) x y = ap zone_fault.Fits (sym x.0 ∙ y.0)
  one_zone_fault a zone_fault.Memory x y = absurd y
  one_zone_fault zone_fault.Memory b x y = absurd x

-- a zone that refutes a level has no first fault
pub refuting_no_fault : (level : Level) (line : ZoneLine) (fault : ZoneFault) → IsRefuting level (cells_of line.cells) → IsFirstZoneFault level line fault → ⊥
refuting_no_fault level line (zone_fault.Line number zone_why.Board) refuting (here, (c, has, off)) = off (refuting.board c has)
refuting_no_fault level line (zone_fault.Line number zone_why.Wall) refuting (here, (on, c, has, wall)) = grind (arith, not_both)
refuting_no_fault level line (zone_fault.Leak number x d) refuting (here, on, off, first) = refuting.closed x d first.leaks
refuting_no_fault level line (zone_fault.Fits number) refuting (here, on, off, closed, few) = let more = refuting.more in omega arith
refuting_no_fault level line zone_fault.Memory refuting first = first

pub zone_memory_or : (fault : ZoneFault) → (fault ≡ zone_fault.Memory) ⊎ (fault ≢ zone_fault.Memory)
zone_memory_or (zone_fault.Line n why) = inr (λ e. cc)
zone_memory_or (zone_fault.Leak n c d) = inr (λ e. cc)
zone_memory_or (zone_fault.Fits n) = inr (λ e. cc)
zone_memory_or zone_fault.Memory = inl refl
