-- What a replay knows after each letter. The letters so far spell one play, so all that matters for the rest is the
-- state to which it led, which the mailbox shows, and the counters. A letter that is a legal step of its case makes the
-- play one step longer, and the counters follow: a walk moves no box, and a push counts under the number that its box
-- keeps.
-- After a letter that isn't legal no longer text spells anything, because each of its plays would pass through this
-- state.
use Rattle.std.proofs.Common.{◌≡◌, ◌≢◌, ℕ, get_or, ◌+◌, ◌-◌, ◌<◌, ◌≤◌, ◌^◌, false, cond, nat_eq, Some, List, [], ◌∷◌, ◌++◌, length, take, drop, set}
use Rattle.std.proofs.Common.{append_assoc, refl, sym, ◌∙◌, ap, subst, inl, inr, arith, length-append, length-drop, length-take}
use Rattle.std.specs.Prelude.{slice_get, option_to_list}
use Rattle.std.specs.FinSet as finset
use Rattle.std.proofs.lemmas.Bool.{false≢true, eq-eqb}
use Rattle.std.proofs.lemmas.Bool.Decides.{eqb_tells}
use Rattle.std.proofs.lemmas.List.{append-nil}
use Rattle.std.proofs.lemmas.Option.{same_Some}
use Rattle.cellset.specs.Shape.{HasSides}
use Rattle.cellset.specs.Cell.{neighbor, IsOn}
use Rattle.cellset.specs.CellSet.{Cells, Has, Lacks}
use Rattle.cellset.specs.declared.cell.Cell.{Cell}
use Rattle.cellset.specs.declared.dir.Dir.{Dir}
use Rattle.cellset.proofs.Members.{same, same_itself, same_or_other, lacks_where, not_both, has_insert, has_remove}
use Rattle.board.specs.Game.{Level, State, Steps, IsFloor, start}
use Rattle.board.specs.Board.{IsWellFormed}
use Rattle.play.specs.State.{IsBlocked}
use Rattle.play.specs.Spelling.{letters, small, capital, SpellsStep, SpellsPlay}
use Rattle.play.specs.Counts.{Counts, stepped, pushed_numbers, changes}
use Rattle.play.specs.Solution.{Solves}
use Rattle.play.specs.FirstFault.{Names, IsCause, FailsAt, EndsUnsolved, IsFirstSolutionFault, off_goals}
use Rattle.play.specs.Mailbox.{place_of, IsMailboxOf}
use Rattle.play.specs.Progress.{AreNumbered, IsLast, Progress, HasRoom, CountsPush, IsUnderWay, Continues, IsPlayed, FailsBy, FailsOn}
use Rattle.play.specs.declared.run.Run.{Run}
use Rattle.play.specs.declared.mailbox.TheConstants.{FREE, BOX}
use Rattle.play.specs.declared.fault.MoveWhy.{MoveWhy}
use Rattle.play.specs.declared.fault.MoveWhy.TheVariants.{Letter, Wall, Blocked, Case}
use Rattle.play.specs.declared.fault.ReplayFault.{ReplayFault}
use Rattle.play.specs.declared.fault.ReplayFault.TheVariants.{Move, Unsolved, Memory}
use Rattle.play.proofs.Texts.{letters_around, letters_between, letters_more, letters_on}
use Rattle.play.proofs.Spellings.{walked_by, pushed_by, small_not_capital, names_one, step_steps, spells_alike, spells_join, spells_split, spells_length}
use Rattle.play.proofs.Spellings.{spells_plays}
use Rattle.play.proofs.ReadingLists.{in_order, in_order_is, numbered_in_order}
use Rattle.play.proofs.Numbers.{differs, changes_push, changes_few, number_none, number_some, stepped_none, stepped_there, numbered_push}
use Rattle.play.proofs.OffGoals.{len_moved, off_none}
use Rattle.play.proofs.Places.{near_on, place_one, place_some}
use Rattle.play.proofs.Mailboxes.{mailbox_pushed, neighbor_other}

-- ---- the start
pub progress_start : (level : Level) (mailbox : List ℕ) (player : Cell) (run : Run) → IsWellFormed level → IsMailboxOf level level.boxes mailbox
    → player ≡ level.player → run ≡ record { player = place_of player; last = 0; tally = record { moves = 0; pushes = 0; changes = 0 } }
    → Progress level [] mailbox run
progress_start level mailbox player run formed shown here is = subst (Progress level [] mailbox) (sym (is ∙ ap (λ c. begun c) here)) record {
  directions = [];
  state = start level;
  numbers = [];
  first_boxes = in_order level.boxes;
  boxes = in_order level.boxes;
  spelled = refl;
  in_order = in_order_is level.boxes;
  pushed = λ rest. refl;
  numbered = numbered_in_order (in_order_is level.boxes);
  shown = shown;
  stands = record { sides = formed.sides; player = formed.player; boxes = formed.boxes; apart = formed.apart };
  player = refl;
  last = inl (refl, refl);
  moves = refl;
  pushes = refl;
  changes = refl;
  fewer = omega arith;
  as_many = refl;
}
  where
    begun : Cell → Run
    begun c = record { player = place_of c; last = 0; tally = record { moves = 0; pushes = 0; changes = 0 } }

module _ (level : Level) where
  one_longer : (ds : List Dir) (d : Dir) (rest : List Dir) → (ds ++ d ∷ []) ++ rest ≡ ds ++ d ∷ rest
  one_longer ds d rest = grind (arith, append_assoc)

  spells_more : (done : List ℕ) (ds : List Dir) (s : State) {t : State} {b : ℕ} (d : Dir) → SpellsPlay level (start level) done ds s → SpellsStep level s b d t
      → SpellsPlay level (start level) (done ++ b ∷ []) (ds ++ d ∷ []) t
  spells_more done ds s d spelled step = search (spells_join)

  -- ---- the change that a push counts
  is_change : (sides : HasSides level.shape.width level.shape.height) {boxes : List Cell} {s : Cells} (m k : ℕ) {c ahead : Cell} → AreNumbered boxes s
      → IsOn level.shape c → IsOn level.shape ahead
      → slice_get boxes m ≡ Some c → slice_get boxes k ≡ Some ahead → nat_eq (place_of c) (place_of ahead) ≡ nat_eq k m
  is_change sides {boxes} m k {c} {ahead} numbered on on_ahead at_m at_k =
      grind (arith, same_or_other, eq-eqb, place_one, near_on, same_Some, other_number, differ)
    where
      differ : same c ahead ≡ false → c ≡ ahead → ⊥
      differ f e = false≢true (sym f ∙ (ap (λ x. same x ahead) e ∙ same_itself ahead))

      other_number : (i j : ℕ) → (i ≡ j → ⊥) → nat_eq i j ≡ false
      other_number i j other = elim (eqb_tells i j) [ inl is ↦ absurd (other is.1) | inr is ↦ is.0 ]

  counted_changes : (sides : HasSides level.shape.width level.shape.height) {boxes : List Cell} {s : Cells} {numbers : List ℕ} {last : ℕ} (k : ℕ) {ahead : Cell}
      → AreNumbered boxes s → ((c : Cell) → Has s c → IsOn level.shape c) → IsLast boxes numbers last → slice_get boxes k ≡ Some ahead
      → changes numbers + cond (nat_eq last (place_of ahead)) 0 1 ≡ changes (numbers ++ k ∷ [])
  counted_changes sides {numbers} {last} k {ahead} numbered on (inl (none, zero_last)) at_k =
      let other : nat_eq last (place_of ahead) ≡ false =
      elim (eqb_tells last (place_of ahead)) [
        | inl is ↦ absurd (place_some level.shape sides (on ahead (numbered.each k ahead at_k)) (sym is.1 ∙ zero_last))
        | inr is ↦ is.0
      ] in
      grind arith
  counted_changes sides {numbers} k {ahead} numbered on (inr (before, m, c, is, at_m, e)) at_k =
      let same_count = is_change sides m k numbered (on c (numbered.each m c at_m)) (on ahead (numbered.each k ahead at_k)) at_m at_k in
      grind (arith, differs, changes_push)

module _ (level : Level) (done mailbox : List ℕ) (run : Run) (before : Progress level done mailbox run) where
  -- ---- a walk
  pub progress_walk : {b : ℕ} (d : Dir) → IsFloor level (neighbor before.state.player d) → Lacks before.state.boxes (neighbor before.state.player d)
      → b ≡ small d
      → Progress level (done ++ b ∷ []) mailbox (record {
        player = place_of (neighbor before.state.player d);
        last = run.last;
        tally = record run.tally { moves = run.tally.moves + 1 };
      })
  progress_walk d floor free letter = record {
    directions = before.directions ++ d ∷ [];
    state = walked_by before.state d;
    numbers = before.numbers;
    first_boxes = before.first_boxes;
    boxes = before.boxes;
    spelled = spells_more level done before.directions before.state d before.spelled (inl ((floor, free, refl), letter));
    in_order = before.in_order;
    pushed = λ rest. ap (pushed_numbers level.player before.first_boxes) (one_longer level before.directions d rest)
        ∙ (before.pushed (d ∷ rest) ∙ ap (λ ns. before.numbers ++ ns) (none_pushed rest));
    numbered = before.numbered;
    shown = before.shown;
    stands = record { sides = before.stands.sides; player = floor; boxes = before.stands.boxes; apart = free };
    player = refl;
    last = before.last;
    moves = let longer = length-append before.directions (d ∷ []) in omega arith;
    pushes = before.pushes;
    changes = before.changes;
    fewer = let longer = length-append before.directions (d ∷ []) in let f = before.fewer in omega arith;
    as_many = before.as_many;
  }
    where
      ahead : Cell
      ahead = neighbor before.state.player d

      none : (n : ℕ) → slice_get before.boxes n ≡ Some ahead → ⊥
      none n at = not_both before.state.boxes ahead (before.numbered.each n ahead at) free

      none_pushed : (rest : List Dir) → pushed_numbers before.state.player before.boxes (d ∷ rest) ≡ pushed_numbers ahead before.boxes rest
      none_pushed rest = λ i. option_to_list (number_none before.boxes none i) ++ pushed_numbers ahead (stepped_none before.boxes d none i) rest

  -- ---- a push
  pub progress_push : {b : ℕ} (d : Dir) {new : Run} → Has before.state.boxes (neighbor before.state.player d)
      → IsFloor level (neighbor (neighbor before.state.player d) d) → Lacks before.state.boxes (neighbor (neighbor before.state.player d) d) → b ≡ capital d
      → CountsPush run (place_of (neighbor before.state.player d)) (place_of (neighbor (neighbor before.state.player d) d)) new
      → Progress level (done ++ b ∷ []) (set (set mailbox (place_of (neighbor before.state.player d)) FREE)
      (place_of (neighbor (neighbor before.state.player d) d)) BOX) new
  progress_push d box there free letter counted = record {
    directions = before.directions ++ d ∷ [];
    state = pushed_by before.state d;
    numbers = before.numbers ++ k ∷ [];
    first_boxes = before.first_boxes;
    boxes = stepped before.boxes ahead d;
    spelled = spells_more level done before.directions before.state d before.spelled (inr ((box, there, free, refl), letter));
    in_order = before.in_order;
    pushed = λ rest. grind (arith, one_longer, one_pushed, append_assoc);
    numbered = numbered_push ahead d before.numbered box free;
    shown = mailbox_pushed level before.stands.sides before.shown here there;
    stands = grind (arith, has_insert, has_remove, lacks_where, here, apart);
    player = counted.player;
    last = inr (before.numbers, k, beyond, refl, stepped_there before.boxes d k at, counted.last);
    moves = let longer = length-append before.directions (d ∷ []) in let m = before.moves in let n = counted.moves in omega arith;
    pushes = let longer = length-append before.numbers (k ∷ []) in let m = before.pushes in let n = counted.pushes in omega arith;
    changes = counted.changes ∙ (ap (λ n. n + cond (nat_eq run.last (place_of ahead)) 0 1) before.changes
        ∙ counted_changes level before.stands.sides k before.numbered
        (λ c h. (before.stands.boxes c h).0) before.last at);
    fewer = grind (arith, length-append);
    as_many = len_moved before.state.boxes ahead beyond box free ∙ before.as_many;
  }
    where
      ahead : Cell
      ahead = neighbor before.state.player d

      beyond : Cell
      beyond = neighbor ahead d

      here : IsFloor level ahead
      here = before.stands.boxes ahead box

      apart : ahead ≢ beyond
      apart = neighbor_other d here.0

      k : ℕ
      k = (before.numbered.all ahead box).0

      at : slice_get before.boxes k ≡ Some ahead
      at = (before.numbered.all ahead box).1

      one_pushed : (rest : List Dir) → pushed_numbers before.state.player before.boxes (d ∷ rest) ≡ (k ∷ []) ++ pushed_numbers ahead
          (stepped before.boxes ahead d) rest
      one_pushed rest = ap (λ o. option_to_list o ++ pushed_numbers ahead (stepped before.boxes ahead d) rest) (number_some before.numbered at)

  -- ---- what the counts need at a letter
  pub room_left : run.tally.moves + 1 < 2 ^ 64 → HasRoom run
  room_left moves = grind (arith, changes_few)

module _ (level : Level) where
  -- ---- a letter that spells no step
  named_by : (s : State) {b : ℕ} {d e : Dir} {t : State} → Names b e → SpellsStep level s b d t → d ≡ e
  named_by s name (inl (walk, x)) = grind (arith, names_one)
  named_by s name (inr (push, x)) = grind (arith, names_one)

  pub blocked_stuck : (s : State) (d : Dir) (t : State) → IsBlocked level s d → Steps level s d t → ⊥
  blocked_stuck s d t blocked (inl walk) = grind (arith, not_both)
  blocked_stuck s d t blocked (inr push) = grind (arith, not_both)

  cause_stuck : (s : State) (b : ℕ) (why : MoveWhy) (d : Dir) (t : State) → IsCause level s b why → SpellsStep level s b d t → ⊥
  cause_stuck s b Letter d t cause (inl (walk, x)) = cause d (inl x)
  cause_stuck s b Letter d t cause (inr (push, x)) = cause d (inr x)
  cause_stuck s b Wall d t (e, name, wall) step = wall.stuck t (rw (named_by s name step) at (step_steps level s d step))
  cause_stuck s b Blocked d t (e, name, blocked) step = grind (arith, blocked_stuck, named_by, step_steps)
  cause_stuck s b Case d t (e, u, inl (walk, x)) (inl (other, y)) = small_not_capital d e y x
  cause_stuck s b Case d t (e, u, inl (walk, x)) (inr (other, y)) = grind (arith, not_both, names_one)
  cause_stuck s b Case d t (e, u, inr (push, x)) (inl (other, y)) = grind (arith, not_both, names_one)
  cause_stuck s b Case d t (e, u, inr (push, x)) (inr (other, y)) = small_not_capital e d x y

  pub fails_at : (done mailbox : List ℕ) (run : Run) (before : Progress level done mailbox run) (b : ℕ) (after : List ℕ) (why : MoveWhy)
      → IsCause level before.state b why → FailsAt level (done ++ b ∷ after) (run.tally.moves + 1) why
  fails_at done mailbox run before b after why cause = record {
    before = done;
    letter = b;
    after = after;
    split = refl;
    number = let same_length = spells_length level (start level) done before.directions before.state before.spelled in let m = before.moves in omega arith;
    directions = before.directions;
    reached = before.state;
    spelled = before.spelled;
    stuck = stuck;
    cause = cause;
  }
    where
      next_stuck : (u : State) (es : List Dir) (t : State) → before.state ≡ u → SpellsPlay level u (b ∷ []) es t → ⊥
      next_stuck u [] t e spelled = spelled
      next_stuck u (d ∷ es) t e (v, step, rest) = cause_stuck before.state b why d v cause (rw e step)

      stuck : (es : List Dir) (t : State) → SpellsPlay level (start level) (done ++ b ∷ []) es t → ⊥
      stuck es t spelled =
          let parts = spells_split level (start level) done (b ∷ []) es t spelled in
          let alike = spells_alike level (start level) done before.directions parts.first before.state parts.between before.spelled parts.spelled in
          next_stuck parts.between parts.rest t alike.1 parts.then

  -- ---- the end
  pushed_all : (done mailbox : List ℕ) (run : Run) (before : Progress level done mailbox run)
      → pushed_numbers level.player before.first_boxes before.directions ≡ before.numbers
  pushed_all done mailbox run before = ap (pushed_numbers level.player before.first_boxes) (sym (append-nil before.directions))
      ∙ (before.pushed [] ∙ append-nil before.numbers)

  counts_end : {done mailbox : List ℕ} {run : Run} (before : Progress level done mailbox run) → Counts level before.directions run.tally
  counts_end before = search (pushed_all)

  pub solves_end : (text mailbox : List ℕ) (run : Run) (before : Progress level (letters text) mailbox run) (off : ℕ)
      → off ≡ finset.len (off_goals level before.state) → off ≡ 0 → Solves level text run.tally
  solves_end text mailbox run before off count none = record {
    directions = before.directions;
    end = before.state;
    spelled = before.spelled;
    played = spells_plays level (start level) (letters text) before.directions before.state before.spelled;
    solved = off_none level.goals before.state.boxes (sym count ∙ none);
    counts = counts_end before;
  }

  pub unsolved_end : (text mailbox : List ℕ) (run : Run) (before : Progress level (letters text) mailbox run) (off : ℕ)
      → off ≡ finset.len (off_goals level before.state) → 0 < off → EndsUnsolved level (letters text) off
  unsolved_end text mailbox run before off count some = search

pub continues_then : {f g h : List ℕ} {a b c : Run} {bs cs : List ℕ} → Continues f a bs g b → Continues g b cs h c → Continues f a (bs ++ cs) h c
continues_then {h} {c} {bs} {cs} first second level done before = grind (arith, append_assoc)

pub under_way_then : {f g : List ℕ} {a b : Run} {bs : List ℕ} → Continues f a bs g b → IsUnderWay f a → IsUnderWay g b
under_way_then {bs} more (level, done, before) = (level, done ++ bs, more level done before)

-- bytes of a text that are played, and then bytes of a part that begins after them, are played together
pub played_on : {f g h : List ℕ} {a b c : Run} {text : List ℕ} {i : ℕ} (j : ℕ) {n : ℕ} → IsPlayed f a text i g b → IsPlayed g b (take (j - i) (drop i text)) n h c
    → IsPlayed f a text (i + n) h c
played_on {text} {i} j {n} first second =
    let short = length-take (j - i) (drop i text) in
    let left = length-drop i text in
    let inside = second.within in
    let before = first.within in
    let moves = first.moves in
    let more = second.moves in
    record {
      within = omega arith;
      moves = omega arith;
      continues = rw (letters_on text i n (j - i) (omega arith)) (continues_then first.continues second.continues);
    }

-- the letters of a line up to a place and the letters from there up to another place lead on together
pub continues_up : (f g h : List ℕ) (a b c : Run) (line : List ℕ) (i j : ℕ) → i ≤ j → Continues f a (letters (take i line)) g b
    → Continues g b (letters (take (j - i) (drop i line))) h c → Continues f a (letters (take j line)) h c
continues_up f g h a b c line i j le first second = subst (λ xs. Continues f a xs h c) (sym (letters_between line le)) (continues_then first second)

-- letters that fail after others that were played make all of them fail
pub fails_then : (f g : List ℕ) (a b : Run) (bs cs : List ℕ) (n : ℕ) (why : MoveWhy) → Continues f a bs g b → FailsBy g b cs n why
    → FailsBy f a (bs ++ cs) n why
fails_then f g a b bs cs n why more fails level done after before =
    subst (λ xs. FailsAt level xs n why) (append_assoc done bs (cs ++ after) ∙ ap (λ xs. done ++ xs) (sym (append_assoc bs cs after)))
    (fails level (done ++ bs) after (more level done before))

pub fails_before : {f : List ℕ} {a : Run} (bs cs : List ℕ) {n : ℕ} {why : MoveWhy} → FailsBy f a bs n why → FailsBy f a (bs ++ cs) n why
fails_before bs cs {n} {why} fails level done after before = grind (arith, append_assoc)

pub fault_then : {f g : List ℕ} {a b : Run} {bs : List ℕ} (cs : List ℕ) (fault : ReplayFault) → Continues f a bs g b → FailsOn g b cs fault → FailsOn f a (bs ++ cs) fault
fault_then cs (Move n why) more fails = search (fails_then)
fault_then cs (Unsolved n) more fails = fails
fault_then cs Memory more fails = fails

pub fault_before : (f : List ℕ) (a : Run) (bs cs : List ℕ) (fault : ReplayFault) → FailsOn f a bs fault → FailsOn f a (bs ++ cs) fault
fault_before f a bs cs (Move n why) fails = fails_before bs cs fails
fault_before f a bs cs (Unsolved n) fails = fails
fault_before f a bs cs Memory fails = fails

-- bytes of a text that are played, and then the next one, are played together
pub played_more : {f g h : List ℕ} {a b c : Run} {text : List ℕ} {i : ℕ} → i < length text → IsPlayed f a text i g b
    → c.tally.moves ≤ b.tally.moves + 1 → Continues g b (letters (get_or text i 0 ∷ [])) h c → IsPlayed f a text (i + 1) h c
played_more {text} inside before moves one = record {
  within = omega arith;
  moves = omega arith;
  continues = rw (letters_more text inside) (continues_then before.continues one);
}

-- a fault in the next byte, after bytes that are played, is a fault of the text
pub fault_next : {f g : List ℕ} {a b : Run} {text : List ℕ} {i : ℕ} (fault : ReplayFault) → i < length text → IsPlayed f a text i g b
    → FailsOn g b (letters (get_or text i 0 ∷ [])) fault → FailsOn f a (letters text) fault
fault_next {f} {a} {text} {i} fault inside before fails = rw (letters_around text inside) (grind (arith, fault_before, fault_then))

-- ---- a whole text
pub fails_first : (level : Level) (mailbox : List ℕ) (run : Run) (text : List ℕ) (fault : ReplayFault) → Progress level [] mailbox run
    → FailsOn mailbox run (letters text) fault → IsFirstSolutionFault level text fault
fails_first level mailbox run text (Move n why) first fails = subst (λ xs. FailsAt level xs n why) (append-nil (letters text)) (fails level [] [] first)
fails_first level mailbox run text (Unsolved n) first fails = absurd fails
fails_first level mailbox run text Memory first fails = absurd fails
