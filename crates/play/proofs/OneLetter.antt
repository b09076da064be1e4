-- What a letter does on a mailbox. Its step leads from the player's place to that of the cell beside it. The byte there
-- says whether the letter is a legal step of its case, and if not, why. A blank stays on the player's own cell, which
-- is free, so it is never a fault.
use Rattle.std.proofs.Common.{◌≡◌, ◌≢◌, ◌⊎◌, ℕ, ◌+◌, ◌%◌, ◌^◌, ◌<◌, true, false, ltb, List, [], ◌∷◌, ◌++◌, length, get_or, set, refl, sym, ◌∙◌}
use Rattle.std.proofs.Common.{ap, subst, inl, inr, arith}
use Rattle.std.proofs.lemmas.Bool.{eqb-true}
use Rattle.std.proofs.lemmas.List.{append-nil}
use Rattle.cellset.proofs.Truth.{or_cases}
use Rattle.cellset.specs.Cell.{neighbor, IsOn}
use Rattle.cellset.specs.declared.dir.Dir.{Dir}
use Rattle.cellset.specs.declared.dir.Dir.TheVariants.{L, U, R, D}
use Rattle.board.specs.Game.{Level}
use Rattle.play.specs.Spelling.{is_blank, letters, small, capital}
use Rattle.play.specs.FirstFault.{Names, IsCause, FailsAt}
use Rattle.play.specs.Mailbox.{place_of, stride, IsShown}
use Rattle.play.specs.Letter.{IsRead}
use Rattle.play.specs.Progress.{Progress, IsNoWalk, CountsPush}
use Rattle.play.specs.declared.run.Run.{Run}
use Rattle.play.specs.declared.letters.Letter.{Letter as ReadLetter}
use Rattle.play.specs.declared.letters.TheConstants.{WALK, PUSH, FOREIGN}
use Rattle.play.specs.declared.mailbox.TheConstants.{FREE, WALL, BOX}
use Rattle.play.specs.declared.fault.MoveWhy.{MoveWhy}
use Rattle.play.specs.declared.fault.MoveWhy.TheVariants.{Letter, Wall, Blocked, Case}
use Rattle.play.proofs.Spellings.{walked_by, pushed_by}
use Rattle.play.proofs.Texts.{letters_one, letters_none}
use Rattle.play.proofs.Places.{near_on, near_neighbor, place_step, place_fits}
use Rattle.play.proofs.Mailboxes.{free_by, wall_by, box_by, barred_by, free_byte}
use Rattle.play.proofs.Replays.{progress_walk, progress_push, fails_at}

-- the letter names a direction
record Directs (letter : ReadLetter) (d : Dir) : Type 0 where
  pub step : letter.step ≡ stride d
  pub named : ((letter.byte ≡ small d) × (letter.kind ≡ WALK)) ⊎ ((letter.byte ≡ capital d) × (letter.kind ≡ PUSH))

small_not_blank : (d : Dir) → is_blank (small d) ≡ false
small_not_blank L = refl
small_not_blank U = refl
small_not_blank R = refl
small_not_blank D = refl

capital_not_blank : (d : Dir) → is_blank (capital d) ≡ false
capital_not_blank L = refl
capital_not_blank U = refl
capital_not_blank R = refl
capital_not_blank D = refl

-- a small letter is above every blank
pub small_above : (b : ℕ) (d : Dir) → b ≡ small d → ltb 32 b ≡ true
small_above b L is = ap (ltb 32) is
small_above b U is = ap (ltb 32) is
small_above b R is = ap (ltb 32) is
small_above b D is = ap (ltb 32) is

pub blank_below : (b : ℕ) → is_blank b ≡ true → ltb 32 b ≡ false
blank_below b blank = grind (arith, or_cases, eqb-true)

names : (letter : ReadLetter) (d : Dir) → ((letter.byte ≡ small d) × (letter.kind ≡ WALK)) ⊎ ((letter.byte ≡ capital d) × (letter.kind ≡ PUSH))
    → Names letter.byte d
names letter d (inl (is, _)) = inl is
names letter d (inr (is, _)) = inr is

pub not_blank : {b : ℕ} (d : Dir) → Names b d → is_blank b ≡ false
not_blank d (inl is) = ap is_blank is ∙ small_not_blank d
not_blank d (inr is) = ap is_blank is ∙ capital_not_blank d

module _ (level : Level) (done mailbox : List ℕ) (run : Run) (before : Progress level done mailbox run) (letter : ReadLetter) where
  abbrev ahead : ℕ
  ahead = (run.player + letter.step) % 2 ^ 16

  abbrev beyond : ℕ
  beyond = (ahead + letter.step) % 2 ^ 16

  -- ---- the player's own cell
  still : letter.step ≡ 0 → ahead ≡ place_of before.state.player
  still none = grind (arith, place_fits)

  here_free : get_or mailbox (place_of before.state.player) 0 ≡ FREE
  here_free = grind (arith, free_byte, near_on)

  directed : IsRead letter → IsNoWalk mailbox run letter → letter.kind ≢ FOREIGN → (d : Dir) × Directs letter d
  directed (inl (blank, step, kind_is)) no_walk known = grind (arith, still, here_free)
  directed (inr (inl (d, named, step, kind_is))) no_walk known = grind arith
  directed (inr (inr (inl (d, named, step, kind_is)))) no_walk known = grind arith
  directed (inr (inr (inr (_, _, step, kind_is)))) no_walk known = absurd (known kind_is)

  -- ---- the cell ahead, and the one beyond it
  ahead_is : (d : Dir) → letter.step ≡ stride d → ahead ≡ place_of (neighbor before.state.player d)
  ahead_is d step = grind (arith, place_step)

  beyond_is : (d : Dir) → letter.step ≡ stride d → IsOn level.shape (neighbor before.state.player d)
      → beyond ≡ place_of (neighbor (neighbor before.state.player d) d)
  beyond_is d step on = grind (arith, ahead_is, place_step)

  pub ahead_within : IsRead letter → ahead < length mailbox
  ahead_within (inl (blank, step, kind_is)) = grind (arith, still, near_on)
  ahead_within (inr (inl (d, named, step, kind_is))) = rw (ahead_is d step) (before.shown.places _ (near_neighbor level.shape d before.stands.player.0))
  ahead_within (inr (inr (inl (d, named, step, kind_is)))) = rw (ahead_is d step) (before.shown.places _ (near_neighbor level.shape d before.stands.player.0))
  ahead_within (inr (inr (inr (_, _, step, _)))) = grind (arith, still, near_on)

  ahead_shown : (d : Dir) → letter.step ≡ stride d → IsShown level before.state.boxes (neighbor before.state.player d) (get_or mailbox ahead 0)
  ahead_shown d step = grind (arith, ahead_is, near_neighbor)

  beyond_shown : (d : Dir) → letter.step ≡ stride d → IsOn level.shape (neighbor before.state.player d)
      → IsShown level before.state.boxes (neighbor (neighbor before.state.player d) d) (get_or mailbox beyond 0)
  beyond_shown d step on = grind (arith, beyond_is, near_neighbor)

  -- ---- a letter that is a legal step
  -- a walk or a blank is played by moving the player to the free cell ahead
  pub walked : IsRead letter → letter.kind ≡ WALK → get_or mailbox ahead 0 ≡ FREE → (moves : ℕ)
      → ((d : Dir) → letter.byte ≡ small d → moves ≡ run.tally.moves + 1) → (is_blank letter.byte ≡ true → moves ≡ run.tally.moves)
      → Progress level (done ++ letters (letter.byte ∷ [])) mailbox (record { player = ahead; last = run.last; tally = record run.tally { moves = moves } })
  walked (inl (blank, step, kind_is)) kind free moves counted none = grind (arith, letters_none, append-nil, still)
  walked (inr (inl (d, named, step, kind_is))) kind free moves counted none =
      let (floor, lacks) = free_by level before.state.boxes (neighbor before.state.player d) (get_or mailbox ahead 0) (ahead_shown d step) free in
      rw (letters_one {x = letter.byte} [] (not_blank d (inl named)), ahead_is d step, counted d named)
      (progress_walk level done mailbox run before d floor lacks named)
  walked (inr (inr (inl (d, named, step, kind_is)))) kind free moves counted none = absurd (omega arith)
  walked (inr (inr (inr (_, _, step, kind_is)))) kind free moves counted none = absurd (omega arith)

  -- a letter that is a push
  module _ (read : IsRead letter) (no_walk : IsNoWalk mailbox run letter) (known : letter.kind ≢ FOREIGN) where
    pub beyond_within : get_or mailbox ahead 0 ≡ BOX → beyond < length mailbox
    beyond_within is =
        let (d, directs) = directed read no_walk known in
        let (floor, box) = box_by level before.state.boxes (neighbor before.state.player d) (get_or mailbox ahead 0) (ahead_shown d directs.step) is in
        subst (λ n. n < length mailbox) (sym (beyond_is d directs.step floor.0))
        (before.shown.places (neighbor (neighbor before.state.player d) d) (near_neighbor level.shape d floor.0))

    pub pushed_on : {new : Run} → letter.kind ≡ PUSH → get_or mailbox ahead 0 ≡ BOX → get_or mailbox beyond 0 ≡ FREE → CountsPush run ahead beyond new
        → Progress level (done ++ letters (letter.byte ∷ [])) (set (set mailbox ahead FREE) beyond BOX) new
    pushed_on {new} kind is free counted =
        let (d, directs) = directed read no_walk known in
        let (floor, box) = box_by level before.state.boxes (neighbor before.state.player d) (get_or mailbox ahead 0) (ahead_shown d directs.step) is in
        let (there, lacks) = free_by level before.state.boxes (neighbor (neighbor before.state.player d) d) (get_or mailbox beyond 0)
        (beyond_shown d directs.step floor.0) free in
        let named = is_capital d directs.named in
        let at = ahead_is d directs.step in
        let to = beyond_is d directs.step floor.0 in
        rw (letters_one {x = letter.byte} [] (not_blank d (inr named)), to, at)
        (progress_push level done mailbox run before d box there lacks named (rw (to, at) at counted))
      where
        is_capital : (d : Dir) → ((letter.byte ≡ small d) × (letter.kind ≡ WALK)) ⊎ ((letter.byte ≡ capital d) × (letter.kind ≡ PUSH)) → letter.byte ≡ capital d
        is_capital d (inl (_, walk)) = absurd (omega arith)
        is_capital d (inr (named, _)) = named

  -- ---- a letter that is none
  fails : (after : List ℕ) (why : MoveWhy) → is_blank letter.byte ≡ false → IsCause level before.state letter.byte why
      → FailsAt level (done ++ (letters (letter.byte ∷ []) ++ after)) (run.tally.moves + 1) why
  fails after why letter_here cause = subst (λ bs. FailsAt level (done ++ (bs ++ after)) (run.tally.moves + 1) why)
      (sym (letters_one {x = letter.byte} [] letter_here)) (fails_at level done mailbox run before letter.byte after why cause)

  pub fails_foreign : (after : List ℕ) → IsRead letter → letter.kind ≡ FOREIGN
      → FailsAt level (done ++ (letters (letter.byte ∷ []) ++ after)) (run.tally.moves + 1) Letter
  fails_foreign after (inl (_, step, kind_is)) kind = absurd (omega arith)
  fails_foreign after (inr (inl (_, _, step, kind_is))) kind = absurd (omega arith)
  fails_foreign after (inr (inr (inl (_, _, step, kind_is)))) kind = absurd (omega arith)
  fails_foreign after (inr (inr (inr (letter_here, none, step, kind_is)))) kind = fails after Letter letter_here none

  module _ (after : List ℕ) (read : IsRead letter) (no_walk : IsNoWalk mailbox run letter) (known : letter.kind ≢ FOREIGN) where
    pub fails_wall : get_or mailbox ahead 0 ≡ WALL → FailsAt level (done ++ (letters (letter.byte ∷ []) ++ after)) (run.tally.moves + 1) Wall
    fails_wall is = grind (arith, directed, names, wall_by, ahead_shown, fails, not_blank)

    pub fails_blocked : get_or mailbox ahead 0 ≡ BOX → get_or mailbox beyond 0 ≢ FREE
        → FailsAt level (done ++ (letters (letter.byte ∷ []) ++ after)) (run.tally.moves + 1) Blocked
    fails_blocked is other =
        let (d, directs) = directed read no_walk known in
        let name = names letter d directs.named in
        let (floor, box) = box_by level before.state.boxes (neighbor before.state.player d) (get_or mailbox ahead 0) (ahead_shown d directs.step) is in
        let behind = barred_by level before.state.boxes _ _ (beyond_shown d directs.step floor.0) other in
        fails after Blocked (not_blank d name) (d, name, record { floor = floor; box = box; behind = behind })

    -- a small letter fails if its step is a push
    pub fails_small : get_or mailbox ahead 0 ≡ BOX → get_or mailbox beyond 0 ≡ FREE → letter.kind ≢ PUSH
        → FailsAt level (done ++ (letters (letter.byte ∷ []) ++ after)) (run.tally.moves + 1) Case
    fails_small is free other =
        let (d, directs) = directed read no_walk known in
        let name = names letter d directs.named in
        let (floor, box) = box_by level before.state.boxes (neighbor before.state.player d) (get_or mailbox ahead 0) (ahead_shown d directs.step) is in
        let (there, lacks) = free_by level before.state.boxes (neighbor (neighbor before.state.player d) d) (get_or mailbox beyond 0)
        (beyond_shown d directs.step floor.0) free in
        fails after Case (not_blank d name) (d, pushed_by before.state d, inr ((box, there, lacks, refl), is_small d directs.named))
      where
        is_small : (d : Dir) → ((letter.byte ≡ small d) × (letter.kind ≡ WALK)) ⊎ ((letter.byte ≡ capital d) × (letter.kind ≡ PUSH)) → letter.byte ≡ small d
        is_small d (inl (named, _)) = named
        is_small d (inr (_, push)) = absurd (other push)

    -- a capital fails if its step is a walk
    pub fails_capital : get_or mailbox ahead 0 ≢ WALL → get_or mailbox ahead 0 ≢ BOX
        → FailsAt level (done ++ (letters (letter.byte ∷ []) ++ after)) (run.tally.moves + 1) Case
    fails_capital no_wall no_box =
        let (d, directs) = directed read no_walk known in
        let name = names letter d directs.named in
        let free = is_free d (ahead_shown d directs.step) in
        let (floor, lacks) = free_by level before.state.boxes (neighbor before.state.player d) (get_or mailbox ahead 0) (ahead_shown d directs.step) free in
        fails after Case (not_blank d name) (d, walked_by before.state d, inl ((floor, lacks, refl), is_capital d free directs.named))
      where
        is_free : (d : Dir) → IsShown level before.state.boxes (neighbor before.state.player d) (get_or mailbox ahead 0) → get_or mailbox ahead 0 ≡ FREE
        is_free d (inl (e, _, _)) = e
        is_free d (inr (inl (e, _, _))) = absurd (no_wall e)
        is_free d (inr (inr (e, _, _))) = absurd (no_box e)

        is_capital : (d : Dir) → get_or mailbox ahead 0 ≡ FREE
            → ((letter.byte ≡ small d) × (letter.kind ≡ WALK)) ⊎ ((letter.byte ≡ capital d) × (letter.kind ≡ PUSH)) → letter.byte ≡ capital d
        is_capital d free (inl (_, walk)) = absurd (no_walk walk free)
        is_capital d free (inr (named, _)) = named
