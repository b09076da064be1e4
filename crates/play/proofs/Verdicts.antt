-- A text has only one outcome. If it solves the level, its letters determine the play and with it the counts, and no
-- letter can be the first that fails. If it doesn't, the letters before the first that fails spell a play. Two such
-- places are equal, because past the first of them nothing is spelled, and the reasons are equal because they exclude
-- each other. So apart from running out of memory, the text allows only one result.
use Rattle.std.proofs.Common.{◌≡◌, ◌≢◌, ◌⊎◌, ℕ, Result, Ok, Err, List, [], ◌∷◌, ◌++◌, append_assoc, refl, sym, ◌∙◌, ap, inl, inr, arith}
use Rattle.std.specs.Prelude.{IfOk, IfErr}
use Rattle.cellset.specs.declared.dir.Dir.{Dir}
use Rattle.cellset.proofs.Places.{places}
use Rattle.board.specs.Game.{Level, State, Walks, Pushes, Steps, start}
use Rattle.play.specs.Spelling.{letters, small, capital, SpellsPlay}
use Rattle.play.specs.Counts.{Counts}
use Rattle.play.specs.Solution.{Solves}
use Rattle.play.specs.FirstFault.{Names, IsCause, FailsAt, IsFirstSolutionFault}
use Rattle.play.specs.declared.tally.Tally.{Tally}
use Rattle.play.specs.declared.fault.MoveWhy.{MoveWhy}
use Rattle.play.specs.declared.fault.MoveWhy.TheVariants.{Letter, Wall, Blocked, Case}
use Rattle.play.specs.declared.fault.ReplayFault.{ReplayFault}
use Rattle.play.specs.declared.fault.ReplayFault.TheVariants.{Move, Unsolved, Memory}
use Rattle.play.proofs.Spellings.{names_one, spells_alike, spells_split}
use Rattle.play.proofs.ReadingLists.{one_order}
use Rattle.play.proofs.OffGoals.{none_off}
use Rattle.play.proofs.Replays.{blocked_stuck}

module _ (level : Level) where
  -- ---- the counts
  same_tally : (a b : Tally) → a.moves ≡ b.moves → a.pushes ≡ b.pushes → a.changes ≡ b.changes → a ≡ b
  same_tally a b x y z = grind arith

  counts_one : (ds : List Dir) (a b : Tally) → Counts level ds a → Counts level ds b → a ≡ b
  counts_one ds a b x y = grind (arith, one_order, same_tally)

  pub solves_one : (text : List ℕ) (a b : Tally) → Solves level text a → Solves level text b → a ≡ b
  solves_one text a b x y =
      let alike = spells_alike level (start level) (letters text) x.directions y.directions x.end y.end x.spelled y.spelled in
      counts_one y.directions a b (rw alike.0 at x.counts) y.counts

  -- ---- the reasons
  case_name : (s : State) {b : ℕ} (d : Dir) {t : State} → (Walks level s d t × (b ≡ capital d)) ⊎ (Pushes level s d t × (b ≡ small d)) → Names b d
  case_name s d (inl (walk, x)) = inr x
  case_name s d (inr (push, x)) = inl x

  case_step : (s : State) {b : ℕ} (d : Dir) {t : State} → (Walks level s d t × (b ≡ capital d)) ⊎ (Pushes level s d t × (b ≡ small d)) → Steps level s d t
  case_step s d (inl (walk, x)) = inl walk
  case_step s d (inr (push, x)) = inr push

  not_both_walls : {G : Type 0} {s : State} {b : ℕ} → IsCause level s b Wall → IsCause level s b Blocked → G
  not_both_walls (d, name, wall) (e, other, blocked) = grind (arith, names_one)

  no_wall_case : {G : Type 0} {s : State} {b : ℕ} → IsCause level s b Wall → IsCause level s b Case → G
  no_wall_case {s} (d, name, wall) (e, t, wrong) = absurd (wall.stuck t (rw (names_one (case_name s e wrong) name) at (case_step s e wrong)))

  no_blocked_case : {G : Type 0} {s : State} {b : ℕ} → IsCause level s b Blocked → IsCause level s b Case → G
  no_blocked_case (d, name, blocked) (e, t, wrong) = grind (arith, blocked_stuck, names_one, case_name, case_step)

  cause_one : (s : State) (b : ℕ) (why other : MoveWhy) → IsCause level s b why → IsCause level s b other → why ≡ other
  cause_one s b Letter Letter x y = refl
  cause_one s b Letter Wall x (d, name, _) = absurd (x d name)
  cause_one s b Letter Blocked x (d, name, _) = absurd (x d name)
  cause_one s b Letter Case x (d, t, wrong) = grind (arith, case_name)
  cause_one s b Wall Letter (d, name, _) y = absurd (y d name)
  cause_one s b Wall Wall x y = refl
  cause_one s b Wall Blocked x y = not_both_walls x y
  cause_one s b Wall Case x y = no_wall_case x y
  cause_one s b Blocked Letter (d, name, _) y = absurd (y d name)
  cause_one s b Blocked Wall x y = not_both_walls y x
  cause_one s b Blocked Blocked x y = refl
  cause_one s b Blocked Case x y = no_blocked_case x y
  cause_one s b Case Letter (d, t, wrong) y = grind (arith, case_name)
  cause_one s b Case Wall x y = no_wall_case y x
  cause_one s b Case Blocked x y = no_blocked_case y x
  cause_one s b Case Case x y = refl

  -- ---- the faults
  -- past the letter that fails, no letters spell anything
  no_longer : {G : Type 0} (all : List ℕ) (n : ℕ) (why : MoveWhy) (fails : FailsAt level all n why) (zs : List ℕ) (ds : List Dir) (t : State)
      → SpellsPlay level (start level) ((fails.before ++ fails.letter ∷ []) ++ zs) ds t → G
  no_longer all n why fails zs ds t spelled = grind (arith, spells_split)

  no_whole : {G : Type 0} {all : List ℕ} {n : ℕ} {why : MoveWhy} (fails : FailsAt level all n why) (ds : List Dir) (t : State)
      → SpellsPlay level (start level) all ds t → G
  no_whole {all} {n} {why} fails ds t spelled =
      no_longer all n why fails fails.after ds t (rw (fails.split ∙ sym (append_assoc fails.before (fails.letter ∷ []) fails.after)) at spelled)

  fails_one : (all : List ℕ) (n m : ℕ) (why other : MoveWhy) → FailsAt level all n why → FailsAt level all m other → (n ≡ m) × (why ≡ other)
  fails_one all n m why other x y =
      places x.before y.before x.letter y.letter x.after y.after (sym x.split ∙ y.split)
      (λ e f.
      grind (arith, spells_alike, cause_one))
      (λ zs e. no_longer all n why x zs y.directions y.reached (rw e at y.spelled))
      (λ zs e. no_longer all m other y zs x.directions x.reached
      (rw e at x.spelled))

  pub fault_one : (text : List ℕ) (a b : ReplayFault) → IsFirstSolutionFault level text a → IsFirstSolutionFault level text b → a ≡ b
  fault_one text (Move n why) (Move m other) x y = let one = fails_one (letters text) n m why other x y in λ i. Move (one.0 i) (one.1 i)
  fault_one text (Move n why) (Unsolved m) x y = no_whole x y.directions y.end y.spelled
  fault_one text (Move n why) Memory x y = absurd y
  fault_one text (Unsolved n) (Move m why) x y = no_whole y x.directions x.end x.spelled
  fault_one text (Unsolved n) (Unsolved m) x y = grind (arith, spells_alike)
  fault_one text (Unsolved n) Memory x y = absurd y
  fault_one text Memory b x y = absurd x

  -- a text that solves has no fault
  pub no_fault : {G : Type 0} {text : List ℕ} {tally : Tally} (fault : ReplayFault) → Solves level text tally → IsFirstSolutionFault level text fault → G
  no_fault (Move n why) solves fails = no_whole fails solves.directions solves.end solves.spelled
  no_fault (Unsolved n) solves ends = grind (arith, spells_alike, none_off)
  no_fault Memory solves fault = absurd fault

  -- ---- what a replay that is sound answers
  module _ (text : List ℕ) (answer : Result Tally ReplayFault) (found : IfOk answer (Solves level text))
      (exact : IfErr answer (λ fault. fault ≢ Memory → IsFirstSolutionFault level text fault)) where
    pub only_tally : (tally : Tally) → Solves level text tally → (answer ≡ Ok tally) ⊎ (answer ≡ Err Memory)
    only_tally tally solves = only_tally_of answer found exact
      where
        only_tally_of : (r : Result Tally ReplayFault) → IfOk r (Solves level text)
            → IfErr r (λ fault. fault ≢ Memory → IsFirstSolutionFault level text fault) → (r ≡ Ok tally) ⊎ (r ≡ Err Memory)
        only_tally_of (Ok other) ok err = inl (ap Ok (solves_one text other tally ok solves))
        only_tally_of (Err (Move n why)) ok err = no_fault (Move n why) solves (err (λ e. cc))
        only_tally_of (Err (Unsolved n)) ok err = no_fault (Unsolved n) solves (err (λ e. cc))
        only_tally_of (Err Memory) ok err = inr refl

    pub only_fault : (fault : ReplayFault) → IsFirstSolutionFault level text fault → (answer ≡ Err fault) ⊎ (answer ≡ Err Memory)
    only_fault fault is = only_fault_of answer found exact
      where
        only_fault_of : (r : Result Tally ReplayFault) → IfOk r (Solves level text)
            → IfErr r (λ fault. fault ≢ Memory → IsFirstSolutionFault level text fault) → (r ≡ Err fault) ⊎ (r ≡ Err Memory)
        only_fault_of (Ok tally) ok err = no_fault fault ok is
        only_fault_of (Err (Move n why)) ok err = inl (ap Err (fault_one text (Move n why) fault (err (λ e. cc)) is))
        only_fault_of (Err (Unsolved n)) ok err = inl (ap Err (fault_one text (Unsolved n) fault (err (λ e. cc)) is))
        only_fault_of (Err Memory) ok err = inr refl
