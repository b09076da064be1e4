-- How far a replay has come: what its mailbox and its counters say of the letters played so far.
use Rattle.std.specs.Prelude.{◌≡◌, ◌⊎◌, ℕ, ◌+◌, ◌%◌, ◌^◌, ◌≤◌, ◌<◌, ◌==◌, if◌then◌else◌, Some, List, [], ◌∷◌, ◌++◌, length, slice_get, slice_index, take}
use Rattle.std.specs.FinSet as set
use Rattle.cellset.specs.Shape.{HasSides}
use Rattle.cellset.specs.CellSet.{Cells, Has, Lacks}
use Rattle.cellset.specs.declared.cell.Cell.{Cell}
use Rattle.cellset.specs.declared.dir.Dir.{Dir}
use Rattle.board.specs.Game.{Level, State, IsFloor, start}
use Rattle.play.specs.Spelling.{SpellsPlay, letters}
use Rattle.play.specs.Counts.{IsInReadingOrder, pushed_numbers, changes}
use Rattle.play.specs.Mailbox.{place_of, IsMailboxOf}
use Rattle.play.specs.FirstFault.{FailsAt}
use Rattle.play.specs.declared.run.Run.{Run}
use Rattle.play.specs.declared.letters.Letter.{Letter}
use Rattle.play.specs.declared.letters.TheConstants.{WALK}
use Rattle.play.specs.declared.mailbox.TheConstants.{FREE}
use Rattle.play.specs.declared.fault.MoveWhy.{MoveWhy}
use Rattle.play.specs.declared.fault.ReplayFault.{ReplayFault}
use Rattle.play.specs.declared.fault.ReplayFault.TheVariants.{Move}

-- the numbered boxes are on the cells of the set, each on a cell of its own
pub record AreNumbered (boxes : List Cell) (s : Cells) : Type 0 where
  pub each : (n : ℕ) (c : Cell) → slice_get boxes n ≡ Some c → Has s c
  pub all : (c : Cell) → Has s c → (n : ℕ) × (slice_get boxes n ≡ Some c)
  pub apart : (n m : ℕ) (c : Cell) → slice_get boxes n ≡ Some c → slice_get boxes m ≡ Some c → n ≡ m

-- the place of the box of the last push, or 0 if there was no push
abbrev pub IsLast : List Cell → List ℕ → ℕ → Type 0
IsLast boxes numbers last =
    ((numbers ≡ []) × (last ≡ 0))
    ⊎ ((before : List ℕ) × (n : ℕ) × (c : Cell) × (numbers ≡ before ++ n ∷ []) × (slice_get boxes n ≡ Some c) × (last ≡ place_of c))

-- the player and the boxes are on floor, and no box is on the player's cell
pub record StandsOnFloor (level : Level) (s : State) : Type 0 where
  pub sides : HasSides level.shape.width level.shape.height
  pub player : IsFloor level s.player
  pub boxes : (c : Cell) → Has s.boxes c → IsFloor level c
  pub apart : Lacks s.boxes s.player

-- the letters done spell a play from the start, the mailbox shows the state that it leads to, and the counts are its own
pub record Progress (level : Level) (done : List ℕ) (mailbox : List ℕ) (run : Run) : Type 0 where
  pub directions : List Dir
  pub state : State
  pub numbers : List ℕ
  pub first_boxes : List Cell
  pub boxes : List Cell
  pub spelled : SpellsPlay level (start level) done directions state
  pub in_order : IsInReadingOrder first_boxes level.boxes
  pub pushed : (rest : List Dir) → pushed_numbers level.player first_boxes (directions ++ rest) ≡ numbers ++ pushed_numbers state.player boxes rest
  pub numbered : AreNumbered boxes state.boxes
  pub shown : IsMailboxOf level state.boxes mailbox
  pub stands : StandsOnFloor level state
  pub player : run.player ≡ place_of state.player
  pub last : IsLast boxes numbers run.last
  pub moves : run.tally.moves ≡ length directions
  pub pushes : run.tally.pushes ≡ length numbers
  pub changes : run.tally.changes ≡ changes numbers
  pub fewer : length numbers ≤ length directions
  pub as_many : set.len state.boxes ≡ set.len level.boxes

-- some letters of some level led to this mailbox and these counts
abbrev pub IsUnderWay : List ℕ → Run → Type 0
IsUnderWay mailbox run = (level : Level) × (done : List ℕ) × Progress level done mailbox run

-- whatever letters led to the first mailbox and its counts, more letters lead on from there to the second mailbox and its counts
abbrev pub Continues : List ℕ → Run → List ℕ → List ℕ → Run → Type 0
Continues mailbox run more mailbox' run' = (level : Level) (done : List ℕ) → Progress level done mailbox run → Progress level (done ++ more) mailbox' run'

-- the first n bytes of the text lead from the first mailbox and its counts to the second, in at most n moves
pub record IsPlayed (mailbox : List ℕ) (run : Run) (text : List ℕ) (n : ℕ) (mailbox' : List ℕ) (run' : Run) : Type 0 where
  pub within : n ≤ length text
  pub moves : run'.tally.moves ≤ run.tally.moves + n
  pub continues : Continues mailbox run (letters (take n text)) mailbox' run'

-- whatever letters led to the mailbox and this place of the player, these letters are walks that lead on to that place in the given
-- number of moves
abbrev pub WalksOn : List ℕ → ℕ → List ℕ → ℕ → ℕ → Type 0
WalksOn mailbox player more player' moves =
    (run : Run) → run.player ≡ player
    → Continues mailbox run more mailbox (record { player = player'; last = run.last; tally = record run.tally { moves = run.tally.moves + moves } })

-- whatever letters led to the mailbox and its counts, with these letters after them the text fails at letter n for this reason
abbrev pub FailsBy : List ℕ → Run → List ℕ → ℕ → MoveWhy → Type 0
FailsBy mailbox run more n why = (level : Level) (done after : List ℕ) → Progress level done mailbox run → FailsAt level (done ++ (more ++ after)) n why

-- whatever letters led to the mailbox and its counts, with these letters after them the text has this fault
abbrev pub FailsOn : List ℕ → Run → List ℕ → ReplayFault → Type 0
FailsOn mailbox run more (Move n why) = FailsBy mailbox run more n why
FailsOn mailbox run more _ = ⊥

-- the letter does not walk onto a free cell
abbrev pub IsNoWalk : List ℕ → Run → Letter → Type 0
IsNoWalk mailbox run letter = letter.kind ≡ WALK → slice_index mailbox ((run.player + letter.step) % 2 ^ 16) ≡ FREE → ⊥

-- the counts don't overflow at the next move
pub record HasRoom (run : Run) : Type 0 where
  pub moves : run.tally.moves + 1 < 2 ^ 64
  pub pushes : run.tally.pushes ≤ run.tally.moves
  pub changes : run.tally.changes ≤ run.tally.pushes

-- the counts before and after a push from one place to another
pub record CountsPush (old : Run) (from to : ℕ) (new : Run) : Type 0 where
  pub player : new.player ≡ from
  pub last : new.last ≡ to
  pub moves : new.tally.moves ≡ old.tally.moves + 1
  pub pushes : new.tally.pushes ≡ old.tally.pushes + 1
  pub changes : new.tally.changes ≡ old.tally.changes + (if old.last == from then 0 else 1)
