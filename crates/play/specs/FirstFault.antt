-- The first fault of a text that does not solve its level.
--   fails at n    the letters before letter n, counted from 1 without blanks, spell a play, and with letter n they spell none
--   unsolved      the whole text spells a play, and some boxes are off the goals at its end
use Rattle.std.specs.Prelude.{◌≡◌, ◌⊎◌, ℕ, ◌+◌, ◌<◌, List, [], ◌∷◌, ◌++◌, length}
use Rattle.std.specs.FinSet as set
use Rattle.cellset.specs.CellSet.{Cells}
use Rattle.cellset.specs.declared.dir.Dir.{Dir}
use Rattle.board.specs.Game.{Level, State, Walks, Pushes, start}
use Rattle.play.specs.State.{IsWallAhead, IsBlocked}
use Rattle.play.specs.Spelling.{letters, small, capital, SpellsPlay}
use Rattle.play.specs.declared.fault.MoveWhy.{MoveWhy}
use Rattle.play.specs.declared.fault.MoveWhy.TheVariants.{Letter, Wall, Blocked, Case}
use Rattle.play.specs.declared.fault.ReplayFault.{ReplayFault}
use Rattle.play.specs.declared.fault.ReplayFault.TheVariants.{Move, Unsolved, Memory}

-- the letter names the direction, in either case
abbrev pub Names : ℕ → Dir → Type 0
Names b d = (b ≡ small d) ⊎ (b ≡ capital d)

-- why a letter spells no step from a state, the first that holds in this order:
-- it is none of the eight; the next cell is a wall; the next cell has a box that cannot move on; it is of the wrong case
abbrev pub IsCause : Level → State → ℕ → MoveWhy → Type 0
IsCause level s b Letter = (d : Dir) → Names b d → ⊥
IsCause level s b Wall = (d : Dir) × Names b d × IsWallAhead level s d
IsCause level s b Blocked = (d : Dir) × Names b d × IsBlocked level s d
IsCause level s b Case = (d : Dir) × (t : State) × ((Walks level s d t × (b ≡ capital d)) ⊎ (Pushes level s d t × (b ≡ small d)))

-- letter n is the first that spells no step, and why
pub record FailsAt (level : Level) (all : List ℕ) (n : ℕ) (why : MoveWhy) : Type 0 where
  pub before : List ℕ
  pub letter : ℕ
  pub after : List ℕ
  pub split : all ≡ before ++ letter ∷ after
  pub number : n ≡ length before + 1
  pub directions : List Dir
  pub reached : State
  pub spelled : SpellsPlay level (start level) before directions reached
  pub stuck : (ds : List Dir) (t : State) → SpellsPlay level (start level) (before ++ letter ∷ []) ds t → ⊥
  pub cause : IsCause level reached letter why

-- the boxes off the goals
abbrev pub off_goals : Level → State → Cells
off_goals level s = set.difference s.boxes level.goals

-- all letters spell a play, and n boxes are off the goals at its end, at least one
pub record EndsUnsolved (level : Level) (all : List ℕ) (n : ℕ) : Type 0 where
  pub directions : List Dir
  pub end : State
  pub spelled : SpellsPlay level (start level) all directions end
  pub off : n ≡ set.len (off_goals level end)
  pub some : 0 < n

-- the first fault of a text; running out of memory is none
abbrev pub IsFirstSolutionFault : Level → List ℕ → ReplayFault → Type 0
IsFirstSolutionFault level text (Move n why) = FailsAt level (letters text) n why
IsFirstSolutionFault level text (Unsolved n) = EndsUnsolved level (letters text) n
IsFirstSolutionFault level text Memory = ⊥
