-- What it means that a text solves a level.
--   solves    the letters of the text, all of them, spell a play from the start to a state in which every box is
--             on a goal, and these are its counts
use Rattle.std.specs.Prelude.{ℕ, List}
use Rattle.cellset.specs.declared.dir.Dir.{Dir}
use Rattle.board.specs.Game.{Level, State, Plays, start, IsSolved}
use Rattle.play.specs.Spelling.{letters, SpellsPlay}
use Rattle.play.specs.Counts.{Counts}
use Rattle.play.specs.declared.tally.Tally.{Tally}

-- the text solves the level with this tally
pub record Solves (level : Level) (text : List ℕ) (tally : Tally) : Type 0 where
  pub directions : List Dir
  pub end : State
  pub spelled : SpellsPlay level (start level) (letters text) directions end
  pub played : Plays level (start level) directions end
  pub solved : IsSolved level end
  pub counts : Counts level directions tally
