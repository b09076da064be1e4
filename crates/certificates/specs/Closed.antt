-- Closed lists of patterns, and what they mean.
--   closed list   every pattern is lawful, and the list covers the start and the result of every push out of each of
--                 its patterns
-- A level with a closed list isn't solvable: the list covers each state that pushes reach, and each state that it
-- covers has a box off the goals.
use Rattle.std.specs.{Prelude.List, List.Contains}
use Rattle.board.specs.{Game.Level, Game.start, Game.Solvable, Board.IsWellFormed}
use Rattle.certificates.specs.Pattern.{Pattern, AreLawful, CoversPushesOf, IsCovered}

-- lawful patterns that cover the start and every push out of them
pub record Closed (level : Level) (patterns : List Pattern) : Type 0 where
  pub lawful : AreLawful level patterns
  pub start : IsCovered level patterns (start level)
  pub pushes : (pattern : Pattern) → Contains patterns pattern → CoversPushesOf level patterns pattern

-- no list of directions, of any length, solves a level that has a closed list
abbrev pub ClosedMeansUnsolvable : Type 0
ClosedMeansUnsolvable = (level : Level) (patterns : List Pattern) → IsWellFormed level → Closed level patterns → Solvable level → ⊥
