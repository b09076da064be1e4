-- The words for why a letter can't be played.
use Rattle.std.specs.Prelude.{ℕ, List, codes}
use Rattle.play.specs.declared.fault.MoveWhy.{MoveWhy}
use Rattle.play.specs.declared.fault.MoveWhy.TheVariants.{Letter, Wall, Blocked, Case}

-- the word says why a letter can't be played
abbrev pub move_word : MoveWhy → List ℕ
move_word Letter = codes "letter"
move_word Wall = codes "wall"
move_word Blocked = codes "blocked"
move_word Case = codes "case"
