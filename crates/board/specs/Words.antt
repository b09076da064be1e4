-- The words for why a level isn't legal.
use Rattle.std.specs.Prelude.{ℕ, List, [], codes}
use Rattle.board.specs.declared.reading.BoardFault.{BoardFault}
use Rattle.board.specs.declared.reading.BoardFault.TheVariants.{Size, Player, Box, Goals, Open, Memory}

-- each fault of a level has these words; out of memory is no fault of a level, so it has none
abbrev pub board_words : BoardFault → List ℕ
board_words Size = codes "size"
board_words Player = codes "player"
board_words Box = codes "box"
board_words Goals = codes "goals"
board_words Open = codes "open"
board_words Memory = []
