-- The rows determine the parts of a board, so two boards of the same rows are equal (`OneBoard.antt`). A legal level meets all conditions,
-- and a refusal says that one of them fails. For `Open` the level that is open has the parts of the same rows, so it is the board itself.
-- Two different refusals exclude each other: the later one says that the earlier condition holds.
use Rattle.std.proofs.Common.{ℕ, List}
use Rattle.board.specs.Game.{Level}
use Rattle.board.specs.Legal.{IsBoardOf, IsRefusal}
use Rattle.board.specs.declared.reading.BoardFault.{BoardFault}
use Rattle.board.specs.declared.reading.BoardFault.TheVariants.{Size, Player, Box, Goals, Open, Memory}
use Rattle.board.proofs.OneBoard.{one_board}
use Rattle.board.proofs.laws.rows_have_one_board.Goals as goal

legal_not_refused : (rows : List (List ℕ)) (level : Level) (why : BoardFault) → IsBoardOf rows level → IsRefusal rows why → ⊥
legal_not_refused rows level Size is refusal = refusal is.size
legal_not_refused rows level Player is refusal = refusal.1 is.player
legal_not_refused rows level Box is refusal = refusal.2 is.box
legal_not_refused rows level Goals is refusal = refusal.3 is.goals
legal_not_refused rows level Open is (size, player, box, goals, (other, parts, at_edge)) = is.closed (rw (one_board rows other level parts is.parts) at at_edge)
legal_not_refused rows level Memory is refusal = refusal

pub returns-clause-same : goal.returns-clause-same
returns-clause-same c = λ rows level other is is'. one_board rows level other is.parts is'.parts

pub returns-clause-refused : goal.returns-clause-refused
returns-clause-refused c = legal_not_refused
