use Rattle.board.proofs.LevelRuns.{one_list}
use Rattle.board.proofs.laws.lines_have_one_list_of_levels.Goals as goal

pub returns : goal.returns
returns c = one_list
