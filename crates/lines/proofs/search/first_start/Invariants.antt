use Rattle.std.proofs.Common.{◌-◌, length}
use Rattle.lines.specs.Starts.{IsScanned}
use Rattle.lines.proofs.search.first_start.Given as goal

abbrev pub invariant-blocks-2 : goal.invariant-blocks-2
invariant-blocks-2 g l = IsScanned (g.C.Class.holds l.class) l.text l.at l.before

abbrev pub decreases-blocks-2 : goal.decreases-blocks-2
decreases-blocks-2 g l = length l.text - l.at

abbrev pub invariant-bytes : goal.invariant-bytes
invariant-bytes g l = IsScanned (g.C.Class.holds l.class) l.text l.at l.before

abbrev pub decreases-bytes : goal.decreases-bytes
decreases-bytes g l = length l.text - l.at
