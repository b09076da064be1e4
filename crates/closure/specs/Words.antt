-- The words for why a line of a certificate is unlawful.
use Rattle.std.specs.Prelude.{ℕ, List, codes}
use Rattle.closure.specs.declared.fault.LineWhy.{LineWhy}
use Rattle.closure.specs.declared.fault.LineWhy.TheVariants as line_why
use Rattle.closure.specs.declared.fault.ZoneLineWhy.{ZoneLineWhy}
use Rattle.closure.specs.declared.fault.ZoneLineWhy.TheVariants as zone_why

-- the word says why a pattern is unlawful
abbrev pub line_word : LineWhy → List ℕ
line_word line_why.Board = codes "board"
line_word line_why.Wall = codes "wall"
line_word line_why.Seed = codes "seed"
line_word line_why.Goals = codes "goals"

-- the word says why a zone is unlawful
abbrev pub zone_word : ZoneLineWhy → List ℕ
zone_word zone_why.Board = codes "board"
zone_word zone_why.Wall = codes "wall"
