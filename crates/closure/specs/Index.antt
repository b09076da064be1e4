-- An index as contracts see it: a level, and a list of pattern lines.
use Rattle.std.specs.Prelude.{ℕ, List, Option, refl}
use Rattle.std.specs.Coded.{Coded, code_by, coded×, coded_ℕ, coded_list, coded_option}
use Rattle.board.specs.{Board.coded_level, Game.Level, Game.State}
use Rattle.answers.specs.{declared.pattern.Coord.Coord, Body.PatternLine}
use Rattle.certificates.specs.Pattern.{patterns_of, IsCovered}

pub record Listed : Type 0 where
  pub level : Level
  pub lines : List PatternLine

-- the codings as numbers, which a model needs
abbrev pub coded_coord : Coded Coord
coded_coord = code_by (ℕ × ℕ) (coded× coded_ℕ coded_ℕ) (λ c. (c.row, c.column)) (λ p. record { row = p.0; column = p.1 }) (λ _. refl)

abbrev pub coded_line : Coded PatternLine
coded_line =
    code_by ((ℕ × List Coord) × Option (List Coord))
    (coded× (coded× coded_ℕ (coded_list coded_coord)) (coded_option (coded_list coded_coord)))
    (λ l. ((l.line, l.boxes), l.seeds)) (λ p. record { line = p.0.0; boxes = p.0.1; seeds = p.1 }) (λ _. refl)

abbrev pub coded_listed : Coded Listed
coded_listed = code_by (Level × List PatternLine) (coded× coded_level (coded_list coded_line)) (λ o. (o.level, o.lines)) (λ p. record { level = p.0; lines = p.1 }) (λ _. refl)

-- a pattern of the index covers the state
abbrev pub IsListedCovered : Listed → State → Type 0
IsListedCovered index s = IsCovered index.level (patterns_of index.lines) s
