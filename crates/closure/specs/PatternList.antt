-- A list to which patterns are added one after another.
use Rattle.std.specs.Prelude.{◌≡◌, List, MatchOption}
use Rattle.answers.specs.Body.{PatternLine}
use Rattle.certificates.specs.Pattern.{patterns_of, AreLawful}
use Rattle.closure.specs.Arena.{lines_in}
use Rattle.closure.specs.{FirstFault.IsFirstPatternFault, declared.fault.CheckFault.TheVariants.Line}
use Rattle.closure.specs.declared.pattern_list.PatternList.{PatternList}

-- These lines were added to the list: it has them if they are lawful, and otherwise the first one that isn't.
abbrev pub IsListOf : {S : Type 0} → List PatternLine → PatternList S → Type 0
IsListOf lines list = MatchOption list.unlawful
    ((lines_in list.arena ≡ lines) × AreLawful list.board.now (patterns_of lines))
    (λ first. IsFirstPatternFault list.board.now lines (Line first.0 first.1))
