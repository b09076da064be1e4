-- The words for why a line of a record is bad, and for what is wrong with a line of an answers text.
use Rattle.std.specs.Prelude.{ℕ, List, codes}
use Rattle.answers.specs.declared.record.BadLineWhy.{BadLineWhy}
use Rattle.answers.specs.declared.record.BadLineWhy.TheVariants.{Syntax, Count}
use Rattle.answers.specs.declared.fault.Why.{Why}
use Rattle.answers.specs.declared.fault.Why.TheVariants.{Header, Level, Order, Unknown, Kind, Unclosed}

-- the word says why a line of a record is bad
abbrev pub bad_line_word : BadLineWhy → List ℕ
bad_line_word Syntax = codes "syntax"
bad_line_word Count = codes "count"

-- the word says what is wrong with a line of an answers text
abbrev pub why_word : Why → List ℕ
why_word Header = codes "header"
why_word Level = codes "level"
why_word Order = codes "order"
why_word Unknown = codes "unknown"
why_word Kind = codes "kind"
why_word Unclosed = codes "unclosed"
