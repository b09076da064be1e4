-- The words of errors, which the program prints on standard error.
use Rattle.std.specs.Prelude.{ℕ, List, ◌++◌, codes, decimal}
use Rattle.board.specs.Words.{board_words}
use Rattle.answers.specs.Words.{why_word}
use Rattle.report.specs.declared.fault.Which.{Which}
use Rattle.report.specs.declared.fault.Which.TheVariants as which
use Rattle.report.specs.declared.fault.AuditError.{AuditError}
use Rattle.report.specs.declared.fault.AuditError.TheVariants.{Read, Write, TooLong, TooManyLevels, Answers, Memory}
use Rattle.report.specs.declared.fault.DeadError.{DeadError}
use Rattle.report.specs.declared.fault.DeadError.TheVariants.{Audit, NoLevel, Board}

-- the word names one of the two texts
abbrev pub which_word : Which → List ℕ
which_word which.Levels = codes "levels"
which_word which.Answers = codes "answers"

-- each error of an audit has these words
abbrev pub audit_error_words : AuditError → List ℕ
audit_error_words (Read text) = codes "cannot read " ++ which_word text
audit_error_words Write = codes "cannot write"
audit_error_words (TooLong text) = which_word text ++ codes " too long"
audit_error_words TooManyLevels = codes "too many levels"
audit_error_words (Answers line reason) = codes "answers line " ++ decimal line ++ codes " " ++ why_word reason
audit_error_words Memory = codes "out of memory"

-- each error of a map has these words
abbrev pub error_words : DeadError → List ℕ
error_words (Audit error) = audit_error_words error
error_words NoLevel = codes "no such level"
error_words (Board fault) = codes "board " ++ board_words fault

-- the program prints this line
abbrev pub error_line : DeadError → List ℕ
error_line error = error_words error ++ codes "\n"
