-- The line is a word, the number and the line's end. Each call writes one of them.
use Rattle.std.proofs.Common.{[], ◌∷◌, refl, codes}
use Rattle.answers.specs.Grammar.{numeral}
use Rattle.answers.proofs.ThreeParts.{first_cut, second_cut, all_written}
use Rattle.answers.proofs.writing.write_level.Goals as goal

pub returns-in_err-write_bytes : goal.returns-in_err-write_bytes
returns-in_err-write_bytes g c =
    first_cut (codes "level ") (numeral c.args.level) (10 ∷ []) _ refl c.from_residual.ensures.0 c.in_err-write_bytes.ensures

pub returns-in_err-write_number : goal.returns-in_err-write_number
returns-in_err-write_number g c =
    second_cut (codes "level ") (numeral c.args.level) (10 ∷ []) _ refl c.from_residual-in_err-write_number.ensures.0 c.in_ok-write_bytes.ensures
    c.in_err-write_number.ensures

pub returns : goal.returns
returns g c =
    all_written (codes "level ") (numeral c.args.level) (10 ∷ []) _ refl c.in_ok-write_bytes.ensures c.in_ok-write_number.ensures c.write_bytes-2.ensures
