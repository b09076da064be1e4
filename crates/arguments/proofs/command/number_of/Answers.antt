-- What a number that clap read says of its text.
-- Std reads digits, with or without a plus before them, as their value if that fits the type. So a number that was read is
-- the value of the text; and the text of a level's number is read as that number, because it fits.
use Rattle.std.proofs.Common.{◌≡◌, ◌≤◌, ◌∙◌, ℕ, Option, Some, None, refl, sym, arith}
use Rattle.std.specs.Prelude.{unwrap_or}
use Rattle.std.specs.Str.Parse.{ParsesUnsigned, ExplainsUnsignedError, HasUnsignedDigitsIfOk}
use Rattle.std.proofs.lemmas.Option.{none-some}
use Rattle.clap.specs.Words.{ReadsOne, Text, found_of}
use Rattle.clap.proofs.WalkLemmas.{one_text-rows}
use Rattle.arguments.specs.Command.{IsNumberIn}
use Rattle.arguments.proofs.command.number_of.Goals as goal

-- the result is what std reads in the text as a number of 16 bits
abbrev Reads : Text → Option ℕ → Type 0
Reads = ReadsOne (λ text result. ParsesUnsigned 16 10 text result × ExplainsUnsignedError 10 text result × HasUnsignedDigitsIfOk text result)

-- the text of a level's number is read as that number
read_as_number : (text : Text) (n : ℕ) (read : Option ℕ) → IsNumberIn text n → Reads text read → unwrap_or read 0 ≡ n
read_as_number text n None is reads = grind arith
read_as_number text n (Some m) is reads = reads.0.1 ∙ is.1

-- a number that was read, in range, is the number in its text
number_in_text : (found : Option Text) {n : ℕ} {read : Option ℕ} → read ≡ Some n → 1 ≤ n → n ≤ 10000
    → (found ≡ None → read ≡ None) → ((text : Text) → found ≡ Some text → Reads text read) → (text : Text) × (found ≡ Some text) × IsNumberIn text n
number_in_text None is low high absent reads = grind (arith, none-some)
number_in_text (Some text) {n} is low high absent reads =
    let parsed : Reads text (Some n) = rw is at reads text refl in
    (text, refl, (parsed.0.0.0, sym parsed.0.1, (low, high)))

pub returns-in_err-n-clause-none : goal.returns-in_err-n-clause-none
returns-in_err-n-clause-none c text n is number = grind (arith, one_text-rows, read_as_number)

pub returns-then-n-lt1-clause-none : goal.returns-then-n-lt1-clause-none
returns-then-n-lt1-clause-none c text n is number = grind (arith, one_text-rows, read_as_number)

pub returns-clause-some : goal.returns-clause-some
returns-clause-some c =
    let rows = one_text-rows (found_of c.args.inner.now) c.args.id.now in
    let read = number_in_text _ c.in_ok-n.was c.if-n-lt1.false c.if-n-gt-MAX_NUMBER.false
    (λ none. c.get_one.ensures.none (rows ∙ none)) (λ text is. c.get_one.ensures.value text (rows ∙ is)) in
    rw c.from.ensures read
