use Rattle.std.proofs.Common.{◌≡◌, ℕ, List, arith, inl, inr, map}
use Rattle.answers.specs.Body.{LetterLines}
use Rattle.answers.specs.Grammar.{Line}
use Rattle.answers.specs.Records.{SaysOfLevel, body_lines}
use Rattle.answers.specs.declared.record_text.RecordText.{RecordText}
use Rattle.answers.proofs.LetterPieces.{letters_after}
use Rattle.answers.proofs.record_text.RecordText.letters.Goals as goal

letter_lines : (r : RecordText) (lines : List (List ℕ)) → SaysOfLevel r (LetterLines lines) → map (λ (l : Line). l.text) (body_lines r) ≡ lines
letter_lines r lines (inl h) = grind arith
letter_lines r lines (inr h) = absurd h.1

pub returns-clause-letters : goal.returns-clause-letters
returns-clause-letters c = grind (arith, letters_after, letter_lines)
