-- What each byte of a solution asks for.
use Rattle.std.specs.Prelude.{◌≡◌, ◌⊎◌, ℕ, ◌+◌, true, false}
use Rattle.cellset.specs.declared.dir.Dir.{Dir}
use Rattle.play.specs.Spelling.{is_blank, small, capital}
use Rattle.play.specs.FirstFault.{Names}
use Rattle.play.specs.Mailbox.{stride}
use Rattle.play.specs.declared.letters.Letter.{Letter}
use Rattle.play.specs.declared.letters.TheConstants.{WALK, PUSH, FOREIGN, LETTER, NO_WALK}

-- the step and the kind of the letter fit its byte: a blank walks nowhere, a small letter walks, a capital pushes, and any other
-- byte is foreign
abbrev pub IsRead : Letter → Type 0
IsRead letter =
    ((is_blank letter.byte ≡ true) × (letter.step ≡ 0) × (letter.kind ≡ WALK))
    ⊎ (((d : Dir) × (letter.byte ≡ small d) × (letter.step ≡ stride d) × (letter.kind ≡ WALK))
    ⊎ (((d : Dir) × (letter.byte ≡ capital d) × (letter.step ≡ stride d) × (letter.kind ≡ PUSH))
    ⊎ ((is_blank letter.byte ≡ false) × ((d : Dir) → Names letter.byte d → ⊥) × (letter.step ≡ 0) × (letter.kind ≡ FOREIGN))))

-- what a byte adds to a sum of places and letters: a blank adds nothing, a small letter its stride and one letter, and any
-- other byte more than a chunk of small letters can
abbrev pub IsAdded : ℕ → ℕ → Type 0
IsAdded byte added =
    ((is_blank byte ≡ true) × (added ≡ 0))
    ⊎ (((d : Dir) × (byte ≡ small d) × (added ≡ LETTER + stride d))
    ⊎ (added ≡ NO_WALK))
