-- A line is written whole.
-- Its words have at most 64 bytes and the line has room for 66, so neither they nor the line feed are cut. If no write fails, the sink gets
-- the whole line.
use Rattle.std.proofs.Common.{◌≡◌, ◌≤◌, ◌+◌, ◌<◌, ◌-◌, ◌^◌, ℕ, List, [], ◌++◌, length, arith, refl, codes}
use Rattle.std.specs.Prelude.{Result, Ok, Err}
use Rattle.std.specs.Fmt.Cut.{cut_to}
use Rattle.std.specs.Io.KnownBytes.{Appends}
use Rattle.devices.specs.Writing.{Writes}
use Rattle.devices.specs.declared.device.Sink as sink
use borrow.Author.Tests.{le-leb}

fits : (room : ℕ) (text : List ℕ) → length text ≤ room → cut_to room text ≡ text
unfolding cut_to
fits room text short = rw (le-leb (length text) room short) refl

-- the words after no text, and a line feed after them
pub with_feed : (none words line ended : List ℕ) → none ≡ [] → length words ≤ 64 → (length none + 64 < 66 → line ≡ none ++ cut_to 64 words)
    → (length line + 1 < 66 → ended ≡ line ++ cut_to 1 (codes "\n")) → ended ≡ words ++ codes "\n"
with_feed none words line ended empty short is more =
    let first : line ≡ words = rw (is (rw empty (omega arith)), empty, fits 64 words short) refl in
    rw (more (rw first (omega (arith, short))), first, fits 1 (codes "\n") (omega arith)) refl

-- the text was written, unless the sink failed
pub said : {A E W : Type 0} (is : sink.Ghosts W) (old new : W) (text : List ℕ) (r : Result A E) → Writes is old new text r
    → is.failures old < 2 ^ 64 - 1 → is.failures new ≡ is.failures old → Appends (is.held old) (is.held new) text
said is old new text (Ok x) w below stayed = w.wrote
said is old new text (Err e) w below stayed = absurd (omega (arith, below, stayed, w.cause))
