-- A text isn't cut if there is room for it.
use Rattle.std.proofs.Common.{◌≡◌, ◌≤◌, ℕ, List, length, refl}
use Rattle.std.specs.Fmt.Cut.{cut_to}
use borrow.Author.Tests.{le-leb}

pub fits : (room : ℕ) (text : List ℕ) → length text ≤ room → cut_to room text ≡ text
unfolding cut_to
fits room text short = rw (le-leb (length text) room short) refl
