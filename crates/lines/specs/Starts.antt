-- Lines that are found by the bytes with which they begin.
use Rattle.std.specs.Prelude.{◌≡◌, ℕ, ◌+◌, ◌<◌, ◌≤◌, ◌==◌, Bool, true, false, List, [], ◌∷◌, count_by, drop, length, nat_eq, slice_index, take}
use Rattle.std.specs.Int.{bit_at}
use Rattle.std.specs.List.{AllByRecursion}
use Rattle.bstr.specs.Text.{lines_of}
use Rattle.lines.specs.declared.search.Start.{Start}
use Rattle.lines.specs.Lines.{IsLineCut, lines_in}

-- The line is empty, or begins with a byte that isn't of the class.
abbrev pub BeginsOutside : (ℕ → Bool) → List ℕ → Type 0
BeginsOutside class [] = Unit {0}
BeginsOutside class (b ∷ _) = class b ≡ false

-- No line begins with a byte of the class.
abbrev pub AllBeginOutside : (ℕ → Bool) → List (List ℕ) → Type 0
AllBeginOutside class lines = AllByRecursion (BeginsOutside class) lines

-- The byte is a line feed.
abbrev pub is_feed : ℕ → Bool
is_feed b = b == 10

-- The bits of the word say which of n bytes from a place on are line feeds.
pub record AreFeeds (text : List ℕ) (at n word : ℕ) : Type 0 where
  pub inside : (k : ℕ) → k < n → nat_eq (bit_at word k) 1 ≡ (slice_index text (at + k) == 10)
  pub past : (k : ℕ) → n ≤ k → nat_eq (bit_at word k) 1 ≡ false

-- No line that begins before place n begins with a byte of the class.
pub record NoStart (class : ℕ → Bool) (text : List ℕ) (n : ℕ) : Type 0 where
  pub first : 0 < n → class (slice_index text 0) ≡ false
  pub others : (j : ℕ) → j + 1 < n → slice_index text j ≡ 10 → class (slice_index text (j + 1)) ≡ false

-- A search has come to a place: no line that begins before it or there begins with a byte of the class, and the line feeds before it are counted.
pub record IsScanned (class : ℕ → Bool) (text : List ℕ) (at before : ℕ) : Type 0 where
  pub within : at ≤ length text
  pub none : NoStart class text (at + 1)
  pub count : before ≡ count_by is_feed (take at text)

-- The first line that begins with a byte of the class begins at this place, after this number of lines.
pub record IsFirstStart (class : ℕ → Bool) (text : List ℕ) (start : Start) : Type 0 where
  pub within : start.at < length text
  pub starts : class (slice_index text start.at) ≡ true
  pub cut : IsLineCut text (take start.at text) (drop start.at text)
  pub others : AllBeginOutside class (lines_in (take start.at text))
  pub count : start.before ≡ length (lines_of (take start.at text))
