-- The letters of a text that is read byte by byte, and of lines that are read one after the other. The letters of two
-- texts, one after the other, are the letters of the first followed by the letters of the second.
use Rattle.std.proofs.Common.{◌≡◌, ℕ, zero, suc, ◌+◌, ◌-◌, ◌<◌, ◌≤◌, true, false, List, [], ◌∷◌, ◌++◌, length, take, drop, take-take, get_or, refl, ◌∙◌}
use Rattle.std.proofs.Common.{ap, append_assoc, arith}
use Rattle.std.specs.Borrow.{Bor}
use Rattle.std.proofs.lemmas.List.{append-nil}
use Rattle.std.proofs.Math.Seq.{take-add}
use Rattle.std.proofs.lemmas.List.Elements.{filter-append}
use Rattle.std.proofs.lemmas.Grind.{flat_map-append}
use Rattle.play.specs.Spelling.{is_blank, letters, joined}

pub letters_join : (a b : List ℕ) → letters (a ++ b) ≡ letters a ++ letters b
letters_join a b = search (filter-append)

pub letters_one : {x : ℕ} (rest : List ℕ) → is_blank x ≡ false → letters (x ∷ rest) ≡ x ∷ letters rest
letters_one rest f = search

pub letters_none : (x : ℕ) (rest : List ℕ) → is_blank x ≡ true → letters (x ∷ rest) ≡ letters rest
letters_none x rest f = search

pub split_at : {A : Type 0} (xs : List A) (i : ℕ) (d : A) → i < length xs → xs ≡ take i xs ++ (get_or xs i d ∷ drop (i + 1) xs)
split_at [] i d h = absurd (omega arith)
split_at (x ∷ xs) zero d h = refl
split_at (x ∷ xs) (suc i) d h = grind (arith, split_at xs i d (omega arith))

pub take_one_more : {A : Type 0} (xs : List A) (i : ℕ) (d : A) → i < length xs → take (i + 1) xs ≡ take i xs ++ get_or xs i d ∷ []
take_one_more [] i d h = absurd (omega arith)
take_one_more (x ∷ xs) zero d h = refl
take_one_more (x ∷ xs) (suc i) d h = grind (arith, take_one_more xs i d (omega arith))

-- the letters up to a byte and its own are the letters up to the next byte
pub letters_more : (bs : List ℕ) {i : ℕ} → i < length bs → letters (take (i + 1) bs) ≡ letters (take i bs) ++ letters (get_or bs i 0 ∷ [])
letters_more bs {i} h = ap letters (take_one_more bs i 0 h) ∙ letters_join (take i bs) (get_or bs i 0 ∷ [])

pub letters_around : (bs : List ℕ) {i : ℕ} → i < length bs → letters bs ≡ (letters (take i bs) ++ letters (get_or bs i 0 ∷ [])) ++ letters (drop (i + 1) bs)
letters_around bs {i} h = ap letters (split_at bs i 0 h) ∙ (grind (arith, letters_join, append_assoc))

-- the letters up to a place and those from there up to another are the letters up to the other
pub letters_between : (bs : List ℕ) {i j : ℕ} → i ≤ j → letters (take j bs) ≡ letters (take i bs) ++ letters (take (j - i) (drop i bs))
letters_between bs {i} {j} le =
    let there : j ≡ i + (j - i) = omega arith in
    grind (arith, take-add, letters_join)

-- the letters up to a place, and then the letters in the first n of the m bytes after it, are the letters up to n bytes further
pub letters_on : (bs : List ℕ) (i n m : ℕ) → n ≤ m → letters (take (i + n) bs) ≡ letters (take i bs) ++ letters (take n (take m (drop i bs)))
letters_on bs i n m le = grind (arith, take-add, letters_join, take-take)

-- ---- lines
joined_join : (a b : List (Bor (List ℕ))) → joined (a ++ b) ≡ joined a ++ joined b
joined_join a b = search (flat_map-append)

pub joined_more : (lines : List (Bor (List ℕ))) {i : ℕ} (d : Bor (List ℕ)) → i < length lines
    → joined (take (i + 1) lines) ≡ joined (take i lines) ++ (get_or lines i d).now
joined_more lines {i} d h = ap joined (take_one_more lines i d h)
    ∙ (joined_join (take i lines) (get_or lines i d ∷ []) ∙ ap (λ xs. joined (take i lines) ++ xs) (append-nil (get_or lines i d).now))

pub joined_around : (lines : List (Bor (List ℕ))) {i : ℕ} (d : Bor (List ℕ)) → i < length lines
    → joined lines ≡ (joined (take i lines) ++ (get_or lines i d).now) ++ joined (drop (i + 1) lines)
joined_around lines {i} d h = ap joined (split_at lines i d h) ∙ (grind (arith, joined_join, append_assoc))

-- the letters of the lines so far and of the next line are the letters of one line more
pub line_letters_more : (lines : List (Bor (List ℕ))) (i : ℕ) (d : Bor (List ℕ)) → i < length lines
    → letters (joined (take (i + 1) lines)) ≡ letters (joined (take i lines)) ++ letters (get_or lines i d).now
line_letters_more lines i d h = ap letters (joined_more lines d h) ∙ letters_join (joined (take i lines)) (get_or lines i d).now

pub line_letters_around : (lines : List (Bor (List ℕ))) (i : ℕ) (d : Bor (List ℕ)) → i < length lines
    → letters (joined lines) ≡ (letters (joined (take i lines)) ++ letters (get_or lines i d).now) ++ letters (joined (drop (i + 1) lines))
line_letters_around lines i d h = ap letters (joined_around lines d h) ∙ (grind (arith, letters_join))
