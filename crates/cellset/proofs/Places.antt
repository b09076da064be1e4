-- Two indices in one list are equal, or the first lies before the second, or the second before the first.
use Rattle.std.proofs.Common.{◌≡◌, List, [], ◌∷◌, ◌++◌, sym, ap}

same_head : {A : Type 0} (a b : A) (x y : List A) → a ∷ x ≡ b ∷ y → a ≡ b
same_head a b x y e = cc

same_tail : {A : Type 0} (a b : A) (x y : List A) → a ∷ x ≡ b ∷ y → x ≡ y
same_tail a b x y e = cc

pub places : {A G : Type 0} (x y : List A) (p q : A) (xs ys : List A) → x ++ p ∷ xs ≡ y ++ q ∷ ys
    → (x ≡ y → p ≡ q → G) → ((zs : List A) → y ≡ (x ++ p ∷ []) ++ zs → G) → ((zs : List A) → x ≡ (y ++ q ∷ []) ++ zs → G) → G
places [] [] p q xs ys e one before after = search (same_head)
places [] (d ∷ y) p q xs ys e one before after = before y (search)
places (c ∷ x) [] p q xs ys e one before after = after x (ap (λ d. d ∷ x) (same_head c q (x ++ p ∷ xs) ys e))
places (c ∷ x) (d ∷ y) p q xs ys e one before after =
    let first = same_head c d (x ++ p ∷ xs) (y ++ q ∷ ys) e in
    places x y p q xs ys (same_tail c d (x ++ p ∷ xs) (y ++ q ∷ ys) e)
    (λ f g. one (λ i. first i ∷ f i) g)
    (λ zs f. before zs (λ i. sym first i ∷ f i))
    (λ zs f. after zs (λ i. first i ∷ f i))
