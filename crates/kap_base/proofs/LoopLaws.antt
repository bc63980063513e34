-- What a loop does that changes each item of a list.
use Rattle.std.proofs.Common.{◌≡◌, ℕ, zero, suc, ◌+◌, ◌<◌, List, [], ◌∷◌, ◌++◌, map, length, drop, take, set, get_or, refl, ap, ◌∙◌, arith}

-- where the items up to one were changed, that one is as before
pub same_there : {A : Type 0} (f : A → A) (xs : List A) (i : ℕ) (d : A) → i < length xs → get_or (map f (take i xs) ++ drop i xs) i d ≡ get_or xs i d
same_there f [] i d lt = absurd (omega arith)
same_there f (x ∷ xs) zero d lt = refl
same_there f (x ∷ xs) (suc i) d lt = same_there f xs i d (omega arith)

-- and where it is changed too
change-there : {A : Type 0} (f : A → A) (xs : List A) (i : ℕ) (d : A) → i < length xs
    → set (map f (take i xs) ++ drop i xs) i (f (get_or xs i d)) ≡ map f (take (suc i) xs) ++ drop (suc i) xs
change-there f [] i d lt = absurd (omega arith)
change-there f (x ∷ xs) zero d lt = refl
change-there f (x ∷ xs) (suc i) d lt = ap (λ l. f x ∷ l) (change-there f xs i d (omega arith))

-- the item that comes next is changed
pub changed : {A : Type 0} (f : A → A) (xs now : List A) (i : ℕ) (d new : A) → i < length xs → now ≡ map f (take i xs) ++ drop i xs → new ≡ f (get_or now i d)
    → set now i new ≡ map f (take (i + 1) xs) ++ drop (i + 1) xs
changed f xs now i d new lt is made =
    let old : get_or now i d ≡ get_or xs i d = ap (λ l. get_or l i d) is ∙ same_there f xs i d lt in
    let one : suc i ≡ i + 1 = omega arith in
    (λ k. set (is k) i ((made ∙ ap f old) k)) ∙ change-there f xs i d lt ∙ ap (λ (n : ℕ). map f (take n xs) ++ drop n xs) one
