-- Lists that are related place by place.
use Rattle.std.proofs.Common.{◌≡◌, ℕ, zero, suc, List, [], ◌∷◌, ◌++◌, length, map, Some, refl, ap, subst, ◌∙◌, arith}
use Rattle.std.specs.Prelude.{slice_get}
use Rattle.std.specs.List.{AllZip}
use Rattle.flow_life.proofs.PlaceLaws.{found-same}
use Rattle.flow_life.proofs.StreamLaws.{get-map}

-- what a value at a place was made of
pub record MadeOf {A B : Type 0} (f : A → B) (xs : List A) (j : ℕ) (y : B) : Type 0 where
  pub x : A
  pub at : slice_get xs j ≡ Some x
  pub is : f x ≡ y

pub made_of : {A B : Type 0} (f : A → B) (xs : List A) (j : ℕ) (y : B) → slice_get (map f xs) j ≡ Some y → MadeOf f xs j y
made_of f [] j y e = absurd cc
made_of f (x ∷ xs) zero y e = record { x = x; at = refl; is = found-same (Some (f x)) (f x) y refl e }
made_of f (x ∷ xs) (suc j) y e = let r = made_of f xs j y e in record { x = r.x; at = r.at; is = r.is }

-- where the same is made of two lists, what stands at a place of one stands beside a value of the other
pub other_at : {A B C : Type 0} (f : A → C) (h : B → C) (xs : List A) (ys : List B) → map f xs ≡ map h ys → (j : ℕ) (x : A) → slice_get xs j ≡ Some x → MadeOf h ys j (f x)
other_at f h xs ys same j x at = made_of h ys j (f x) (subst (λ l. slice_get l j ≡ Some (f x)) same (get-map f xs j x at))

pub same_at : {A B C : Type 0} (f : A → C) (h : B → C) (xs : List A) (ys : List B) → map f xs ≡ map h ys → (j : ℕ) (x : A) (y : B) → slice_get xs j ≡ Some x → slice_get ys j ≡ Some y → f x ≡ h y
same_at f h xs ys same j x y at at' =
    found-same (slice_get (map h ys) j) (f x) (h y) (subst (λ l. slice_get l j ≡ Some (f x)) same (get-map f xs j x at)) (get-map h ys j y at')

-- and the lists have one length
pub same_lengths : {A B C : Type 0} (f : A → C) (h : B → C) (xs : List A) (ys : List B) → map f xs ≡ map h ys → length xs ≡ length ys
same_lengths f h [] [] e = refl
same_lengths f h [] (y ∷ ys) e = absurd cc
same_lengths f h (x ∷ xs) [] e = absurd cc
same_lengths f h (x ∷ xs) (y ∷ ys) e = let tail : map f xs ≡ map h ys = cc in ap suc (same_lengths f h xs ys tail)

-- the same is made of lists that agree at each place
pub same_maps : {A B C : Type 0} (f : A → C) (h : B → C) (xs : List A) (ys : List B) → length xs ≡ length ys → ((j : ℕ) (x : A) (y : B) → slice_get xs j ≡ Some x → slice_get ys j ≡ Some y → f x ≡ h y) → map f xs ≡ map h ys
same_maps f h [] [] e at = refl
same_maps f h [] (y ∷ ys) e at = absurd cc
same_maps f h (x ∷ xs) [] e at = absurd cc
same_maps f h (x ∷ xs) (y ∷ ys) e at =
    let tail : length xs ≡ length ys = omega (arith, e) in
    ap (λ z. z ∷ map f xs) (at 0 x y refl refl) ∙ ap (λ l. h y ∷ l) (same_maps f h xs ys tail (λ j a b here there. at (suc j) a b here there))

-- lists of one length that are related at each place are related
pub zip_of : {A B : Type 0} (R : A → B → Type 0) (xs : List A) (ys : List B) → length xs ≡ length ys → ((j : ℕ) (x : A) (y : B) → slice_get xs j ≡ Some x → slice_get ys j ≡ Some y → R x y) → AllZip R xs ys
zip_of R [] [] e at = tt
zip_of R [] (y ∷ ys) e at = absurd cc
zip_of R (x ∷ xs) [] e at = absurd cc
zip_of R (x ∷ xs) (y ∷ ys) e at = let tail : length xs ≡ length ys = omega (arith, e) in (at 0 x y refl refl, zip_of R xs ys tail (λ j a b here there. at (suc j) a b here there))

-- related lists have one length
pub zip_lengths : {A B : Type 0} (R : A → B → Type 0) (xs : List A) (ys : List B) → AllZip R xs ys → length xs ≡ length ys
zip_lengths R [] [] z = refl
zip_lengths R [] (y ∷ ys) z = absurd z
zip_lengths R (x ∷ xs) [] z = absurd z
zip_lengths R (x ∷ xs) (y ∷ ys) z = ap suc (zip_lengths R xs ys z.1)

-- lists that are related with others behind them are related by themselves, where the first ones have one length
pub zip_split : {A B : Type 0} (R : A → B → Type 0) (xs xs' : List A) (ys ys' : List B) → length xs ≡ length ys → AllZip R (xs ++ xs') (ys ++ ys') → AllZip R xs ys × AllZip R xs' ys'
zip_split R [] xs' [] ys' e z = (tt, z)
zip_split R [] xs' (y ∷ ys) ys' e z = absurd cc
zip_split R (x ∷ xs) xs' [] ys' e z = absurd cc
zip_split R (x ∷ xs) xs' (y ∷ ys) ys' e z = let tail : length xs ≡ length ys = omega (arith, e) in let r = zip_split R xs xs' ys ys' tail z.1 in ((z.0, r.0), r.1)

-- what is made of what was made
pub map_twice : {A B C : Type 0} (f : B → C) (h : A → B) (xs : List A) → map f (map h xs) ≡ map (λ x. f (h x)) xs
map_twice f h [] = refl
map_twice f h (x ∷ xs) = ap (λ l. f (h x) ∷ l) (map_twice f h xs)

-- what stands beside a value of the second list
pub record Before {A B : Type 0} (R : A → B → Type 0) (xs : List A) (i : ℕ) (y : B) : Type 0 where
  pub other : A
  pub at : slice_get xs i ≡ Some other
  pub fact : R other y

pub before_it : {A B : Type 0} (R : A → B → Type 0) (xs : List A) (ys : List B) (i : ℕ) (y : B) → slice_get ys i ≡ Some y → AllZip R xs ys → Before R xs i y
before_it R [] [] i y e z = absurd cc
before_it R [] (w ∷ ys) i y e z = absurd z
before_it R (x ∷ xs) [] i y e z = absurd z
before_it R (x ∷ xs) (w ∷ ys) zero y e z = record { other = x; at = refl; fact = subst (R x) (found-same (Some w) w y refl e) z.0 }
before_it R (x ∷ xs) (w ∷ ys) (suc i) y e z = let r = before_it R xs ys i y e z.1 in record { other = r.other; at = r.at; fact = r.fact }
