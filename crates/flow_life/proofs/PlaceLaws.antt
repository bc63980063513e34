-- What stands at a place of a list, and of a list of cells, where one place changes.
use Rattle.std.proofs.Common.{◌≡◌, ℕ, zero, suc, ◌<◌, List, [], ◌∷◌, map, length, set, Option, Some, None, refl, ap, subst, ◌∙◌, inl, inr, ⊎_elim, arith}
use Rattle.std.specs.Prelude.{◌⊎◌, slice_get}
use Rattle.std.specs.List.{AllByRecursion as Each, AllZip}
use Rattle.flow_cells.specs.declared.parts.OutEdge.{OutEdge}
use Rattle.flow_cells.specs.declared.parts.InEdge.{InEdge}
use Rattle.flow_cells.specs.declared.parts.CellParts.{CellParts}
use Rattle.flow_life.specs.Places.{Both, in_of, out_of}

-- ---- numbers

-- one number or another
pub same_place : (i j : ℕ) → (i ≡ j) ⊎ (i ≡ j → ⊥)
same_place zero zero = inl refl
same_place zero (suc j) = inr (λ e. absurd (omega (arith, e)))
same_place (suc i) zero = inr (λ e. absurd (omega (arith, e)))
same_place (suc i) (suc j) = ⊎_elim (λ e. inl (ap suc e)) (λ n. inr (λ e. n (omega (arith, e)))) (same_place i j)

-- one pair of numbers or another
pub same_places : (i j m k : ℕ) → ((i ≡ j) × (m ≡ k)) ⊎ (i ≡ j → m ≡ k → ⊥)
same_places i j m k = ⊎_elim
    (λ e. ⊎_elim (λ f. inl (e, f)) (λ n. inr (λ _ f. n f)) (same_place m k))
    (λ n. inr (λ e _. n e))
    (same_place i j)

-- ---- lists

-- a found value is the one that was found
pub found-same : {A : Type 0} (o : Option A) (x y : A) → o ≡ Some x → o ≡ Some y → x ≡ y
found-same None x y e h = absurd cc
found-same (Some z) x y e h = cc

-- what was put at a place is found there
pub get-set : {A : Type 0} (xs : List A) (i : ℕ) (x y : A) → slice_get xs i ≡ Some x → slice_get (set xs i y) i ≡ Some y
get-set [] i x y e = absurd cc
get-set (z ∷ xs) zero x y e = refl
get-set (z ∷ xs) (suc i) x y e = get-set xs i x y e

-- elsewhere the list is as before
pub get-set_other : {A : Type 0} (xs : List A) (i j : ℕ) (y : A) → (j ≡ i → ⊥) → slice_get (set xs i y) j ≡ slice_get xs j
get-set_other [] i j y n = refl
get-set_other (z ∷ xs) zero zero y n = absurd (n refl)
get-set_other (z ∷ xs) zero (suc j) y n = refl
get-set_other (z ∷ xs) (suc i) zero y n = refl
get-set_other (z ∷ xs) (suc i) (suc j) y n = get-set_other xs i j y (λ e. n (ap suc e))

-- a place where something stands is within the list
pub get-within : {A : Type 0} (xs : List A) (i : ℕ) (x : A) → slice_get xs i ≡ Some x → i < length xs
get-within [] i x e = absurd cc
get-within (z ∷ xs) zero x e = omega arith
get-within (z ∷ xs) (suc i) x e = let h : i < length xs = get-within xs i x e in omega (arith, h)

-- what a function makes of the elements stays, where it makes the same of the new one
pub map-set : {A B : Type 0} (f : A → B) (xs : List A) (i : ℕ) (x y : A) → slice_get xs i ≡ Some x → f y ≡ f x → map f (set xs i y) ≡ map f xs
map-set f [] i x y e h = refl
map-set f (z ∷ xs) zero x y e h = ap (λ b. b ∷ map f xs) (h ∙ ap f (found-same (Some z) x z e refl))
map-set f (z ∷ xs) (suc i) x y e h = ap (λ bs. f z ∷ bs) (map-set f xs i x y e h)

-- what a function makes of one list is what it makes of another, value by value
pub zip-map : {A B : Type 0} (f : A → B) (R : A → A → Type 0) → ((x y : A) → R x y → f y ≡ f x) → (xs ys : List A) → AllZip R xs ys → map f ys ≡ map f xs
zip-map f R h [] [] z = refl
zip-map f R h [] (y ∷ ys) z = absurd z
zip-map f R h (x ∷ xs) [] z = absurd z
zip-map f R h (x ∷ xs) (y ∷ ys) z = ap (λ b. b ∷ map f ys) (h x y z.0) ∙ ap (λ bs. f x ∷ bs) (zip-map f R h xs ys z.1)

-- what holds of each holds of the one that is found
pub each-get : {A : Type 0} (P : A → Type 0) (xs : List A) (i : ℕ) (x : A) → slice_get xs i ≡ Some x → Each P xs → P x
each-get P [] i x e h = absurd cc
each-get P (z ∷ xs) zero x e h = subst P (found-same (Some z) z x refl e) h.0
each-get P (z ∷ xs) (suc i) x e h = each-get P xs i x e h.1

-- what holds of all that are found holds of each
pub each-of : {A : Type 0} (P : A → Type 0) (xs : List A) → ((i : ℕ) (x : A) → slice_get xs i ≡ Some x → P x) → Each P xs
each-of P [] h = tt
each-of P (x ∷ xs) h = (h 0 x refl, each-of P xs (λ i y e. h (suc i) y e))

-- lists that are related place by place are so at each place
pub zip-both : {A : Type 0} (R : A → A → Type 0) (xs ys : List A) (i : ℕ) → AllZip R xs ys → Both R (slice_get xs i) (slice_get ys i)
zip-both R [] [] i z = tt
zip-both R [] (y ∷ ys) i z = absurd z
zip-both R (x ∷ xs) [] i z = absurd z
zip-both R (x ∷ xs) (y ∷ ys) zero z = z.0
zip-both R (x ∷ xs) (y ∷ ys) (suc i) z = zip-both R xs ys i z.1

-- lists that are related place by place are equally long
pub zip-length : {A : Type 0} (R : A → A → Type 0) (xs ys : List A) → AllZip R xs ys → length ys ≡ length xs
zip-length R [] [] z = refl
zip-length R [] (y ∷ ys) z = absurd z
zip-length R (x ∷ xs) [] z = absurd z
zip-length R (x ∷ xs) (y ∷ ys) z = ap suc (zip-length R xs ys z.1)

-- ---- both or neither

-- the other one
pub record Other {A : Type 0} (R : A → Type 0) (o : Option A) : Type 0 where
  pub value : A
  pub is : o ≡ Some value
  pub fact : R value

pub both-right : {A : Type 0} (R : A → A → Type 0) (o p : Option A) (x : A) → Both R o p → o ≡ Some x → Other (R x) p
both-right R None p x b e = absurd cc
both-right R (Some z) None x b e = absurd b
both-right R (Some z) (Some y) x b e = record { value = y; is = refl; fact = subst (λ a. R a y) (found-same (Some z) z x refl e) b }

pub both-left : {A : Type 0} (R : A → A → Type 0) (o p : Option A) (y : A) → Both R o p → p ≡ Some y → Other (λ x. R x y) o
both-left R o None y b e = absurd cc
both-left R None (Some z) y b e = absurd b
both-left R (Some x) (Some z) y b e = record { value = x; is = refl; fact = subst (R x) (found-same (Some z) z y refl e) b }

pub both-refl : {A : Type 0} (R : A → A → Type 0) → ((x : A) → R x x) → (o p : Option A) → p ≡ o → Both R o p
both-refl R r None None e = tt
both-refl R r None (Some y) e = absurd cc
both-refl R r (Some x) None e = absurd cc
both-refl R r (Some x) (Some y) e = subst (R x) (found-same (Some y) x y e refl) (r x)

pub both-trans : {A : Type 0} (R : A → A → Type 0) → ((x y z : A) → R x y → R y z → R x z) → (o p q : Option A) → Both R o p → Both R p q → Both R o q
both-trans R t None None None a b = tt
both-trans R t None None (Some z) a b = absurd b
both-trans R t None (Some y) q a b = absurd a
both-trans R t (Some x) None q a b = absurd a
both-trans R t (Some x) (Some y) None a b = absurd b
both-trans R t (Some x) (Some y) (Some z) a b = t x y z a b

-- ---- cells

module _ {N : Type 0} where
  pub in-at : (cells : List (CellParts N)) (j k : ℕ) (c : CellParts N) → slice_get cells j ≡ Some c → in_of cells j k ≡ slice_get c.ins.items k
  in-at [] j k c e = absurd cc
  in-at (d ∷ cells) zero k c e = ap (λ (x : CellParts N). slice_get x.ins.items k) (found-same (Some d) d c refl e)
  in-at (d ∷ cells) (suc j) k c e = in-at cells j k c e

  pub out-at : (cells : List (CellParts N)) (j i : ℕ) (c : CellParts N) → slice_get cells j ≡ Some c → out_of cells j i ≡ slice_get c.core.outs.items i
  out-at [] j i c e = absurd cc
  out-at (d ∷ cells) zero i c e = ap (λ (x : CellParts N). slice_get x.core.outs.items i) (found-same (Some d) d c refl e)
  out-at (d ∷ cells) (suc j) i c e = out-at cells j i c e

  -- the cell of an input
  pub record CellOfIn (cells : List (CellParts N)) (j k : ℕ) (e : InEdge) : Type 0 where
    pub cell : CellParts N
    pub at : slice_get cells j ≡ Some cell
    pub here : slice_get cell.ins.items k ≡ Some e

  pub cell-of_in : (cells : List (CellParts N)) (j k : ℕ) (e : InEdge) → in_of cells j k ≡ Some e → CellOfIn cells j k e
  cell-of_in [] j k e h = absurd cc
  cell-of_in (c ∷ cells) zero k e h = record { cell = c; at = refl; here = h }
  cell-of_in (c ∷ cells) (suc j) k e h = let r = cell-of_in cells j k e h in record { cell = r.cell; at = r.at; here = r.here }

  -- the cell of an out
  pub record CellOfOut (cells : List (CellParts N)) (j i : ℕ) (o : OutEdge) : Type 0 where
    pub cell : CellParts N
    pub at : slice_get cells j ≡ Some cell
    pub here : slice_get cell.core.outs.items i ≡ Some o

  pub cell-of_out : (cells : List (CellParts N)) (j i : ℕ) (o : OutEdge) → out_of cells j i ≡ Some o → CellOfOut cells j i o
  cell-of_out [] j i o h = absurd cc
  cell-of_out (c ∷ cells) zero i o h = record { cell = c; at = refl; here = h }
  cell-of_out (c ∷ cells) (suc j) i o h = let r = cell-of_out cells j i o h in record { cell = r.cell; at = r.at; here = r.here }

  -- an out is one of a cell that is there
  pub out-within : (cells : List (CellParts N)) (j i : ℕ) (o : OutEdge) → out_of cells j i ≡ Some o → j < length cells
  out-within cells j i o h = let c = cell-of_out cells j i o h in get-within cells j c.cell c.at

  -- and so is an input
  pub in-within : (cells : List (CellParts N)) (j k : ℕ) (e : InEdge) → in_of cells j k ≡ Some e → j < length cells
  in-within cells j k e h = let c = cell-of_in cells j k e h in get-within cells j c.cell c.at

  -- the inputs where a cell changes
  pub ins-set : (cells : List (CellParts N)) (j : ℕ) (c d : CellParts N) (n k : ℕ) → slice_get cells j ≡ Some c → (n ≡ j → slice_get d.ins.items k ≡ slice_get c.ins.items k) → in_of (set cells j d) n k ≡ in_of cells n k
  ins-set [] j c d n k at same = refl
  ins-set (x ∷ cells) zero c d zero k at same = same refl ∙ ap (λ (y : CellParts N). slice_get y.ins.items k) (found-same (Some x) c x at refl)
  ins-set (x ∷ cells) zero c d (suc n) k at same = refl
  ins-set (x ∷ cells) (suc j) c d zero k at same = refl
  ins-set (x ∷ cells) (suc j) c d (suc n) k at same = ins-set cells j c d n k at (λ e. same (ap suc e))

  -- the outs where a cell changes
  pub outs-set : (R : OutEdge → OutEdge → Type 0) → ((x : OutEdge) → R x x) → (cells : List (CellParts N)) (j : ℕ) (c d : CellParts N) (n i : ℕ) → slice_get cells j ≡ Some c → (n ≡ j → Both R (slice_get c.core.outs.items i) (slice_get d.core.outs.items i)) → Both R (out_of cells n i) (out_of (set cells j d) n i)
  outs-set R r [] j c d n i at same = tt
  outs-set R r (x ∷ cells) zero c d zero i at same = subst (λ (y : CellParts N). Both R (slice_get y.core.outs.items i) (slice_get d.core.outs.items i)) (found-same (Some x) c x at refl) (same refl)
  outs-set R r (x ∷ cells) zero c d (suc n) i at same = both-refl R r (out_of cells n i) (out_of cells n i) refl
  outs-set R r (x ∷ cells) (suc j) c d zero i at same = both-refl R r (slice_get x.core.outs.items i) (slice_get x.core.outs.items i) refl
  outs-set R r (x ∷ cells) (suc j) c d (suc n) i at same = outs-set R r cells j c d n i at (λ e. same (ap suc e))
