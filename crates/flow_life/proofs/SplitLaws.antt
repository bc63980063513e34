-- Two cells of a list that is split between them.
use Rattle.std.proofs.Common.{◌≡◌, ℕ, zero, suc, ◌<◌, List, [], ◌∷◌, ◌++◌, length, get_or, set, Some, refl, sym, ap, subst, ◌∙◌, arith}
use Rattle.std.specs.Prelude.{slice_get}
use Rattle.std.specs.List.{AllByRecursion as Each}
use Rattle.flow_cells.specs.declared.parts.CellParts.{CellParts}
use Rattle.flow_cells.specs.Settles.{IsFedBy, Settles}
use Rattle.flow_life.proofs.PlaceLaws.{CellOfIn, CellOfOut, cell-of_in, cell-of_out, found-same, get-within}
use Rattle.flow_life.specs.Settling.{HasEdge, SettlesIn}

get-here : {A : Type 0} (xs : List A) (i : ℕ) (d : A) → i < length xs → slice_get xs i ≡ Some (get_or xs i d)
get-here [] i d h = absurd (omega (arith, h))
get-here (x ∷ xs) zero d h = refl
get-here (x ∷ xs) (suc i) d h = get-here xs i d (omega (arith, h))

get-front : {A : Type 0} (xs ys : List A) (i : ℕ) → i < length xs → slice_get (xs ++ ys) i ≡ slice_get xs i
get-front [] ys i h = absurd (omega (arith, h))
get-front (x ∷ xs) ys zero h = refl
get-front (x ∷ xs) ys (suc i) h = get-front xs ys i (omega (arith, h))

get-behind : {A : Type 0} (xs ys : List A) → slice_get (xs ++ ys) (length xs) ≡ slice_get ys 0
get-behind [] ys = refl
get-behind (x ∷ xs) ys = get-behind xs ys

set-front : {A : Type 0} (xs ys : List A) (i : ℕ) (x : A) → i < length xs → set (xs ++ ys) i x ≡ set xs i x ++ ys
set-front [] ys i x h = absurd (omega (arith, h))
set-front (z ∷ xs) ys zero x h = refl
set-front (z ∷ xs) ys (suc i) x h = ap (λ l. z ∷ l) (set-front xs ys i x (omega (arith, h)))

set-behind : {A : Type 0} (xs ys : List A) (n : ℕ) (y : A) → length xs ≡ n → set (xs ++ ys) n y ≡ xs ++ set ys 0 y
set-behind [] ys zero y h = refl
set-behind [] ys (suc n) y h = absurd (omega (arith, h))
set-behind (x ∷ xs) ys zero y h = absurd (omega (arith, h))
set-behind (x ∷ xs) ys (suc n) y h = ap (λ l. x ∷ l) (set-behind xs ys n y (omega (arith, h)))

set-length : {A : Type 0} (xs : List A) (i : ℕ) (x : A) → length (set xs i x) ≡ length xs
set-length [] i x = refl
set-length (z ∷ xs) zero x = refl
set-length (z ∷ xs) (suc i) x = ap suc (set-length xs i x)

pub each-append : {A : Type 0} (P : A → Type 0) (xs ys : List A) → Each P xs → Each P ys → Each P (xs ++ ys)
each-append P [] ys a b = b
each-append P (x ∷ xs) ys a b = (a.0, each-append P xs ys a.1 b)

pub each-front : {A : Type 0} (P : A → Type 0) (xs ys : List A) → Each P (xs ++ ys) → Each P xs
each-front P [] ys a = tt
each-front P (x ∷ xs) ys a = (a.0, each-front P xs ys a.1)

pub each-behind : {A : Type 0} (P : A → Type 0) (xs ys : List A) → Each P (xs ++ ys) → Each P ys
each-behind P [] ys a = a
each-behind P (x ∷ xs) ys a = each-behind P xs ys a.1

module _ {N : Type 0} where
  -- a list of cells that is split before a child
  pub record IsSplit (child input parent : ℕ) (cells before rest : List (CellParts N)) : Type 0 where
    pub edge : HasEdge child input parent cells
    pub whole : cells ≡ before ++ rest
    pub count : length before ≡ child

  module _ (child input parent : ℕ) (cells before rest : List (CellParts N)) (s : IsSplit child input parent cells before rest) where
    -- the parent is in front
    pub split-bound : parent < length before
    split-bound = let lt : parent < child = s.edge.before in let n : length before ≡ child = s.count in omega (arith, lt, n)

    child-at : CellOfIn cells child input s.edge.edge
    child-at = cell-of_in cells child input s.edge.edge s.edge.at_in

    child-behind : (c : CellParts N) → slice_get cells child ≡ Some c → slice_get rest 0 ≡ Some c
    child-behind c at = sym (get-behind before rest) ∙ subst (λ (n : ℕ). slice_get (before ++ rest) n ≡ Some c) (sym s.count) (subst (λ (l : List (CellParts N)). slice_get l child ≡ Some c) s.whole at)

    -- the child is behind
    pub split-some : 0 < length rest
    split-some = get-within rest 0 child-at.cell (child-behind child-at.cell child-at.at)

    at-child : (d : CellParts N) → slice_get cells child ≡ Some (get_or rest 0 d)
    at-child d = subst (λ (l : List (CellParts N)). slice_get l child ≡ Some (get_or rest 0 d)) (sym s.whole) (subst (λ (n : ℕ). slice_get (before ++ rest) n ≡ Some (get_or rest 0 d)) s.count (get-behind before rest ∙ get-here rest 0 d split-some))

    at-parent : (d : CellParts N) → slice_get cells parent ≡ Some (get_or before parent d)
    at-parent d = subst (λ (l : List (CellParts N)). slice_get l parent ≡ Some (get_or before parent d)) (sym s.whole) (get-front before rest parent split-bound ∙ get-here before parent d split-bound)

    -- the child's input is fed by the parent
    pub split-fed : (d e : CellParts N) → IsFedBy input (get_or before parent d) (get_or rest 0 e)
    split-fed d e =
        let c = child-at in
        let p : CellOfOut cells parent s.edge.edge.out s.edge.out = cell-of_out cells parent s.edge.edge.out s.edge.out s.edge.at_out in
        let c_is : c.cell ≡ get_or rest 0 e = found-same (slice_get cells child) c.cell (get_or rest 0 e) c.at (at-child e) in
        let p_is : p.cell ≡ get_or before parent d = found-same (slice_get cells parent) p.cell (get_or before parent d) p.at (at-parent d) in
        record {
          edge = s.edge.edge;
          out = s.edge.out;
          at_child = subst (λ (x : CellParts N). slice_get x.ins.items input ≡ Some s.edge.edge) c_is c.here;
          at_parent = subst (λ (x : CellParts N). slice_get x.core.outs.items s.edge.edge.out ≡ Some s.edge.out) p_is p.here;
          pair = s.edge.pair;
        }

    -- both cells change
    pub split-settles : (d e p c : CellParts N) → Settles input (get_or before parent d) (get_or rest 0 e) p c → SettlesIn child input parent cells (set before parent p ++ set rest 0 c)
    split-settles d e p c t = record {
      before = s.edge.before;
      old_parent = get_or before parent d;
      old_child = get_or rest 0 e;
      new_parent = p;
      new_child = c;
      at_parent = at-parent d;
      at_child = at-child e;
      settles = t;
      is = sym (ap (λ (l : List (CellParts N)). set (set l parent p) child c) s.whole
          ∙ ap (λ (l : List (CellParts N)). set l child c) (set-front before rest parent p split-bound)
          ∙ set-behind (set before parent p) rest child c (set-length before parent p ∙ s.count));
    }
