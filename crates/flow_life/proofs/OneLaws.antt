-- A move leaves effects in the cell that it moves alone, so that they are gathered from this cell.
use Rattle.std.proofs.Common.{◌≡◌, ℕ, zero, suc, List, [], ◌∷◌, ◌++◌, map, set, Some, refl, sym, ap, subst, ◌∙◌, append-nil, arith}
use Rattle.std.specs.Prelude.{slice_get}
use Rattle.std.specs.List.{AllByRecursion as Each, AllZip}
use Rattle.kap_base.specs.declared.items.Effect.{Effect}
use Rattle.flow_cells.specs.declared.parts.CellParts.{CellParts}
use Rattle.flow_cells.specs.Gathers.{Gathers}
use Rattle.flow_cells.specs.Kept.{gathered}
use Rattle.flow_cells.specs.Moves.{PutsNone, PutsOne}
use Rattle.flow_cells.proofs.OutLaws.{each-set}
use Rattle.flow_life.specs.Gathers.{effects_of}
use Rattle.flow_life.specs.Loads.{IsGathered}
use Rattle.flow_life.proofs.NodeLaws.{settle-stays}
use Rattle.flow_life.proofs.PlaceLaws.{each-get, each-of, found-same, get-set_other}
use Rattle.flow_life.specs.Settling.{SettlesIn}
use Rattle.flow_life.proofs.StreamLaws.{get-map}
use Rattle.flow_life.specs.Trying.{IsGatheredBut}

-- an element of which a function makes this
record Made {A B : Type 0} (f : A → B) (xs : List A) (i : ℕ) (y : B) : Type 0 where
  of : A
  at : slice_get xs i ≡ Some of
  is : f of ≡ y

unmap : {A B : Type 0} (f : A → B) (xs : List A) (i : ℕ) (y : B) → slice_get (map f xs) i ≡ Some y → Made f xs i y
unmap f [] i y e = absurd cc
unmap f (x ∷ xs) zero y e = record { of = x; at = refl; is = found-same (Some (f x)) (f x) y refl e }
unmap f (x ∷ xs) (suc i) y e = let m = unmap f xs i y e in record { of = m.of; at = m.at; is = m.is }

never-zero : (j : ℕ) → suc j ≡ 0 → ⊥
never-zero j e = absurd (omega (arith, e))

module _ {N : Type 0} where
  -- the effects of a cell
  abbrev left-at : CellParts N → List Effect
  left-at c = c.core.effects

  -- where settling leaves all effects, a cell is gathered as it was before
  settled-left : (n k p : ℕ) (mid cells' : List (CellParts N)) (j : ℕ) (c : CellParts N) → SettlesIn n k p mid cells' → ((d : CellParts N) → slice_get mid j ≡ Some d → IsGathered d) → slice_get cells' j ≡ Some c → IsGathered c
  settled-left n k p mid cells' j c s before at =
      let t = s.settles in
      let same : map left-at cells' ≡ map left-at mid = settle-stays left-at n k p mid cells' s t.of_parent.effects (ap (λ b. b.effects) t.of_child.core) in
      let m = unmap left-at mid j (left-at c) (ap (λ (l : List (List Effect)). slice_get l j) (sym same) ∙ get-map left-at cells' j c at) in
      sym m.is ∙ before m.of m.at

  -- a cell took, and then the edge was settled
  pub take-left : (cells cells' : List (CellParts N)) (j k p : ℕ) (d : CellParts N) → Each IsGathered cells → SettlesIn j k p (set cells j d) cells' → IsGatheredBut j cells'
  take-left cells cells' j k p d all s = record {
    others = λ i c ne at. settled-left j k p (set cells j d) cells' i c s (λ x here. each-get IsGathered cells i x (sym (get-set_other cells j i d ne) ∙ here) all) at;
  }

  -- a cell put, and then the edge was settled
  pub put-left : (cells cells' : List (CellParts N)) (j i n k : ℕ) (c d : CellParts N) → slice_get cells j ≡ Some c → PutsOne i c d → SettlesIn n k j (set cells j d) cells' → Each IsGathered cells → Each IsGathered cells'
  put-left cells cells' j i n k c d at t s all =
      let here : IsGathered d = t.others.effects ∙ each-get IsGathered cells j c at all in
      let mid : Each IsGathered (set cells j d) = each-set IsGathered cells j d all here in
      each-of IsGathered cells' (λ m x there. settled-left n k j (set cells j d) cells' m x s (λ y found. each-get IsGathered (set cells j d) m y found mid) there)

  -- a cell put nothing
  pub held-left : (cells : List (CellParts N)) (j i : ℕ) (c d : CellParts N) → slice_get cells j ≡ Some c → PutsNone i c d → Each IsGathered cells → Each IsGathered (set cells j d)
  held-left cells j i c d at t all = each-set IsGathered cells j d all (t.others.effects ∙ each-get IsGathered cells j c at all)

  -- all but any
  pub all-but : (cells : List (CellParts N)) (k : ℕ) → Each IsGathered cells → IsGatheredBut k cells
  all-but cells k all = record { others = λ j c ne at. each-get IsGathered cells j c at all }

  -- ---- gathering from one cell

  gathers-refl : (c : CellParts N) → IsGathered c → Gathers c c
  gathers-refl c h = record {
    effects = h;
    gathered = sym (ap (λ (es : List Effect). gathered c.core.gathered ++ es) h ∙ append-nil (gathered c.core.gathered));
    node = refl;
    outs = refl;
    saved = refl;
    passed = refl;
    clean = refl;
    keeps = refl;
    buffer = refl;
    ins = refl;
    base = refl;
    source = refl;
    spent = refl;
  }

  gathers-all : (cells : List (CellParts N)) → Each IsGathered cells → AllZip Gathers cells cells
  gathers-all [] all = tt
  gathers-all (c ∷ cells) all = (gathers-refl c all.0, gathers-all cells all.1)

  others-behind : (c : CellParts N) (cells : List (CellParts N)) → IsGatheredBut 0 (c ∷ cells) → Each IsGathered cells
  others-behind c cells h = each-of IsGathered cells (λ j d at. h.others (suc j) d (never-zero j) at)

  but-behind : (c : CellParts N) (cells : List (CellParts N)) (k : ℕ) → IsGatheredBut (suc k) (c ∷ cells) → IsGatheredBut k cells
  but-behind c cells k h = record { others = λ j d ne at. h.others (suc j) d (λ e. ne (omega (arith, e))) at }

  -- the effects of one cell were taken away, and the others had none
  pub gathers-one : (cells : List (CellParts N)) (k : ℕ) (c d : CellParts N) → IsGatheredBut k cells → slice_get cells k ≡ Some c → Gathers c d → AllZip Gathers cells (set cells k d)
  gathers-one [] k c d h at z = tt
  gathers-one (x ∷ cells) zero c d h at z = (subst (λ (y : CellParts N). Gathers y d) (found-same (Some x) c x at refl) z, gathers-all cells (others-behind x cells h))
  gathers-one (x ∷ cells) (suc k) c d h at z = (gathers-refl x (h.others 0 x (λ e. never-zero k (sym e)) refl), gathers-one cells k c d (but-behind x cells k h) at z)

  none-of : (cells : List (CellParts N)) → Each IsGathered cells → effects_of cells ≡ []
  none-of [] all = refl
  none-of (c ∷ cells) all = ap (λ (es : List Effect). es ++ effects_of cells) all.0 ∙ none-of cells all.1

  -- its effects are all
  pub effects-one : (cells : List (CellParts N)) (k : ℕ) (c : CellParts N) → IsGatheredBut k cells → slice_get cells k ≡ Some c → effects_of cells ≡ c.core.effects
  effects-one [] k c h at = absurd cc
  effects-one (x ∷ cells) zero c h at =
      ap (λ (es : List Effect). x.core.effects ++ es) (none-of cells (others-behind x cells h)) ∙ append-nil x.core.effects ∙ ap (λ (y : CellParts N). y.core.effects) (found-same (Some x) x c refl at)
  effects-one (x ∷ cells) (suc k) c h at =
      ap (λ (es : List Effect). es ++ effects_of cells) (h.others 0 x (λ e. never-zero k (sym e)) refl) ∙ effects-one cells k c (but-behind x cells k h) at
