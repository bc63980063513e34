-- A step that isn't made, and gathering, leave each step as it was: one that can be made or can't.
use Rattle.std.proofs.Common.{◌≡◌, ℕ, zero, suc, ◌<◌, List, [], ◌∷◌, length, set, Some, refl, sym, ap, subst, ◌∙◌}
use Rattle.std.specs.Prelude.{slice_get}
use Rattle.std.specs.List.{AllZip}
use Rattle.kap_base.specs.declared.items.Msg.{Msg}
use Rattle.edge_queue.specs.Edges.{edge_capacity, known}
use Rattle.edge_queue.proofs.EdgeLaws.{SameTail-capacity}
use Rattle.flow_cells.specs.declared.parts.OutEdge.{OutEdge}
use Rattle.flow_cells.specs.declared.parts.CellParts.{CellParts}
use Rattle.flow_cells.specs.Gathers.{Gathers}
use Rattle.flow_cells.specs.Moves.{Eases, PutsNone}
use Rattle.flow_cells.proofs.OutLaws.{zip-weaker}
use Rattle.flow_cells.specs.Outs.{has_unsent}
use Rattle.flow_life.specs.declared.steps.Step.{Step}
use Rattle.flow_life.specs.declared.steps.Step.TheVariants as steps
use Rattle.flow_life.specs.Places.{Both, in_of, out_of}
use Rattle.flow_life.proofs.PlaceLaws.{Other, both-right, found-same, zip-both}
use Rattle.flow_life.specs.Steps.{CanPutAt, CanTakeAt, IsEnabled}
use Rattle.flow_life.proofs.StreamLaws.{Beside, beside}
use Rattle.flow_life.specs.Trying.{SameEnabled}

-- ---- lists that are related place by place

zip-sym : {A : Type 0} (R : A → A → Type 0) → ((x y : A) → R x y → R y x) → (xs ys : List A) → AllZip R xs ys → AllZip R ys xs
zip-sym R f [] [] z = tt
zip-sym R f [] (y ∷ ys) z = absurd z
zip-sym R f (x ∷ xs) [] z = absurd z
zip-sym R f (x ∷ xs) (y ∷ ys) z = (f x y z.0, zip-sym R f xs ys z.1)

pub zip-refl : {A : Type 0} (R : A → A → Type 0) → ((x : A) → R x x) → (xs : List A) → AllZip R xs xs
zip-refl R r [] = tt
zip-refl R r (x ∷ xs) = (r x, zip-refl R r xs)

-- one place changes
zip-set : {A : Type 0} (R : A → A → Type 0) → ((x : A) → R x x) → (xs : List A) (i : ℕ) (x y : A) → slice_get xs i ≡ Some x → R x y → AllZip R xs (set xs i y)
zip-set R r [] i x y at h = tt
zip-set R r (z ∷ xs) zero x y at h = (subst (λ w. R w y) (found-same (Some z) x z at refl) h, zip-refl R r xs)
zip-set R r (z ∷ xs) (suc i) x y at h = (r z, zip-set R r xs i x y at h)

-- ---- ends

-- an out of the same edge where the same waits
record Alike (a b : OutEdge) : Type 0 where
  unsent : b.unsent ≡ a.unsent
  capacity : edge_capacity b.tail ≡ edge_capacity a.tail
  child : b.child ≡ a.child
  input : b.input ≡ a.input

Alike-refl : (a : OutEdge) → Alike a a
Alike-refl a = record { unsent = refl; capacity = refl; child = refl; input = refl }

Alike-sym : (a b : OutEdge) → Alike a b → Alike b a
Alike-sym a b h = record { unsent = sym h.unsent; capacity = sym h.capacity; child = sym h.child; input = sym h.input }

eases-alike : (a b : OutEdge) → Eases a b → Alike a b
eases-alike a b e = record { unsent = e.unsent; capacity = SameTail-capacity e.tail.same; child = e.child; input = e.input }

alike-unsent : (xs ys : List OutEdge) → AllZip Alike xs ys → has_unsent ys ≡ has_unsent xs
alike-unsent [] [] z = refl
alike-unsent [] (y ∷ ys) z = absurd z
alike-unsent (x ∷ xs) [] z = absurd z
alike-unsent (x ∷ xs) (y ∷ ys) z = rw (z.0.unsent, alike-unsent xs ys z.1) refl

module _ {N : Type 0} where
  -- ---- cells

  -- a cell with the same inputs, and outs where the same waits
  record Idles (c d : CellParts N) : Type 0 where
    ins : d.ins ≡ c.ins
    outs : AllZip Alike c.core.outs.items d.core.outs.items

  Idles-refl : (c : CellParts N) → Idles c c
  Idles-refl c = record { ins = refl; outs = zip-refl Alike Alike-refl c.core.outs.items }

  Idles-sym : (c d : CellParts N) → Idles c d → Idles d c
  Idles-sym c d h = record { ins = sym h.ins; outs = zip-sym Alike Alike-sym c.core.outs.items d.core.outs.items h.outs }

  gathers-idles : (c d : CellParts N) → Gathers c d → Idles c d
  gathers-idles c d z = record {
    ins = z.ins;
    outs = subst (λ v. AllZip Alike c.core.outs.items v.items) (sym z.outs) (zip-refl Alike Alike-refl c.core.outs.items);
  }

  idles-in : (cells cells' : List (CellParts N)) (j k : ℕ) → AllZip Idles cells cells' → in_of cells' j k ≡ in_of cells j k
  idles-in [] [] j k z = refl
  idles-in [] (d ∷ cells') j k z = absurd z
  idles-in (c ∷ cells) [] j k z = absurd z
  idles-in (c ∷ cells) (d ∷ cells') zero k z = ap (λ v. slice_get v.items k) z.0.ins
  idles-in (c ∷ cells) (d ∷ cells') (suc j) k z = idles-in cells cells' j k z.1

  idles-out : (cells cells' : List (CellParts N)) (j i : ℕ) → AllZip Idles cells cells' → Both Alike (out_of cells j i) (out_of cells' j i)
  idles-out [] [] j i z = tt
  idles-out [] (d ∷ cells') j i z = absurd z
  idles-out (c ∷ cells) [] j i z = absurd z
  idles-out (c ∷ cells) (d ∷ cells') zero i z = zip-both Alike c.core.outs.items d.core.outs.items i z.0.outs
  idles-out (c ∷ cells) (d ∷ cells') (suc j) i z = idles-out cells cells' j i z.1

  -- ---- steps

  enabled-idles : (cells cells' : List (CellParts N)) (next : Step) → AllZip Idles cells cells' → IsEnabled cells next → IsEnabled cells' next
  enabled-idles cells cells' (steps.Take cell input) z e =
      let can : CanTakeAt cells cell input = e in
      let b : Beside Idles cells' cell can.parts = beside Idles cells cells' cell can.parts can.at z in
      let same : Idles can.parts b.other = b.fact in
      record {
        parts = b.other;
        at = b.at;
        can = record {
          edge = can.can.edge;
          at = ap (λ v. slice_get v.items input) same.ins ∙ can.can.at;
          knows = can.can.knows;
          none = alike-unsent can.parts.core.outs.items b.other.core.outs.items same.outs ∙ can.can.none;
        };
      }
  enabled-idles cells cells' (steps.Put cell out) z e =
      let can : CanPutAt cells cell out = e in
      let o : Other (Alike can.edge) (out_of cells' cell out) = both-right Alike (out_of cells cell out) (out_of cells' cell out) can.edge (idles-out cells cells' cell out z) can.at in
      let x : OutEdge = o.value in
      let same : Alike can.edge x = o.fact in
      record {
        edge = x;
        far = can.far;
        at = o.is;
        at_child = idles-in cells cells' x.child x.input z ∙ subst (λ (n : ℕ). in_of cells n x.input ≡ Some can.far) (sym same.child) (subst (λ (n : ℕ). in_of cells can.edge.child n ≡ Some can.far) (sym same.input) can.at_child);
        waits = subst (λ (l : List Msg). 0 < length l) (sym same.unsent) can.waits;
        room = subst (λ (n : ℕ). length (known can.far.head) < n) (sym same.capacity) can.room;
      }

  same-idles : (cells cells' : List (CellParts N)) → AllZip Idles cells cells' → SameEnabled cells cells'
  same-idles cells cells' z = record {
    forth = λ next e. enabled-idles cells cells' next z e;
    back = λ next e. enabled-idles cells' cells next (zip-sym Idles Idles-sym cells cells' z) e;
  }

  -- what stays is the same
  pub same-refl : (cells : List (CellParts N)) → SameEnabled cells cells
  same-refl cells = record { forth = λ next e. e; back = λ next e. e }

  -- a cell put nothing
  pub same-held : (cells : List (CellParts N)) (j i : ℕ) (c d : CellParts N) → slice_get cells j ≡ Some c → PutsNone i c d → SameEnabled cells (set cells j d)
  same-held cells j i c d at t = same-idles cells (set cells j d) (zip-set Idles Idles-refl cells j c d at (record {
    ins = t.others.ins;
    outs = zip-weaker Eases Alike eases-alike c.core.outs.items d.core.outs.items t.outs;
  }))

  -- effects were gathered
  pub same-gathered : (cells cells' : List (CellParts N)) → AllZip Gathers cells cells' → SameEnabled cells cells'
  same-gathered cells cells' z = same-idles cells cells' (weaker cells cells' z)
    where
      weaker : (xs ys : List (CellParts N)) → AllZip Gathers xs ys → AllZip Idles xs ys
      weaker [] [] h = tt
      weaker [] (y ∷ ys) h = absurd h
      weaker (x ∷ xs) [] h = absurd h
      weaker (x ∷ xs) (y ∷ ys) h = (gathers-idles x y h.0, weaker xs ys h.1)
