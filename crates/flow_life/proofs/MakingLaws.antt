-- A cell that is added edge by edge leaves cells that are wired.
use Rattle.std.proofs.Common.{◌≡◌, ℕ, zero, suc, ◌+◌, ◌<◌, List, [], ◌∷◌, ◌++◌, map, length, drop, set, Some, refl, sym, ap, subst, ◌∙◌, inl, inr, ⊎_elim, length-append, arith}
use Rattle.std.proofs.lemmas.List.{length-set, map-append}
use Rattle.std.specs.Prelude.{◌⊎◌, slice_get}
use Rattle.std.specs.List.{AllByRecursion as Each}
use Rattle.node_core.specs.declared.node.Node.{Ghosts}
use Rattle.edge_queue.specs.declared.ends.Head.{Head}
use Rattle.edge_queue.specs.declared.ends.Tail.{Tail}
use Rattle.edge_queue.specs.Edges.{IsEdge, IsSettled, edge_capacity, received, ring_received, ring_sent, sent}
use Rattle.flow_cells.specs.declared.parts.OutEdge.{OutEdge}
use Rattle.flow_cells.specs.declared.parts.InEdge.{InEdge}
use Rattle.flow_cells.specs.declared.parts.CellParts.{CellParts}
use Rattle.flow_cells.specs.Kept.{Keeps, received_of}
use Rattle.flow_cells.specs.Made.{HasNothing, IsFresh, IsNothing}
use Rattle.flow_cells.specs.Moves.{KeepsOthers}
use Rattle.flow_cells.proofs.OutLaws.{each-set}
use Rattle.flow_life.specs.Places.{in_of, out_of}
use Rattle.flow_life.proofs.PlaceLaws.{found-same, each-get, get-set, get-within, ins-set, out-at}
use Rattle.flow_life.specs.Wired.{Feeds, IsFed, IsReady, IsUnspent, IsWired, outs_of, parents_of, sum_by_out, sum_of, sum_of_all, times}
use Rattle.flow_life.specs.Making.{AreBlank, FeedsNext, IsWiredWith}
use Rattle.flow_life.proofs.SplitLaws.{each-append}
use Rattle.kap_base.specs.declared.items.Msg.{Msg}
use Rattle.flow_life.specs.Graphs.{IsClosedFor, IsLoaded}
use Rattle.flow_life.specs.Lives.{IsLife}
use Rattle.flow_life.specs.Streams.{Plan, plans_of}
use Rattle.merge_node.specs.Merge.{IsClosedBy}

-- ---- a new edge

drop-none : (n : ℕ) (l : List Msg) → l ≡ [] → drop n l ≡ []
drop-none zero l e = e
drop-none (suc n) [] e = refl
drop-none (suc n) (m ∷ l) e = absurd cc

-- on an edge on which nothing was put nothing was sent since the load
pub unused-tail : (t : Tail) → ring_sent t ≡ [] → sent t ≡ []
unused-tail t e = drop-none _ (ring_sent t) e

-- and nothing was received
pub fresh-head : (h : Head) → ring_received h ≡ [] → received h ≡ []
fresh-head h e = drop-none _ (ring_received h) e

-- what holds of one holds of its equal
pub holds-of : {A : Type 0} (P : A → Type 0) (x y : A) → y ≡ x → P x → P y
holds-of P x y e p = subst P (sym e) p

-- ---- one element more

-- what stands in a list with one element more
get-push : {A : Type 0} (xs : List A) (y : A) (k : ℕ) (x : A) → slice_get (xs ++ y ∷ []) k ≡ Some x → (slice_get xs k ≡ Some x) ⊎ ((k ≡ length xs) × (y ≡ x))
get-push [] y zero x e = inr (refl, found-same (Some y) y x refl e)
get-push [] y (suc k) x e = absurd cc
get-push (z ∷ xs) y zero x e = inl e
get-push (z ∷ xs) y (suc k) x e = ⊎_elim (λ a. inl a) (λ b. inr (ap suc b.0, b.1)) (get-push xs y k x e)

get-kept : {A : Type 0} (xs ys : List A) (k : ℕ) (x : A) → slice_get xs k ≡ Some x → slice_get (xs ++ ys) k ≡ Some x
get-kept [] ys k x e = absurd cc
get-kept (z ∷ xs) ys zero x e = e
get-kept (z ∷ xs) ys (suc k) x e = get-kept xs ys k x e

get-last : {A : Type 0} (xs : List A) (y : A) → slice_get (xs ++ y ∷ []) (length xs) ≡ Some y
get-last [] y = refl
get-last (x ∷ xs) y = get-last xs y

-- what a function makes of a list with one element more
pub map-push : {A B : Type 0} (f : A → B) (xs : List A) (x : A) (ys : List A) (bs : List B) (b : B) → ys ≡ xs ++ x ∷ [] → map f xs ≡ bs → f x ≡ b → map f ys ≡ bs ++ b ∷ []
map-push f xs x ys bs b e h k = ap (map f) e ∙ map-append f xs (x ∷ []) ∙ ap (λ l. l ++ f x ∷ []) h ∙ ap (λ y. bs ++ y ∷ []) k

sum-push : (f : ℕ → ℕ) (ps : List ℕ) (p : ℕ) → sum_of f (ps ++ p ∷ []) ≡ sum_of f ps + f p
sum-push f [] p = omega arith
sum-push f (q ∷ ps) p = let r : sum_of f (ps ++ p ∷ []) ≡ sum_of f ps + f p = sum-push f ps p in omega (arith, r)

plus-zero : (m : ℕ) → m + 0 ≡ m
plus-zero m = omega arith

plus-suc : (m q : ℕ) → suc m + q ≡ m + suc q
plus-suc m q = omega arith

zero-plus : (m : ℕ) → 0 + m ≡ m
zero-plus m = omega arith

nothing-there : (k : ℕ) (x : OutEdge) → slice_get [] k ≡ Some x → ⊥
nothing-there k x e = absurd cc

module _ {N : Type 0} where
  -- the outs where a cell has one more
  out-kept : (cells : List (CellParts N)) (p : ℕ) (c d : CellParts N) (o : OutEdge) (j i : ℕ) (x : OutEdge) → slice_get cells p ≡ Some c → d.core.outs.items ≡ c.core.outs.items ++ o ∷ [] → out_of cells j i ≡ Some x → out_of (set cells p d) j i ≡ Some x
  out-kept [] p c d o j i x at outs e = absurd cc
  out-kept (z ∷ cells) zero c d o zero i x at outs e =
      ap (λ l. slice_get l i) outs ∙ get-kept c.core.outs.items (o ∷ []) i x (ap (λ (y : CellParts N). slice_get y.core.outs.items i) (sym (found-same (Some z) z c refl at)) ∙ e)
  out-kept (z ∷ cells) zero c d o (suc j) i x at outs e = e
  out-kept (z ∷ cells) (suc p) c d o zero i x at outs e = e
  out-kept (z ∷ cells) (suc p) c d o (suc j) i x at outs e = out-kept cells p c d o j i x at outs e

  -- an out of these cells is an old one, or the new one
  out-push : (cells : List (CellParts N)) (p : ℕ) (c d : CellParts N) (o : OutEdge) (j i : ℕ) (x : OutEdge) → slice_get cells p ≡ Some c → d.core.outs.items ≡ c.core.outs.items ++ o ∷ [] → out_of (set cells p d) j i ≡ Some x → (out_of cells j i ≡ Some x) ⊎ ((j ≡ p) × ((i ≡ length c.core.outs.items) × (o ≡ x)))
  out-push [] p c d o j i x at outs e = inl e
  out-push (z ∷ cells) zero c d o zero i x at outs e = ⊎_elim
      (λ old. inl (ap (λ (y : CellParts N). slice_get y.core.outs.items i) (found-same (Some z) z c refl at) ∙ old))
      (λ new. inr (refl, new))
      (get-push c.core.outs.items o i x (ap (λ l. slice_get l i) (sym outs) ∙ e))
  out-push (z ∷ cells) zero c d o (suc j) i x at outs e = inl e
  out-push (z ∷ cells) (suc p) c d o zero i x at outs e = inl e
  out-push (z ∷ cells) (suc p) c d o (suc j) i x at outs e = ⊎_elim (λ old. inl old) (λ new. inr (ap suc new.0, new.1)) (out-push cells p c d o j i x at outs e)

  sum-out : (f : ℕ → ℕ) (n : ℕ) (cells : List (CellParts N)) (p : ℕ) (c d : CellParts N) (o : OutEdge) → slice_get cells p ≡ Some c → d.core.outs.items ≡ c.core.outs.items ++ o ∷ [] → sum_by_out f n (outs_of (set cells p d)) ≡ sum_by_out f n (outs_of cells) + f (n + p)
  sum-out f n [] p c d o at outs = absurd cc
  sum-out f n (z ∷ cells) zero c d o at outs =
      let same : length z.core.outs.items ≡ length c.core.outs.items = ap (λ (y : CellParts N). length y.core.outs.items) (found-same (Some z) z c refl at) in
      let more : length d.core.outs.items ≡ suc (length z.core.outs.items) = ap length outs ∙ length-append c.core.outs.items (o ∷ []) ∙ omega (arith, same) in
      let a : times (f n) (length d.core.outs.items) ≡ f n + times (f n) (length z.core.outs.items) = ap (times (f n)) more in
      let b : f (n + 0) ≡ f n = ap f (plus-zero n) in
      omega (arith, a, b)
  sum-out f n (z ∷ cells) (suc p) c d o at outs =
      let r : sum_by_out f (suc n) (outs_of (set cells p d)) ≡ sum_by_out f (suc n) (outs_of cells) + f (suc n + p) = sum-out f (suc n) cells p c d o at outs in
      let b : f (suc n + p) ≡ f (n + suc p) = ap f (plus-suc n p) in
      omega (arith, r, b)

  -- an edge that is there stays
  fed-kept : (cells cells' : List (CellParts N)) (j k : ℕ) (e : InEdge) → ((a b : ℕ) (x : OutEdge) → out_of cells a b ≡ Some x → out_of cells' a b ≡ Some x) → IsFed cells j k e → IsFed cells' j k e
  fed-kept cells cells' j k e kept f = record { out = f.out; at = kept e.from e.out f.out f.at; before = f.before; edge = f.edge; settled = f.settled; child = f.child; input = f.input; some = f.some }

  -- cells that are wired, before the first edge of the next
  pub wired-next : (cells : List (CellParts N)) → IsWired cells → IsWiredWith [] cells
  wired-next cells w = record {
    ins = w.ins;
    next = λ k e at. absurd cc;
    outs = λ j i o at. inl (w.outs j i o at);
    even = λ f. let h : sum_of_all f (parents_of cells) ≡ sum_by_out f 0 (outs_of cells) = w.even f in omega (arith, h);
  }

  -- one edge more to the cell that comes next
  pub wired-edge : (ins : List InEdge) (cells : List (CellParts N)) (p : ℕ) (c d : CellParts N) (o : OutEdge) (e : InEdge) → IsWiredWith ins cells → slice_get cells p ≡ Some c → d.ins ≡ c.ins → d.core.outs.items ≡ c.core.outs.items ++ o ∷ []
      → IsEdge o.tail e.head → IsSettled o.tail e.head → 0 < edge_capacity o.tail → o.child ≡ length cells → o.input ≡ length ins → e.from ≡ p → e.out ≡ length c.core.outs.items
      → IsWiredWith (ins ++ e ∷ []) (set cells p d)
  wired-edge ins cells p c d o e w at ins_is outs edge settled some child input from out =
      let now = set cells p d in
      let long : length now ≡ length cells = length-set cells p d in
      let lt : p < length cells = get-within cells p c at in
      let kept : (a b : ℕ) (x : OutEdge) → out_of cells a b ≡ Some x → out_of now a b ≡ Some x = λ a b x h. out-kept cells p c d o a b x at outs h in
      let ins_same : (a b : ℕ) → in_of now a b ≡ in_of cells a b = λ a b. ins-set cells p c d a b at (λ _. ap (λ v. slice_get v.items b) ins_is) in
      let new_at : out_of now p (length c.core.outs.items) ≡ Some o = out-at now p (length c.core.outs.items) d (get-set cells p c d at) ∙ ap (λ l. slice_get l (length c.core.outs.items)) outs ∙ get-last c.core.outs.items o in
      record {
        ins = λ j k y h. fed-kept cells now j k y kept (w.ins j k y (sym (ins_same j k) ∙ h));
        next = λ k y h. ⊎_elim
            (λ old. subst (λ (n : ℕ). IsFed now n k y) (sym long) (fed-kept cells now (length cells) k y kept (w.next k y old)))
            (λ new. subst (IsFed now (length now) k) new.1 (record {
              out = o;
              at = subst (λ (a : ℕ). out_of now a e.out ≡ Some o) (sym from) (subst (λ (b : ℕ). out_of now p b ≡ Some o) (sym out) new_at);
              before = omega (arith, from, long, lt);
              edge = edge;
              settled = settled;
              child = child ∙ sym long;
              input = input ∙ sym new.0;
              some = some;
            }))
            (get-push ins e k y h);
        outs = λ j i x h. ⊎_elim
            (λ old. ⊎_elim
            (λ (f : Feeds cells j i x). inl (record { edge = f.edge; at = ins_same x.child x.input ∙ f.at; from = f.from; out = f.out }))
            (λ (f : FeedsNext ins (length cells) j i x). inr (record { edge = f.edge; at = get-kept ins (e ∷ []) x.input f.edge f.at; child = f.child ∙ sym long; from = f.from; out = f.out }))
            (w.outs j i x old))
            (λ new. inr (subst (FeedsNext (ins ++ e ∷ []) (length now) j i) new.1.1 (record {
              edge = e;
              at = subst (λ (k : ℕ). slice_get (ins ++ e ∷ []) k ≡ Some e) (sym input) (get-last ins e);
              child = child ∙ sym long;
              from = from ∙ sym new.0;
              out = out ∙ sym new.1.0;
            })))
            (out-push cells p c d o j i x at outs h);
        even = λ f.
            let a : sum_of_all f (parents_of now) ≡ sum_of_all f (parents_of cells) = ap (sum_of_all f) (map-kept cells p c d at ins_is) in
            let b : sum_of f (map (λ (x : InEdge). x.from) (ins ++ e ∷ [])) ≡ sum_of f (map (λ (x : InEdge). x.from) ins) + f p =
            ap (sum_of f) (map-append (λ (x : InEdge). x.from) ins (e ∷ [])) ∙ sum-push f (map (λ (x : InEdge). x.from) ins) e.from ∙ ap (λ (q : ℕ). sum_of f (map (λ (x : InEdge). x.from) ins) + f q) from in
            let g : sum_by_out f 0 (outs_of now) ≡ sum_by_out f 0 (outs_of cells) + f (0 + p) = sum-out f 0 cells p c d o at outs in
            let h : sum_of_all f (parents_of cells) + sum_of f (map (λ (x : InEdge). x.from) ins) ≡ sum_by_out f 0 (outs_of cells) = w.even f in
            let z : f (0 + p) ≡ f p = ap f (zero-plus p) in
            omega (arith, a, b, g, h, z);
      }
    where
      map-kept : (cs : List (CellParts N)) (q : ℕ) (x y : CellParts N) → slice_get cs q ≡ Some x → y.ins ≡ x.ins → parents_of (set cs q y) ≡ parents_of cs
      map-kept [] q x y h s = refl
      map-kept (z ∷ cs) zero x y h s = ap (λ v. map (λ (r : InEdge). r.from) v.items ∷ parents_of cs) (s ∙ ap (λ (r : CellParts N). r.ins) (sym (found-same (Some z) z x refl h)))
      map-kept (z ∷ cs) (suc q) x y h s = ap (λ (l : List (List ℕ)). map (λ (r : InEdge). r.from) z.ins.items ∷ l) (map-kept cs q x y h s)

  -- ---- the cell itself

  in-push : (cells : List (CellParts N)) (c : CellParts N) (j k : ℕ) (e : InEdge) → in_of (cells ++ c ∷ []) j k ≡ Some e → (in_of cells j k ≡ Some e) ⊎ ((j ≡ length cells) × (slice_get c.ins.items k ≡ Some e))
  in-push [] c zero k e h = inr (refl, h)
  in-push [] c (suc j) k e h = absurd cc
  in-push (d ∷ cells) c zero k e h = inl h
  in-push (d ∷ cells) c (suc j) k e h = ⊎_elim (λ a. inl a) (λ b. inr (ap suc b.0, b.1)) (in-push cells c j k e h)

  in-behind : (cells : List (CellParts N)) (c : CellParts N) (j k : ℕ) (e : InEdge) → in_of cells j k ≡ Some e → in_of (cells ++ c ∷ []) j k ≡ Some e
  in-behind [] c j k e h = absurd cc
  in-behind (d ∷ cells) c zero k e h = h
  in-behind (d ∷ cells) c (suc j) k e h = in-behind cells c j k e h

  in-last : (cells : List (CellParts N)) (c : CellParts N) (k : ℕ) → in_of (cells ++ c ∷ []) (length cells) k ≡ slice_get c.ins.items k
  in-last [] c k = refl
  in-last (d ∷ cells) c k = in-last cells c k

  out-behind : (cells : List (CellParts N)) (c : CellParts N) (j i : ℕ) (o : OutEdge) → out_of cells j i ≡ Some o → out_of (cells ++ c ∷ []) j i ≡ Some o
  out-behind [] c j i o h = absurd cc
  out-behind (d ∷ cells) c zero i o h = h
  out-behind (d ∷ cells) c (suc j) i o h = out-behind cells c j i o h

  no-outs : (cells : List (CellParts N)) (c : CellParts N) (j i : ℕ) (o : OutEdge) → c.core.outs.items ≡ [] → out_of (cells ++ c ∷ []) j i ≡ Some o → out_of cells j i ≡ Some o
  no-outs [] c zero i o none h = absurd (nothing-there i o (sym (ap (λ l. slice_get l i) none) ∙ h))
  no-outs [] c (suc j) i o none h = h
  no-outs (d ∷ cells) c zero i o none h = h
  no-outs (d ∷ cells) c (suc j) i o none h = no-outs cells c j i o none h

  sum-cell : (f : ℕ → ℕ) (cells : List (CellParts N)) (c : CellParts N) → sum_of_all f (parents_of (cells ++ c ∷ [])) ≡ sum_of_all f (parents_of cells) + sum_of f (map (λ (e : InEdge). e.from) c.ins.items)
  sum-cell f [] c = omega arith
  sum-cell f (d ∷ cells) c =
      let r : sum_of_all f (parents_of (cells ++ c ∷ [])) ≡ sum_of_all f (parents_of cells) + sum_of f (map (λ (e : InEdge). e.from) c.ins.items) = sum-cell f cells c in
      omega (arith, r)

  sum-none : (f : ℕ → ℕ) (n : ℕ) (cells : List (CellParts N)) (c : CellParts N) → c.core.outs.items ≡ [] → sum_by_out f n (outs_of (cells ++ c ∷ [])) ≡ sum_by_out f n (outs_of cells)
  sum-none f n [] c none = let z : times (f n) (length c.core.outs.items) ≡ 0 = ap (λ l. times (f n) (length l)) none in omega (arith, z)
  sum-none f n (d ∷ cells) c none =
      let r : sum_by_out f (suc n) (outs_of (cells ++ c ∷ [])) ≡ sum_by_out f (suc n) (outs_of cells) = sum-none f (suc n) cells c none in
      omega (arith, r)

  -- the cell is added, with its inputs
  pub wired-cell : (cells : List (CellParts N)) (c : CellParts N) (ins : List InEdge) → IsWiredWith ins cells → c.ins.items ≡ ins → c.core.outs.items ≡ [] → IsWired (cells ++ c ∷ [])
  wired-cell cells c ins w is none =
      let now = cells ++ c ∷ [] in
      let kept : (a b : ℕ) (x : OutEdge) → out_of cells a b ≡ Some x → out_of now a b ≡ Some x = λ a b x h. out-behind cells c a b x h in
      record {
        ins = λ j k e h. ⊎_elim
            (λ old. fed-kept cells now j k e kept (w.ins j k e old))
            (λ new. subst (λ (n : ℕ). IsFed now n k e) (sym new.0) (fed-kept cells now (length cells) k e kept (w.next k e (ap (λ l. slice_get l k) (sym is) ∙ new.1))))
            (in-push cells c j k e h);
        outs = λ j i o h. ⊎_elim
            (λ (f : Feeds cells j i o). record { edge = f.edge; at = in-behind cells c o.child o.input f.edge f.at; from = f.from; out = f.out })
            (λ (f : FeedsNext ins (length cells) j i o). record {
              edge = f.edge;
              at = subst (λ (n : ℕ). in_of now n o.input ≡ Some f.edge) (sym f.child) (in-last cells c o.input ∙ ap (λ l. slice_get l o.input) is ∙ f.at);
              from = f.from;
              out = f.out;
            })
            (w.outs j i o (no-outs cells c j i o none h));
        even = λ f.
            let a : sum_of_all f (parents_of now) ≡ sum_of_all f (parents_of cells) + sum_of f (map (λ (e : InEdge). e.from) c.ins.items) = sum-cell f cells c in
            let b : sum_of f (map (λ (e : InEdge). e.from) c.ins.items) ≡ sum_of f (map (λ (e : InEdge). e.from) ins) = ap (λ l. sum_of f (map (λ (e : InEdge). e.from) l)) is in
            let g : sum_by_out f 0 (outs_of now) ≡ sum_by_out f 0 (outs_of cells) = sum-none f 0 cells c none in
            let h : sum_of_all f (parents_of cells) + sum_of f (map (λ (e : InEdge). e.from) ins) ≡ sum_by_out f 0 (outs_of cells) = w.even f in
            omega (arith, a, b, g, h);
      }

closed-none : (ins : List InEdge) (source : List Msg) → Each IsNothing (received_of ins source) → IsClosedFor [] (map (λ (e : InEdge). e.from) ins) source
closed-none [] source h = subst (IsClosedBy []) (sym h.0) (record { barriers = refl; closed = tt })
closed-none (e ∷ ins) source h = tt

module _ {N P S : Type 0} (g : Ghosts N P S) where
  -- one edge more
  pub blank-edge : (ins : List InEdge) (cells : List (CellParts N)) (p : ℕ) (c d : CellParts N) (o : OutEdge) (e : InEdge) → AreBlank g ins cells → slice_get cells p ≡ Some c → Keeps g d → KeepsOthers c d → d.core.outs.items ≡ c.core.outs.items ++ o ∷ []
      → IsEdge o.tail e.head → IsSettled o.tail e.head → 0 < edge_capacity o.tail → o.child ≡ length cells → o.input ≡ length ins → e.from ≡ p → e.out ≡ length c.core.outs.items → IsFresh e
      → AreBlank g (ins ++ e ∷ []) (set cells p d)
  blank-edge ins cells p c d o e b at keeps others outs edge settled some child input from out fresh = record {
    keeps = each-set (Keeps g) cells p d b.keeps keeps;
    unspent = each-set IsUnspent cells p d b.unspent (others.spent ∙ each-get IsUnspent cells p c at b.unspent);
    nothing = each-set HasNothing cells p d b.nothing (rw (others.ins, others.source) (each-get HasNothing cells p c at b.nothing));
    fresh = each-append IsFresh ins (e ∷ []) b.fresh (fresh, tt);
    wired = wired-edge ins cells p c d o e b.wired at others.ins outs edge settled some child input from out;
  }

  -- the cell is added
  pub ready-cell : (cells : List (CellParts N)) (c : CellParts N) (ins : List InEdge) → AreBlank g ins cells → Keeps g c → IsUnspent c → c.ins.items ≡ ins → c.core.outs.items ≡ [] → IsReady g (cells ++ c ∷ [])
  ready-cell cells c ins b keeps unspent is none = record {
    keeps = each-append (Keeps g) cells (c ∷ []) b.keeps (keeps, tt);
    unspent = each-append IsUnspent cells (c ∷ []) b.unspent (unspent, tt);
    wired = wired-cell cells c ins b.wired is none;
  }

  -- cells that received nothing are loaded with nothing
  pub nothing-loaded : (cells : List (CellParts N)) → Each HasNothing cells → IsLoaded (plans_of g cells)
  nothing-loaded cells h = record { barriers = []; closed = all cells h }
    where
      all : (cs : List (CellParts N)) → Each HasNothing cs → Each (λ (p : Plan S). IsClosedFor [] p.parents p.source) (plans_of g cs)
      all [] e = tt
      all (c ∷ cs) e = (closed-none c.ins.items c.source.value.items e.0, all cs e.1)

  -- a cell is added to cells that received nothing
  pub life-cell : (cells : List (CellParts N)) (c : CellParts N) (ins : List InEdge) → AreBlank g ins cells → Keeps g c → IsUnspent c → HasNothing c → c.ins.items ≡ ins → c.core.outs.items ≡ [] → IsLife g (cells ++ c ∷ [])
  life-cell cells c ins b keeps unspent nothing is none = record {
    ready = ready-cell cells c ins b keeps unspent is none;
    loaded = nothing-loaded (cells ++ c ∷ []) (each-append HasNothing cells (c ∷ []) b.nothing (nothing, tt));
  }

  -- before the first edge
  pub blank-first : (cells : List (CellParts N)) → IsReady g cells → Each HasNothing cells → AreBlank g [] cells
  blank-first cells r nothing = record { keeps = r.keeps; unspent = r.unspent; nothing = nothing; fresh = tt; wired = wired-next cells r.wired }

  -- a life without cells
  pub life-none : IsLife g []
  life-none = record {
    ready = record {
      keeps = tt;
      unspent = tt;
      wired = record { ins = λ j k e at. absurd cc; outs = λ j i o at. absurd cc; even = λ f. refl };
    };
    loaded = record { barriers = []; closed = tt };
  }
