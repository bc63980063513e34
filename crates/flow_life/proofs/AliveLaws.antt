-- While something is left to do, some step can be made.
use Rattle.std.proofs.Common.{◌≡◌, ℕ, zero, suc, ◌<◌, ◌≤◌, Bool, true, false, List, [], ◌∷◌, length, Some, refl, subst, ◌∙◌, inl, inr, ⊎_elim, arith}
use Rattle.std.specs.Prelude.{◌||◌, ◌⊎◌, is_some, nat_lt, slice_get}
use Rattle.std.specs.List.{list_any}
use Rattle.std.proofs.lemmas.Bool.{lt-ltb}
use Rattle.kap_base.specs.declared.items.Msg.{Msg}
use Rattle.edge_queue.specs.Edges.{IsSettled, edge_capacity, known}
use Rattle.flow_cells.specs.declared.parts.OutEdge.{OutEdge}
use Rattle.flow_cells.specs.declared.parts.InEdge.{InEdge}
use Rattle.flow_cells.specs.declared.parts.CellParts.{CellParts}
use Rattle.flow_cells.specs.Outs.{has_unsent}
use Rattle.flow_cells.specs.Looks.{has_known, knows_some}
use Rattle.flow_life.specs.declared.steps.Step.TheVariants as steps
use Rattle.flow_life.specs.Places.{in_of, out_of}
use Rattle.flow_life.proofs.PlaceLaws.{CellOfIn, cell-of_in, found-same, out-at}
use Rattle.flow_life.specs.Steps.{AreQuiet, SomeEnabled}
use Rattle.flow_life.specs.Wired.{Feeds, IsFed, IsWired}

true-or-false : (b : Bool) → (b ≡ true) ⊎ (b ≡ false)
true-or-false true = inl refl
true-or-false false = inr refl

less-or : (a b : ℕ) → (a < b) ⊎ (b ≤ a)
less-or a zero = inr (omega arith)
less-or zero (suc b) = inl (omega arith)
less-or (suc a) (suc b) = ⊎_elim (λ h. inl (omega (arith, h))) (λ h. inr (omega (arith, h))) (less-or a b)

-- an element of which a test holds
record Found {A : Type 0} (f : A → Bool) (xs : List A) : Type 0 where
  i : ℕ
  x : A
  at : slice_get xs i ≡ Some x
  holds : f x ≡ true

any-found : {A : Type 0} (f : A → Bool) (xs : List A) → list_any f xs ≡ true → Found f xs
any-found f [] h = absurd cc
any-found f (x ∷ xs) h = ⊎_elim
    (λ here. record { i = 0; x = x; at = refl; holds = here })
    (λ not. let r = any-found f xs (or-right (f x) (list_any f xs) not h) in record { i = suc r.i; x = r.x; at = r.at; holds = r.holds })
    (true-or-false (f x))
  where
    or-right : (a b : Bool) → a ≡ false → (a || b) ≡ true → b ≡ true
    or-right false b e h = h
    or-right true b e h = absurd cc

first-waits : (l : List Msg) → is_some (slice_get l 0) ≡ true → 0 < length l
first-waits [] h = absurd cc
first-waits (m ∷ l) h = omega arith

some-knows : (l : List Msg) → 0 < length l → nat_lt 0 (length l) ≡ true
some-knows l h = lt-ltb 0 (length l) h

module _ {N : Type 0} where
  -- a cell with something to send, behind which no cell has anything to send
  record Last (cells : List (CellParts N)) : Type 0 where
    j : ℕ
    c : CellParts N
    at : slice_get cells j ≡ Some c
    has : has_unsent c.core.outs.items ≡ true
    later : (i : ℕ) (d : CellParts N) → j < i → slice_get cells i ≡ Some d → has_unsent d.core.outs.items ≡ false

  -- nothing waits at any out
  abbrev NoneWaits : List (CellParts N) → Type 0
  NoneWaits cells = (i : ℕ) (d : CellParts N) → slice_get cells i ≡ Some d → has_unsent d.core.outs.items ≡ false

  last : (cells : List (CellParts N)) → NoneWaits cells ⊎ Last cells
  last [] = inl (λ i d at. absurd cc)
  last (c ∷ cells) = ⊎_elim
      (λ none. ⊎_elim
      (λ some. inr (record { j = 0; c = c; at = refl; has = some; later = later_of none }))
      (λ nothing. inl (none_of none nothing))
      (true-or-false (has_unsent c.core.outs.items)))
      (λ l. inr (record { j = suc l.j; c = l.c; at = l.at; has = l.has; later = behind l }))
      (last cells)
    where
      later_of : NoneWaits cells → (i : ℕ) (d : CellParts N) → 0 < i → slice_get (c ∷ cells) i ≡ Some d → has_unsent d.core.outs.items ≡ false
      later_of none zero d lt at = absurd (omega (arith, lt))
      later_of none (suc i) d lt at = none i d at

      none_of : NoneWaits cells → has_unsent c.core.outs.items ≡ false → NoneWaits (c ∷ cells)
      none_of none nothing zero d at = subst (λ (x : CellParts N). has_unsent x.core.outs.items ≡ false) (found-same (Some c) c d refl at) nothing
      none_of none nothing (suc i) d at = none i d at

      behind : (l : Last cells) → (i : ℕ) (d : CellParts N) → suc l.j < i → slice_get (c ∷ cells) i ≡ Some d → has_unsent d.core.outs.items ≡ false
      behind l zero d lt at = absurd (omega (arith, lt))
      behind l (suc i) d lt at = l.later i d (omega (arith, lt)) at

  -- a cell of which some edge isn't empty, or none has one
  record Busy (cells : List (CellParts N)) : Type 0 where
    j : ℕ
    c : CellParts N
    at : slice_get cells j ≡ Some c
    has : has_known c.ins.items ≡ true

  busy-or : (cells : List (CellParts N)) → NoneWaits cells → AreQuiet cells ⊎ Busy cells
  busy-or [] none = inl tt
  busy-or (c ∷ cells) none = ⊎_elim
      (λ some. inr (record { j = 0; c = c; at = refl; has = some }))
      (λ nothing. ⊎_elim
      (λ q. inl (record { unsent = none 0 c refl; known = nothing }, q))
      (λ b. inr (record { j = suc b.j; c = b.c; at = b.at; has = b.has }))
      (busy-or cells (λ i d at. none (suc i) d at)))
      (true-or-false (has_known c.ins.items))

  -- the other end of an out
  pub record Across (cells : List (CellParts N)) (j i : ℕ) (x : OutEdge) : Type 0 where
    pub far : InEdge
    pub at : in_of cells x.child x.input ≡ Some far
    pub before : j < x.child
    pub settled : IsSettled x.tail far.head
    pub some : 0 < edge_capacity x.tail
    pub from : far.from ≡ j
    pub out : far.out ≡ i

  pub across : (cells : List (CellParts N)) → IsWired cells → (j i : ℕ) (x : OutEdge) → out_of cells j i ≡ Some x → Across cells j i x
  across cells w j i x at =
      let h : Feeds cells j i x = w.outs j i x at in
      let f : IsFed cells x.child x.input h.edge = w.ins x.child x.input h.edge h.at in
      let f_at : out_of cells j i ≡ Some f.out = subst (λ (n : ℕ). out_of cells n i ≡ Some f.out) h.from (subst (λ (n : ℕ). out_of cells h.edge.from n ≡ Some f.out) h.out f.at) in
      let same : f.out ≡ x = found-same (out_of cells j i) f.out x f_at at in
      record {
        far = h.edge;
        at = h.at;
        before = subst (λ (n : ℕ). n < x.child) h.from f.before;
        settled = subst (λ (o : OutEdge). IsSettled o.tail h.edge.head) same f.settled;
        some = subst (λ (o : OutEdge). 0 < edge_capacity o.tail) same f.some;
        from = h.from;
        out = h.out;
      }

  -- nothing waits or is on an edge, or some step can be made
  pub rest-or-alive : (cells : List (CellParts N)) → IsWired cells → AreQuiet cells ⊎ SomeEnabled cells
  rest-or-alive cells w = ⊎_elim
      (λ none. ⊎_elim
      (λ q. inl q)
      (λ (b : Busy cells).
      let f = any-found knows_some b.c.ins.items b.has in
      inr (record {
        step = steps.Take b.j f.i;
        enabled = record { parts = b.c; at = b.at; can = record { edge = f.x; at = f.at; knows = f.holds; none = none b.j b.c b.at } };
      }))
      (busy-or cells none))
      (λ (l : Last cells).
      let f = any-found (λ (o : OutEdge). is_some (slice_get o.unsent 0)) l.c.core.outs.items l.has in
      let x = f.x in
      let at : out_of cells l.j f.i ≡ Some x = out-at cells l.j f.i l.c l.at ∙ f.at in
      let a = across cells w l.j f.i x at in
      ⊎_elim
      (λ room. inr (record {
        step = steps.Put l.j f.i;
        enabled = record { edge = x; far = a.far; at = at; at_child = a.at; waits = first-waits x.unsent f.holds; room = room };
      }))
      (λ full.
      let d : CellOfIn cells x.child x.input a.far = cell-of_in cells x.child x.input a.far a.at in
      let some : 0 < edge_capacity x.tail = a.some in
      inr (record {
        step = steps.Take x.child x.input;
        enabled = record { parts = d.cell; at = d.at; can = record { edge = a.far; at = d.here; knows = some-knows (known a.far.head) (omega (arith, some, full)); none = l.later x.child d.cell a.before d.at } };
      }))
      (less-or (length (known a.far.head)) (edge_capacity x.tail)))
      (last cells)

  -- while something waits or is on an edge, some step can be made
  pub alive : (cells : List (CellParts N)) → IsWired cells → (AreQuiet cells → ⊥) → SomeEnabled cells
  alive cells w busy = ⊎_elim (λ q. absurd (busy q)) (λ s. s) (rest-or-alive cells w)
