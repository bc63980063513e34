-- Cells that moved by themselves are joined by their edges, and settling the edges makes a life of them.
use Rattle.std.proofs.Common.{◌≡◌, ℕ, zero, suc, ◌+◌, ◌<◌, ◌≤◌, List, [], ◌∷◌, map, length, set, Some, refl, sym, ap, subst, ◌∙◌, ⊎_elim, arith}
use Rattle.std.specs.Prelude.{slice_get}
use Rattle.std.specs.List.{AllByRecursion as Each, AllZip}
use Rattle.node_core.specs.declared.node.Node.{Ghosts}
use Rattle.edge_queue.specs.declared.ends.Head.{Head}
use Rattle.edge_queue.specs.Edges.{IsSettled, known}
use Rattle.edge_queue.specs.Moves.{HeadLooked}
use Rattle.edge_queue.proofs.EdgeLaws.{IsEdge-same, IsSettled-looked, SameHead-trans, SameTail-capacity, TailLooked-trans}
use Rattle.flow_cells.specs.declared.parts.OutEdge.{OutEdge}
use Rattle.flow_cells.specs.declared.parts.InEdge.{InEdge}
use Rattle.flow_cells.specs.declared.parts.CellParts.{CellParts}
use Rattle.flow_cells.specs.Kept.{Keeps, gathered}
use Rattle.flow_cells.specs.Moved.{Came, HasMoved, Went}
use Rattle.flow_cells.proofs.MovedLaws.{prefix-trans, set-at}
use Rattle.flow_cells.proofs.MoveLaws.{Eases-refl, Still-refl}
use Rattle.flow_cells.specs.Moves.{Eases, Still}
use Rattle.flow_cells.proofs.OutLaws.{zip-refl, zip-trans, zip-weaker}
use Rattle.flow_cells.specs.Settles.{Settles}
use Rattle.flow_life.proofs.BeforeLaws.{befores-came, befores-still}
use Rattle.flow_life.proofs.ChangeLaws.{Calm, Ends, SameIn, SameOut, SettledEnds}
use Rattle.flow_life.specs.Graphs.{IsLoaded}
use Rattle.flow_life.specs.Lives.{IsLife}
use Rattle.flow_life.specs.Loose.{AreSettledTo, HasInput, HasInputs, HasLooked, IsJoined, IsLoose, IsSettledAt, IsTied}
use Rattle.flow_life.specs.Nodes.{gathered_of, specs_of}
use Rattle.flow_life.proofs.PlaceLaws.{Other, both-left, both-right, found-same, get-set_other, in-at, in-within, same_place, zip-both, zip-length, zip-map}
use Rattle.flow_life.specs.Places.{Both, in_of, out_of}
use Rattle.flow_life.specs.Settling.{HasEdge, SettlesIn}
use Rattle.flow_life.proofs.StepLaws.{settle-ends}
use Rattle.flow_life.specs.Streams.{plan_of, plans_of}
use Rattle.flow_life.specs.Wired.{Feeds, IsFed, IsUnspent, IsWired, outs_of, parents_of, sum_by_out, sum_of_all}

-- ---- ends

came-in : (a b : InEdge) → Came a b → SameIn a b
came-in a b c = record { head = c.head; from = c.from; out = c.out }

still-in : (a b : InEdge) → Still a b → SameIn a b
still-in a b s = record { head = s.head.same; from = s.from; out = s.out }

went-out : (a b : OutEdge) → Went a b → SameOut a b
went-out a b w = record { tail = w.tail; child = w.child; input = w.input }

eases-out : (a b : OutEdge) → Eases a b → SameOut a b
eases-out a b e = record { tail = e.tail.same; child = e.child; input = e.input }

Looked-trans : (a b c : Head) → HeadLooked a b → HeadLooked b c → HeadLooked a c
Looked-trans a b c p q = record {
  same = SameHead-trans p.same q.same;
  ring_received = q.ring_received ∙ p.ring_received;
  received = q.received ∙ p.received;
  known = prefix-trans (known a) (known b) (known c) p.known q.known;
}

Still-trans : (a b c : InEdge) → Still a b → Still b c → Still a c
Still-trans a b c p q = record { head = Looked-trans a.head b.head c.head p.head q.head; from = q.from ∙ p.from; out = q.out ∙ p.out }

Eases-trans : (a b c : OutEdge) → Eases a b → Eases b c → Eases a c
Eases-trans a b c p q = record { tail = TailLooked-trans p.tail q.tail; unsent = q.unsent ∙ p.unsent; child = q.child ∙ p.child; input = q.input ∙ p.input }

-- the edge at a place
record Found (es : List InEdge) (m : ℕ) : Type 0 where
  edge : InEdge
  at : slice_get es m ≡ Some edge

-- what is below the next number, and not the number, is below it
pub below : (n j : ℕ) → n < j + 1 → (n ≡ j → ⊥) → n < j
below n zero lt ne = absurd (ne (omega (arith, lt)))
below zero (suc j) lt ne = omega arith
below (suc n) (suc j) lt ne = let h : n < j = below n j (omega (arith, lt)) (λ e. ne (ap suc e)) in omega (arith, h)

module _ {N : Type 0} where
  -- each end is one of the same edge
  pub record HasSameEnds (cells cells' : List (CellParts N)) : Type 0 where
    pub ins : (n m : ℕ) → Both SameIn (in_of cells n m) (in_of cells' n m)
    pub outs : (n m : ℕ) → Both SameOut (out_of cells n m) (out_of cells' n m)
    pub parents : parents_of cells' ≡ parents_of cells
    pub counts : outs_of cells' ≡ outs_of cells

  -- such cells stay joined
  pub same-joined : (cells cells' : List (CellParts N)) → IsJoined cells → HasSameEnds cells cells' → IsJoined cells'
  same-joined cells cells' w s = record {
    ins = λ n m y at.
        let o : Other (λ z. SameIn z y) (in_of cells n m) = both-left SameIn (in_of cells n m) (in_of cells' n m) y (s.ins n m) at in
        let i : SameIn o.value y = o.fact in
        let t : IsTied cells n m o.value = w.ins n m o.value o.is in
        let x : Other (SameOut t.out) (out_of cells' o.value.from o.value.out) = both-right SameOut (out_of cells o.value.from o.value.out) (out_of cells' o.value.from o.value.out) t.out (s.outs o.value.from o.value.out) t.at in
        let q : SameOut t.out x.value = x.fact in
        record {
          out = x.value;
          at = subst (λ (r : ℕ). out_of cells' r y.out ≡ Some x.value) (sym i.from) (subst (λ (r : ℕ). out_of cells' o.value.from r ≡ Some x.value) (sym i.out) x.is);
          before = subst (λ (r : ℕ). r < n) (sym i.from) t.before;
          edge = IsEdge-same t.edge q.tail i.head;
          child = q.child ∙ t.child;
          input = q.input ∙ t.input;
          some = subst (λ (r : ℕ). 0 < r) (sym (SameTail-capacity q.tail)) t.some;
        };
    outs = λ n m y at.
        let o : Other (λ z. SameOut z y) (out_of cells n m) = both-left SameOut (out_of cells n m) (out_of cells' n m) y (s.outs n m) at in
        let q : SameOut o.value y = o.fact in
        let h : Feeds cells n m o.value = w.outs n m o.value o.is in
        let e : Other (SameIn h.edge) (in_of cells' o.value.child o.value.input) = both-right SameIn (in_of cells o.value.child o.value.input) (in_of cells' o.value.child o.value.input) h.edge (s.ins o.value.child o.value.input) h.at in
        let i : SameIn h.edge e.value = e.fact in
        record {
          edge = e.value;
          at = subst (λ (r : ℕ). in_of cells' r y.input ≡ Some e.value) (sym q.child) (subst (λ (r : ℕ). in_of cells' o.value.child r ≡ Some e.value) (sym q.input) e.is);
          from = i.from ∙ h.from;
          out = i.out ∙ h.out;
        };
    even = λ f. ap (sum_of_all f) s.parents ∙ w.even f ∙ sym (ap (sum_by_out f 0) s.counts);
  }

  zip-ins : (R : InEdge → InEdge → Type 0) (Q : CellParts N → CellParts N → Type 0) → ((c d : CellParts N) → Q c d → AllZip R c.ins.items d.ins.items) → (cells cells' : List (CellParts N)) (n m : ℕ) → AllZip Q cells cells' → Both R (in_of cells n m) (in_of cells' n m)
  zip-ins R Q f [] [] n m z = tt
  zip-ins R Q f [] (d ∷ ds) n m z = absurd z
  zip-ins R Q f (c ∷ cs) [] n m z = absurd z
  zip-ins R Q f (c ∷ cs) (d ∷ ds) zero m z = zip-both R c.ins.items d.ins.items m (f c d z.0)
  zip-ins R Q f (c ∷ cs) (d ∷ ds) (suc n) m z = zip-ins R Q f cs ds n m z.1

  zip-outs : (R : OutEdge → OutEdge → Type 0) (Q : CellParts N → CellParts N → Type 0) → ((c d : CellParts N) → Q c d → AllZip R c.core.outs.items d.core.outs.items) → (cells cells' : List (CellParts N)) (n m : ℕ) → AllZip Q cells cells' → Both R (out_of cells n m) (out_of cells' n m)
  zip-outs R Q f [] [] n m z = tt
  zip-outs R Q f [] (d ∷ ds) n m z = absurd z
  zip-outs R Q f (c ∷ cs) [] n m z = absurd z
  zip-outs R Q f (c ∷ cs) (d ∷ ds) zero m z = zip-both R c.core.outs.items d.core.outs.items m (f c d z.0)
  zip-outs R Q f (c ∷ cs) (d ∷ ds) (suc n) m z = zip-outs R Q f cs ds n m z.1

  froms-moved : (c d : CellParts N) → HasMoved c d → map (λ (e : InEdge). e.from) d.ins.items ≡ map (λ (e : InEdge). e.from) c.ins.items
  froms-moved c d h = zip-map (λ (e : InEdge). e.from) Came (λ a b r. r.from) c.ins.items d.ins.items h.ins

  froms-looked : (c d : CellParts N) → HasLooked c d → map (λ (e : InEdge). e.from) d.ins.items ≡ map (λ (e : InEdge). e.from) c.ins.items
  froms-looked c d h = zip-map (λ (e : InEdge). e.from) Still (λ a b r. r.from) c.ins.items d.ins.items h.ins

  moved-ends : (cells cells' : List (CellParts N)) → AllZip HasMoved cells cells' → HasSameEnds cells cells'
  moved-ends cells cells' z = record {
    ins = λ n m. zip-ins SameIn HasMoved (λ c d h. zip-weaker Came SameIn came-in c.ins.items d.ins.items h.ins) cells cells' n m z;
    outs = λ n m. zip-outs SameOut HasMoved (λ c d h. zip-weaker Went SameOut went-out c.core.outs.items d.core.outs.items h.outs) cells cells' n m z;
    parents = zip-map (λ (x : CellParts N). map (λ (e : InEdge). e.from) x.ins.items) HasMoved froms-moved cells cells' z;
    counts = zip-map (λ (x : CellParts N). length x.core.outs.items) HasMoved (λ c d h. zip-length Went c.core.outs.items d.core.outs.items h.outs) cells cells' z;
  }

  looked-ends : (cells cells' : List (CellParts N)) → AllZip HasLooked cells cells' → HasSameEnds cells cells'
  looked-ends cells cells' z = record {
    ins = λ n m. zip-ins SameIn HasLooked (λ c d h. zip-weaker Still SameIn still-in c.ins.items d.ins.items h.ins) cells cells' n m z;
    outs = λ n m. zip-outs SameOut HasLooked (λ c d h. zip-weaker Eases SameOut eases-out c.core.outs.items d.core.outs.items h.outs) cells cells' n m z;
    parents = zip-map (λ (x : CellParts N). map (λ (e : InEdge). e.from) x.ins.items) HasLooked froms-looked cells cells' z;
    counts = zip-map (λ (x : CellParts N). length x.core.outs.items) HasLooked (λ c d h. zip-length Eases c.core.outs.items d.core.outs.items h.outs) cells cells' z;
  }

  -- cells that looked stay joined
  pub looked_joined : (cells cells' : List (CellParts N)) → AllZip HasLooked cells cells' → IsJoined cells → IsJoined cells'
  looked_joined cells cells' z w = same-joined cells cells' w (looked-ends cells cells' z)

  -- ---- cells that look

  pub HasLooked-refl : (c : CellParts N) → HasLooked c c
  HasLooked-refl c = record {
    ins = zip-refl Still Still-refl c.ins.items;
    outs = zip-refl Eases Eases-refl c.core.outs.items;
    node = refl;
    gathered = refl;
    effects = refl;
    saved = refl;
    passed = refl;
    clean = refl;
    keeps = refl;
    buffer = refl;
    base = refl;
    source = refl;
    spent = refl;
  }

  pub HasLooked-trans : (c d e : CellParts N) → HasLooked c d → HasLooked d e → HasLooked c e
  HasLooked-trans c d e p q = record {
    ins = zip-trans Still Still-trans c.ins.items d.ins.items e.ins.items p.ins q.ins;
    outs = zip-trans Eases Eases-trans c.core.outs.items d.core.outs.items e.core.outs.items p.outs q.outs;
    node = q.node ∙ p.node;
    gathered = q.gathered ∙ p.gathered;
    effects = q.effects ∙ p.effects;
    saved = q.saved ∙ p.saved;
    passed = q.passed ∙ p.passed;
    clean = q.clean ∙ p.clean;
    keeps = q.keeps ∙ p.keeps;
    buffer = q.buffer ∙ p.buffer;
    base = q.base ∙ p.base;
    source = q.source ∙ p.source;
    spent = q.spent ∙ p.spent;
  }

  looked-parent : (k : ℕ) (p c p' c' : CellParts N) → Settles k p c p' c' → HasLooked p p'
  looked-parent k p c p' c' t =
      let o = t.of_parent in
      record {
        ins = subst (λ v. AllZip Still p.ins.items v.items) (sym o.ins) (zip-refl Still Still-refl p.ins.items);
        outs = subst (AllZip Eases p.core.outs.items) (sym t.outs) (set-at Eases Eases-refl p.core.outs.items t.edge.out t.out t.out' t.at_parent t.tail);
        node = o.node;
        gathered = o.gathered;
        effects = o.effects;
        saved = o.saved;
        passed = o.passed;
        clean = o.clean;
        keeps = o.keeps;
        buffer = o.buffer;
        base = o.base;
        source = o.source;
        spent = o.spent;
      }

  looked-child : (k : ℕ) (p c p' c' : CellParts N) → Settles k p c p' c' → HasLooked c c'
  looked-child k p c p' c' t =
      let o = t.of_child in
      record {
        ins = subst (AllZip Still c.ins.items) (sym t.ins) (set-at Still Still-refl c.ins.items k t.edge t.edge' t.at_child t.head);
        outs = subst (λ core. AllZip Eases c.core.outs.items core.outs.items) (sym o.core) (zip-refl Eases Eases-refl c.core.outs.items);
        node = ap (λ core. core.node) o.core;
        gathered = ap (λ core. core.gathered) o.core;
        effects = ap (λ core. core.effects) o.core;
        saved = ap (λ core. core.saved) o.core;
        passed = ap (λ core. core.passed) o.core;
        clean = ap (λ core. core.clean) o.core;
        keeps = ap (λ core. core.keeps) o.core;
        buffer = o.buffer;
        base = o.base;
        source = o.source;
        spent = o.spent;
      }

  -- settling an edge is looking
  pub settles-looked : (j k p : ℕ) (cells cells' : List (CellParts N)) → SettlesIn j k p cells cells' → AllZip HasLooked cells cells'
  settles-looked j k p cells cells' s =
      let t = s.settles in
      let lt : p < j = s.before in
      let mid = set cells p s.new_parent in
      let at_child : slice_get mid j ≡ Some s.old_child = get-set_other cells p j s.new_parent (λ e. absurd (omega (arith, lt, e))) ∙ s.at_child in
      subst (AllZip HasLooked cells) (sym s.is)
      (zip-trans HasLooked HasLooked-trans cells mid (set mid j s.new_child)
      (set-at HasLooked HasLooked-refl cells p s.old_parent s.new_parent s.at_parent (looked-parent k s.old_parent s.old_child s.new_parent s.new_child t))
      (set-at HasLooked HasLooked-refl mid j s.old_child s.new_child at_child (looked-child k s.old_parent s.old_child s.new_parent s.new_child t)))

  -- the edge of an input is there to be settled
  pub tied_edge : (j k p : ℕ) (e : InEdge) (cells : List (CellParts N)) → IsJoined cells → in_of cells j k ≡ Some e → p ≡ e.from → HasEdge j k p cells
  tied_edge j k p e cells w at from =
      let t : IsTied cells j k e = w.ins j k e at in
      record {
        edge = e;
        out = t.out;
        at_in = at;
        from = sym from;
        at_out = subst (λ (n : ℕ). out_of cells n e.out ≡ Some t.out) (sym from) t.at;
        before = subst (λ (n : ℕ). n < j) (sym from) t.before;
        pair = t.edge.pair;
      }

  -- ---- one edge more is settled

  module _ (j k p : ℕ) (e : InEdge) (cells cells' : List (CellParts N)) (w : IsJoined cells) (at : in_of cells j k ≡ Some e) (from : e.from ≡ p) (s : SettlesIn j k p cells cells') where
    ends : SettledEnds Still Eases j k p s.settles.edge.out cells cells'
    ends = settle-ends j k p s.settles.edge.out cells cells' s refl

    the-edge : e ≡ s.settles.edge
    the-edge = found-same (in_of cells j k) e s.settles.edge at (in-at cells j k s.old_child s.at_child ∙ s.settles.at_child)

    out-same : (x : OutEdge) → out_of cells e.from e.out ≡ Some x → x ≡ ends.ends.x
    out-same x is =
        let u : Ends Still Eases j k p s.settles.edge.out cells cells' = ends.ends in
        let here : out_of cells p s.settles.edge.out ≡ Some x = subst (λ (n : ℕ). out_of cells n s.settles.edge.out ≡ Some x) from (subst (λ (y : InEdge). out_of cells e.from y.out ≡ Some x) the-edge is) in
        found-same (out_of cells p s.settles.edge.out) x u.x here u.at_out

    settled-here : IsSettledAt cells' j k
    settled-here = λ y o at_y at_o.
        let u : Ends Still Eases j k p s.settles.edge.out cells cells' = ends.ends in
        let i : Still u.e u.e' = u.in' in
        let was : u.e ≡ e = found-same (in_of cells j k) u.e e u.at_in at in
        let is : u.e' ≡ y = found-same (in_of cells' j k) u.e' y u.at_in' at_y in
        let from' : u.e'.from ≡ p = i.from ∙ ap (λ (q : InEdge). q.from) was ∙ from in
        let out' : u.e'.out ≡ s.settles.edge.out = i.out ∙ ap (λ (q : InEdge). q.out) (was ∙ the-edge) in
        let at_o' : out_of cells' u.e'.from u.e'.out ≡ Some o = subst (λ (q : InEdge). out_of cells' q.from q.out ≡ Some o) (sym is) at_o in
        let here : out_of cells' p s.settles.edge.out ≡ Some o = subst (λ (n : ℕ). out_of cells' n s.settles.edge.out ≡ Some o) from' (subst (λ (n : ℕ). out_of cells' u.e'.from n ≡ Some o) out' at_o') in
        let o_is : u.x' ≡ o = found-same (out_of cells' p s.settles.edge.out) u.x' o u.at_out' here in
        let settled : IsSettled u.x'.tail u.e'.head = ends.settled in
        subst (λ (q : OutEdge). IsSettled q.tail y.head) o_is (subst (λ (q : InEdge). IsSettled u.x'.tail q.head) is settled)

    settled-other : (n m : ℕ) → (n ≡ j → m ≡ k → ⊥) → IsSettledAt cells n m → IsSettledAt cells' n m
    settled-other n m ne was = λ y o at_y at_o.
        let u : Ends Still Eases j k p s.settles.edge.out cells cells' = ends.ends in
        let at_y' : in_of cells n m ≡ Some y = sym (u.changes.ins n m ne) ∙ at_y in
        let t : IsTied cells n m y = w.ins n m y at_y' in
        let mine : IsTied cells j k e = w.ins j k e at in
        let apart : y.from ≡ p → y.out ≡ s.settles.edge.out → ⊥ = λ a b.
        let here : out_of cells p s.settles.edge.out ≡ Some t.out = subst (λ (q : ℕ). out_of cells q s.settles.edge.out ≡ Some t.out) a (subst (λ (q : ℕ). out_of cells y.from q ≡ Some t.out) b t.at) in
        let one : t.out ≡ u.x = found-same (out_of cells p s.settles.edge.out) t.out u.x here u.at_out in
        let two : mine.out ≡ u.x = out-same mine.out mine.at in
        let both : t.out ≡ mine.out = one ∙ sym two in
        ne (sym t.child ∙ ap (λ (q : OutEdge). q.child) both ∙ mine.child) (sym t.input ∙ ap (λ (q : OutEdge). q.input) both ∙ mine.input) in
        let x : Other (Calm t.out) (out_of cells' y.from y.out) = both-right Calm (out_of cells y.from y.out) (out_of cells' y.from y.out) t.out (u.changes.outs y.from y.out apart) t.at in
        let c : Calm t.out x.value = x.fact in
        let is : x.value ≡ o = found-same (out_of cells' y.from y.out) x.value o x.is at_o in
        subst (λ (q : OutEdge). IsSettled q.tail y.head) is (IsSettled-looked (was y t.out at_y' t.at) c.tail refl refl)

    -- the inputs of the cell before this one were settled, and this one is
    pub settled_one : AreSettledTo cells j k → AreSettledTo cells' j (k + 1)
    settled_one a = record {
      cells_before = λ n m lt. settled-other n m (λ e _. absurd (omega (arith, lt, e))) (a.cells_before n m lt);
      inputs_before = λ m lt. ⊎_elim
          (λ e. subst (λ (q : ℕ). IsSettledAt cells' j q) (sym e) settled-here)
          (λ ne. settled-other j m (λ _ e. ne e) (a.inputs_before m (below m k lt ne)))
          (same_place m k);
    }

  -- cells that looked have as many inputs
  pub looked_inputs : (child count : ℕ) (cells cells' : List (CellParts N)) → AllZip HasLooked cells cells' → HasInputs child count cells → HasInputs child count cells'
  looked_inputs child count cells cells' z h =
      let o : Other (HasLooked h.cell) (slice_get cells' child) = both-right HasLooked (slice_get cells child) (slice_get cells' child) h.cell (zip-both HasLooked cells cells' child z) h.at in
      let l : HasLooked h.cell o.value = o.fact in
      record { cell = o.value; at = o.is; inputs = h.inputs ∙ sym (zip-length Still h.cell.ins.items o.value.ins.items l.ins) }

  -- an input below that number is there
  pub input_there : (child count input : ℕ) (cells : List (CellParts N)) → HasInputs child count cells → input < count → HasInput child input cells
  input_there child count input cells h lt =
      let r : Found h.cell.ins.items input = find h.cell.ins.items input (omega (arith, h.inputs, lt)) in
      record { edge = r.edge; at = in-at cells child input h.cell h.at ∙ r.at }
    where
      find : (es : List InEdge) (m : ℕ) → m < length es → Found es m
      find [] m lt = absurd (omega (arith, lt))
      find (x ∷ es) zero lt = record { edge = x; at = refl }
      find (x ∷ es) (suc m) lt = let r = find es m (omega (arith, lt)) in record { edge = r.edge; at = r.at }

  -- cells that look at nothing are as they were
  pub looked_none : (cells : List (CellParts N)) → AllZip HasLooked cells cells
  looked_none cells = zip-refl HasLooked HasLooked-refl cells

  -- and looks, one after the other, are looks
  pub looked_more : (a b c : List (CellParts N)) → AllZip HasLooked a b → AllZip HasLooked b c → AllZip HasLooked a c
  looked_more a b c p q = zip-trans HasLooked HasLooked-trans a b c p q

  -- as many cells
  pub looked_length : (cells cells' : List (CellParts N)) → AllZip HasLooked cells cells' → length cells' ≡ length cells
  looked_length cells cells' z = zip-length HasLooked cells cells' z

  -- no edge is before the first cell
  pub settled_none : (cells : List (CellParts N)) → AreSettledTo cells 0 0
  settled_none cells = record { cells_before = λ n m lt. absurd (omega (arith, lt)); inputs_before = λ m lt. absurd (omega (arith, lt)) }

  -- all inputs of a cell are settled
  pub settled_cell : (j count : ℕ) (cells : List (CellParts N)) → HasInputs j count cells → AreSettledTo cells j count → AreSettledTo cells (j + 1) 0
  settled_cell j count cells h a = record {
    cells_before = λ n m lt. ⊎_elim
        (λ e y o at_y at_o.
        let here : in_of cells j m ≡ Some y = subst (λ (q : ℕ). in_of cells q m ≡ Some y) e at_y in
        let in_c : slice_get h.cell.ins.items m ≡ Some y = sym (in-at cells j m h.cell h.at) ∙ here in
        let within : m < length h.cell.ins.items = in-list h.cell.ins.items m y in_c in
        a.inputs_before m (omega (arith, within, h.inputs)) y o here at_o)
        (λ ne. a.cells_before n m (below n j lt ne))
        (same_place n j);
    inputs_before = λ m lt. absurd (omega (arith, lt));
  }
    where
      in-list : (es : List InEdge) (m : ℕ) (y : InEdge) → slice_get es m ≡ Some y → m < length es
      in-list [] m y e = absurd cc
      in-list (x ∷ es) zero y e = omega arith
      in-list (x ∷ es) (suc m) y e = let h : m < length es = in-list es m y e in omega (arith, h)

  -- joined cells whose edges are all settled are wired
  pub settled_wired : (n : ℕ) (cells : List (CellParts N)) → length cells ≤ n → IsJoined cells → AreSettledTo cells n 0 → IsWired cells
  settled_wired n cells all w a = record {
    ins = λ j k e at.
        let t : IsTied cells j k e = w.ins j k e at in
        let lt : j < length cells = in-within cells j k e at in
        record {
          out = t.out;
          at = t.at;
          before = t.before;
          edge = t.edge;
          settled = a.cells_before j k (omega (arith, lt, all)) e t.out at t.at;
          child = t.child;
          input = t.input;
          some = t.some;
        };
    outs = w.outs;
    even = w.even;
  }

  -- and wired cells are joined
  wired-joined : (cells : List (CellParts N)) → IsWired cells → IsJoined cells
  wired-joined cells w = record {
    ins = λ j k e at.
        let f : IsFed cells j k e = w.ins j k e at in
        record { out = f.out; at = f.at; before = f.before; edge = f.edge; child = f.child; input = f.input; some = f.some };
    outs = w.outs;
    even = w.even;
  }

  -- where no call on a cell failed, none did where cells looked
  pub looked_unspent : (cells cells' : List (CellParts N)) → AllZip HasLooked cells cells' → Each IsUnspent cells → Each IsUnspent cells'
  looked_unspent [] [] z e = tt
  looked_unspent [] (d ∷ ds) z e = absurd z
  looked_unspent (c ∷ cs) [] z e = absurd z
  looked_unspent (c ∷ cs) (d ∷ ds) z e = (z.0.spent ∙ e.0, looked_unspent cs ds z.1 e.1)

  -- as much was gathered from cells that looked
  pub looked_gathered : (cells cells' : List (CellParts N)) → AllZip HasLooked cells cells' → gathered_of cells' ≡ gathered_of cells
  looked_gathered cells cells' z = zip-map (λ (x : CellParts N). gathered x.core.gathered) HasLooked (λ c d h. ap gathered h.gathered) cells cells' z

  -- and from cells that moved
  pub moved_gathered : (cells cells' : List (CellParts N)) → AllZip HasMoved cells cells' → gathered_of cells' ≡ gathered_of cells
  moved_gathered cells cells' z = zip-map (λ (x : CellParts N). gathered x.core.gathered) HasMoved (λ c d h. ap gathered h.gathered) cells cells' z

module _ {N P S : Type 0} (g : Ghosts N P S) where
  -- cells that looked have the plans that they had
  pub looked_plans : (cells cells' : List (CellParts N)) → AllZip HasLooked cells cells' → plans_of g cells' ≡ plans_of g cells
  looked_plans cells cells' z = zip-map (plan_of g) HasLooked (λ c d h. rw (h.base, h.source, froms-looked c d h, befores-still c.ins.items d.ins.items h.ins) refl) cells cells' z

  -- and the nodes
  pub looked_specs : (cells cells' : List (CellParts N)) → AllZip HasLooked cells cells' → specs_of g cells' ≡ specs_of g cells
  looked_specs cells cells' z = zip-map (λ (x : CellParts N). g.spec x.core.node) HasLooked (λ c d h. ap g.spec h.node) cells cells' z

  -- cells that moved have the plans that they had
  pub moved_plans : (cells cells' : List (CellParts N)) → AllZip HasMoved cells cells' → plans_of g cells' ≡ plans_of g cells
  moved_plans cells cells' z = zip-map (plan_of g) HasMoved (λ c d h. rw (h.base, h.source, froms-moved c d h, befores-came c.ins.items d.ins.items h.ins) refl) cells cells' z

  -- the nodes of cells that moved, and then looked, are what they were
  pub back_specs : (before old new : List (CellParts N)) → Each (Keeps g) before → Each (Keeps g) new → AllZip HasMoved before old → AllZip HasLooked old new → specs_of g new ≡ specs_of g before
  back_specs [] [] [] was keeps m z = refl
  back_specs [] [] (e ∷ es) was keeps m z = absurd z
  back_specs [] (d ∷ ds) new was keeps m z = absurd m
  back_specs (c ∷ cs) [] new was keeps m z = absurd m
  back_specs (c ∷ cs) (d ∷ ds) [] was keeps m z = absurd z
  back_specs (c ∷ cs) (d ∷ ds) (e ∷ es) was keeps m z =
      ap (λ (p : P). p ∷ specs_of g es) (keeps.0.at.spec ∙ ap (λ b. g.spec b.value.node) (z.0.base ∙ m.0.base) ∙ sym was.0.at.spec)
      ∙ ap (λ (ps : List P). g.spec c.core.node ∷ ps) (back_specs cs ds es was.1 keeps.1 m.1 z.1)

  -- the cells of a life that moved by themselves are still those of its graph
  pub moved_loose : (cells cells' : List (CellParts N)) → IsLife g cells → AllZip HasMoved cells cells' → IsLoose g cells'
  moved_loose cells cells' life z = record {
    joined = same-joined cells cells' (wired-joined cells life.ready.wired) (moved-ends cells cells' z);
    loaded = subst IsLoaded (sym (moved_plans cells cells' z)) life.loaded;
  }

  -- cells that were loose, and are wired, are a life
  pub wired_life : (cells cells' : List (CellParts N)) → IsLoose g cells → AllZip HasLooked cells cells' → Each (Keeps g) cells' → Each IsUnspent cells' → IsWired cells' → IsLife g cells'
  wired_life cells cells' loose z keeps unspent wired = record {
    ready = record { keeps = keeps; unspent = unspent; wired = wired };
    loaded = subst IsLoaded (sym (looked_plans cells cells' z)) loose.loaded;
  }
