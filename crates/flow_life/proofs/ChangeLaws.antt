-- Whatever one move does to the two ends of one edge, the edges of a net stay wired.
use Rattle.std.proofs.Common.{◌≡◌, ℕ, suc, ◌<◌, List, Some, refl, sym, ap, subst, ◌∙◌, ⊎_elim, arith}
use Rattle.edge_queue.specs.declared.ends.Tail.{Tail}
use Rattle.edge_queue.specs.Edges.{IsEdge, IsSettled, edge_capacity}
use Rattle.edge_queue.specs.Moves.{SameHead, SameTail, TailLooked}
use Rattle.edge_queue.proofs.EdgeLaws.{IsEdge-same, IsSettled-looked, SameHead-refl, SameTail-capacity, TailLooked-refl, TailLooked-trans}
use Rattle.flow_cells.specs.declared.parts.OutEdge.{OutEdge}
use Rattle.flow_cells.specs.declared.parts.InEdge.{InEdge}
use Rattle.flow_cells.specs.declared.parts.CellParts.{CellParts}
use Rattle.flow_cells.specs.Handled.{Waits}
use Rattle.flow_cells.specs.Moves.{Eases}
use Rattle.flow_life.specs.Places.{Both, in_of, out_of}
use Rattle.flow_life.proofs.PlaceLaws.{Other, both-left, both-right, both-trans, found-same, same_places}
use Rattle.flow_life.specs.Wired.{Feeds, IsFed, IsWired, outs_of, parents_of, sum_by_out, sum_of_all}

-- an out on whose edge nothing was put; what waits there may change
pub record Calm (a b : OutEdge) : Type 0 where
  pub tail : TailLooked a.tail b.tail
  pub child : b.child ≡ a.child
  pub input : b.input ≡ a.input

pub Calm-refl : (a : OutEdge) → Calm a a
Calm-refl a = record { tail = TailLooked-refl a.tail; child = refl; input = refl }

pub Calm-trans : (a b c : OutEdge) → Calm a b → Calm b c → Calm a c
Calm-trans a b c p q = record { tail = TailLooked-trans p.tail q.tail; child = q.child ∙ p.child; input = q.input ∙ p.input }

pub waits_calm : (a b : OutEdge) → Waits a b → Calm a b
waits_calm a b w = record { tail = subst (λ (t : Tail). TailLooked a.tail t) (sym w.tail) (TailLooked-refl a.tail); child = w.child; input = w.input }

pub eases_calm : (a b : OutEdge) → Eases a b → Calm a b
eases_calm a b e = record { tail = e.tail; child = e.child; input = e.input }

-- an input, and an out, of the same edge
pub record SameIn (a b : InEdge) : Type 0 where
  pub head : SameHead a.head b.head
  pub from : b.from ≡ a.from
  pub out : b.out ≡ a.out

pub record SameOut (a b : OutEdge) : Type 0 where
  pub tail : SameTail a.tail b.tail
  pub child : b.child ≡ a.child
  pub input : b.input ≡ a.input

module _ {N : Type 0} where
  -- but for the input k of the cell j and the out i of the cell p nothing was sent or received
  pub record Changes (j k p i : ℕ) (cells cells' : List (CellParts N)) : Type 0 where
    pub ins : (n m : ℕ) → (n ≡ j → m ≡ k → ⊥) → in_of cells' n m ≡ in_of cells n m
    pub outs : (n m : ℕ) → (n ≡ p → m ≡ i → ⊥) → Both Calm (out_of cells n m) (out_of cells' n m)
    pub parents : parents_of cells' ≡ parents_of cells
    pub counts : outs_of cells' ≡ outs_of cells

  pub Changes-trans : (j k p i : ℕ) (a b c : List (CellParts N)) → Changes j k p i a b → Changes j k p i b c → Changes j k p i a c
  Changes-trans j k p i a b c x y = record {
    ins = λ n m ne. y.ins n m ne ∙ x.ins n m ne;
    outs = λ n m ne. both-trans Calm Calm-trans (out_of a n m) (out_of b n m) (out_of c n m) (x.outs n m ne) (y.outs n m ne);
    parents = y.parents ∙ x.parents;
    counts = y.counts ∙ x.counts;
  }

  -- the two ends of one edge before and behind moves
  pub record Ends (P : InEdge → InEdge → Type 0) (Q : OutEdge → OutEdge → Type 0) (j k p i : ℕ) (cells cells' : List (CellParts N)) : Type 0 where
    pub changes : Changes j k p i cells cells'
    pub e : InEdge
    pub e' : InEdge
    pub x : OutEdge
    pub x' : OutEdge
    pub at_in : in_of cells j k ≡ Some e
    pub at_in' : in_of cells' j k ≡ Some e'
    pub at_out : out_of cells p i ≡ Some x
    pub at_out' : out_of cells' p i ≡ Some x'
    pub in' : P e e'
    pub out' : Q x x'

-- the same, where both ends know in the end what is on the edge
pub record SettledEnds {N : Type 0} (P : InEdge → InEdge → Type 0) (Q : OutEdge → OutEdge → Type 0) (j k p i : ℕ) (cells cells' : List (CellParts N)) : Type 0 where
  pub ends : Ends P Q j k p i cells cells'
  pub settled : IsSettled ends.x'.tail ends.e'.head

-- one relation and then another
pub record Then {A : Type 0} (R Q : A → A → Type 0) (a c : A) : Type 0 where
  pub mid : A
  pub first : R a mid
  pub later : Q mid c

module _ {N : Type 0} where
  -- a move of one edge, and then it is settled
  pub then-settled : (P P' : InEdge → InEdge → Type 0) (Q Q' : OutEdge → OutEdge → Type 0) (j k p i : ℕ) (a b c : List (CellParts N)) → Ends P Q j k p i a b → SettledEnds P' Q' j k p i b c → SettledEnds (Then P P') (Then Q Q') j k p i a c
  then-settled P P' Q Q' j k p i a b c u s =
      let v : Ends P' Q' j k p i b c = s.ends in
      let e : v.e ≡ u.e' = found-same (in_of b j k) v.e u.e' v.at_in u.at_in' in
      let x : v.x ≡ u.x' = found-same (out_of b p i) v.x u.x' v.at_out u.at_out' in
      record {
        ends = record {
          changes = Changes-trans j k p i a b c u.changes v.changes;
          e = u.e;
          e' = v.e';
          x = u.x;
          x' = v.x';
          at_in = u.at_in;
          at_in' = v.at_in';
          at_out = u.at_out;
          at_out' = v.at_out';
          in' = record { mid = u.e'; first = u.in'; later = subst (λ (y : InEdge). P' y v.e') e v.in' };
          out' = record { mid = u.x'; first = u.out'; later = subst (λ (y : OutEdge). Q' y v.x') x v.out' };
        };
        settled = s.settled;
      }

  -- weaker relations of the ends
  pub settled-map : (P P' : InEdge → InEdge → Type 0) (Q Q' : OutEdge → OutEdge → Type 0) → ((a b : InEdge) → P a b → P' a b) → ((a b : OutEdge) → Q a b → Q' a b) → (j k p i : ℕ) (cells cells' : List (CellParts N)) → SettledEnds P Q j k p i cells cells' → SettledEnds P' Q' j k p i cells cells'
  settled-map P P' Q Q' f h j k p i cells cells' s =
      let u : Ends P Q j k p i cells cells' = s.ends in
      record {
        ends = record { changes = u.changes; e = u.e; e' = u.e'; x = u.x; x' = u.x'; at_in = u.at_in; at_in' = u.at_in'; at_out = u.at_out; at_out' = u.at_out'; in' = f u.e u.e' u.in'; out' = h u.x u.x' u.out' };
        settled = s.settled;
      }

  fed-other : (cells cells' : List (CellParts N)) (j k p i : ℕ) → Changes j k p i cells cells' → (n m : ℕ) (y : InEdge) → (f : IsFed cells n m y) → (y.from ≡ p → y.out ≡ i → ⊥) → IsFed cells' n m y
  fed-other cells cells' j k p i ch n m y f ne =
      let o : Other (Calm f.out) (out_of cells' y.from y.out) = both-right Calm (out_of cells y.from y.out) (out_of cells' y.from y.out) f.out (ch.outs y.from y.out ne) f.at in
      let c : Calm f.out o.value = o.fact in
      record {
        out = o.value;
        at = o.is;
        before = f.before;
        edge = IsEdge-same f.edge c.tail.same (SameHead-refl y.head);
        settled = IsSettled-looked f.settled c.tail refl refl;
        child = c.child ∙ f.child;
        input = c.input ∙ f.input;
        some = subst (λ (n : ℕ). 0 < n) (sym (SameTail-capacity c.tail.same)) f.some;
      }

  -- what the edge of an input shows of the out where the input comes from
  fed-out : (cells : List (CellParts N)) (j k p i : ℕ) (e : InEdge) (x : OutEdge) → (f : IsFed cells j k e) → e.from ≡ p → e.out ≡ i → out_of cells p i ≡ Some x → f.out ≡ x
  fed-out cells j k p i e x f from out at =
      found-same (out_of cells p i) f.out x (subst (λ (n : ℕ). out_of cells n i ≡ Some f.out) from (subst (λ (n : ℕ). out_of cells e.from n ≡ Some f.out) out f.at)) at

  -- the edges stay wired, where the two ends of one stay its own and it is settled again
  pub wired-changes : (j k p i : ℕ) (cells cells' : List (CellParts N)) → IsWired cells → (s : SettledEnds SameIn SameOut j k p i cells cells') → s.ends.e.from ≡ p → s.ends.e.out ≡ i → IsWired cells'
  wired-changes j k p i cells cells' w s from out =
      let u : Ends SameIn SameOut j k p i cells cells' = s.ends in
      let f : IsFed cells j k u.e = w.ins j k u.e u.at_in in
      let f_out : f.out ≡ u.x = fed-out cells j k p i u.e u.x f from out u.at_out in
      let child : u.x.child ≡ j = sym (ap (λ (o : OutEdge). o.child) f_out) ∙ f.child in
      let input : u.x.input ≡ k = sym (ap (λ (o : OutEdge). o.input) f_out) ∙ f.input in
      let s_in : SameIn u.e u.e' = u.in' in
      let s_out : SameOut u.x u.x' = u.out' in
      let edge : IsEdge u.x.tail u.e.head = subst (λ (o : OutEdge). IsEdge o.tail u.e.head) f_out f.edge in
      let some : 0 < edge_capacity u.x.tail = subst (λ (o : OutEdge). 0 < edge_capacity o.tail) f_out f.some in
      let fed : IsFed cells' j k u.e' = record {
        out = u.x';
        at = subst (λ (n : ℕ). out_of cells' n u.e'.out ≡ Some u.x') (sym (s_in.from ∙ from)) (subst (λ (n : ℕ). out_of cells' p n ≡ Some u.x') (sym (s_in.out ∙ out)) u.at_out');
        before = subst (λ (n : ℕ). n < j) (sym s_in.from) f.before;
        edge = IsEdge-same edge s_out.tail s_in.head;
        settled = s.settled;
        child = s_out.child ∙ child;
        input = s_out.input ∙ input;
        some = subst (λ (n : ℕ). 0 < n) (sym (SameTail-capacity s_out.tail)) some;
      } in
      record {
        ins = λ n m y at. ⊎_elim
            (λ h.
            let at' : in_of cells' j k ≡ Some y = subst (λ (q : ℕ). in_of cells' q k ≡ Some y) h.0 (subst (λ (q : ℕ). in_of cells' n q ≡ Some y) h.1 at) in
            let is : u.e' ≡ y = found-same (in_of cells' j k) u.e' y u.at_in' at' in
            subst (λ (q : ℕ). IsFed cells' q m y) (sym h.0) (subst (λ (q : ℕ). IsFed cells' j q y) (sym h.1) (subst (IsFed cells' j k) is fed)))
            (λ ne.
            let old : in_of cells n m ≡ Some y = sym (u.changes.ins n m ne) ∙ at in
            let g : IsFed cells n m y = w.ins n m y old in
            fed-other cells cells' j k p i u.changes n m y g (λ a b.
            let is : g.out ≡ u.x = fed-out cells n m p i y u.x g a b u.at_out in
            ne (sym g.child ∙ ap (λ (o : OutEdge). o.child) is ∙ child) (sym g.input ∙ ap (λ (o : OutEdge). o.input) is ∙ input)))
            (same_places n j m k);
        outs = λ n m y at. ⊎_elim
            (λ h.
            let at' : out_of cells' p i ≡ Some y = subst (λ (q : ℕ). out_of cells' q i ≡ Some y) h.0 (subst (λ (q : ℕ). out_of cells' n q ≡ Some y) h.1 at) in
            let is : u.x' ≡ y = found-same (out_of cells' p i) u.x' y u.at_out' at' in
            let here : Feeds cells' p i u.x' = record {
              edge = u.e';
              at = subst (λ (q : ℕ). in_of cells' q u.x'.input ≡ Some u.e') (sym (s_out.child ∙ child)) (subst (λ (q : ℕ). in_of cells' j q ≡ Some u.e') (sym (s_out.input ∙ input)) u.at_in');
              from = s_in.from ∙ from;
              out = s_in.out ∙ out;
            } in
            subst (λ (q : ℕ). Feeds cells' q m y) (sym h.0) (subst (λ (q : ℕ). Feeds cells' p q y) (sym h.1) (subst (Feeds cells' p i) is here)))
            (λ ne.
            let o : Other (λ z. Calm z y) (out_of cells n m) = both-left Calm (out_of cells n m) (out_of cells' n m) y (u.changes.outs n m ne) at in
            let c : Calm o.value y = o.fact in
            let h : Feeds cells n m o.value = w.outs n m o.value o.is in
            let same : in_of cells' o.value.child o.value.input ≡ in_of cells o.value.child o.value.input = u.changes.ins o.value.child o.value.input (λ a b.
            let here : in_of cells j k ≡ Some h.edge = subst (λ (q : ℕ). in_of cells q k ≡ Some h.edge) a (subst (λ (q : ℕ). in_of cells o.value.child q ≡ Some h.edge) b h.at) in
            let is : h.edge ≡ u.e = found-same (in_of cells j k) h.edge u.e here u.at_in in
            ne (sym h.from ∙ ap (λ (q : InEdge). q.from) is ∙ from) (sym h.out ∙ ap (λ (q : InEdge). q.out) is ∙ out)) in
            record {
              edge = h.edge;
              at = subst (λ (q : ℕ). in_of cells' q y.input ≡ Some h.edge) (sym c.child) (subst (λ (q : ℕ). in_of cells' o.value.child q ≡ Some h.edge) (sym c.input) (same ∙ h.at));
              from = h.from;
              out = h.out;
            })
            (same_places n p m i);
        even = λ f. ap (sum_of_all f) u.changes.parents ∙ w.even f ∙ sym (ap (sum_by_out f 0) u.changes.counts);
      }

  -- the edges stay wired, where tails alone looked
  pub wired-calm : (cells cells' : List (CellParts N)) → IsWired cells → ((n m : ℕ) → in_of cells' n m ≡ in_of cells n m) → ((n m : ℕ) → Both Calm (out_of cells n m) (out_of cells' n m)) → parents_of cells' ≡ parents_of cells → outs_of cells' ≡ outs_of cells → IsWired cells'
  wired-calm cells cells' w ins outs parents counts = record {
    ins = λ n m y at.
        let f : IsFed cells n m y = w.ins n m y (sym (ins n m) ∙ at) in
        fed-other cells cells' 0 0 (suc y.from) 0 (record { ins = λ a b _. ins a b; outs = λ a b _. outs a b; parents = parents; counts = counts }) n m y f (λ a _. absurd (omega (arith, a)));
    outs = λ n m y at.
        let o : Other (λ z. Calm z y) (out_of cells n m) = both-left Calm (out_of cells n m) (out_of cells' n m) y (outs n m) at in
        let c : Calm o.value y = o.fact in
        let h : Feeds cells n m o.value = w.outs n m o.value o.is in
        record {
          edge = h.edge;
          at = subst (λ (q : ℕ). in_of cells' q y.input ≡ Some h.edge) (sym c.child) (subst (λ (q : ℕ). in_of cells' o.value.child q ≡ Some h.edge) (sym c.input) (ins o.value.child o.value.input ∙ h.at));
          from = h.from;
          out = h.out;
        };
    even = λ f. ap (sum_of_all f) parents ∙ w.even f ∙ sym (ap (sum_by_out f 0) counts);
  }
