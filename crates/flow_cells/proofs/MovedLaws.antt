-- Each move of a cell is one that leaves the same cell, and so are moves one after the other.
use Rattle.std.proofs.Common.{◌≡◌, ℕ, List, ◌∷◌, [], ◌++◌, Bool, true, false, Result, Ok, set, Some, refl, sym, ap, subst, ◌∙◌, append-nil, append_assoc}
use Rattle.std.specs.Prelude.{IsFalse, IsTrue, slice_get}
use Rattle.std.specs.List.{AllZip}
use mathlib.Core.List.{IsPrefix}
use Rattle.kap_base.specs.declared.items.Msg.{Msg}
use Rattle.edge_queue.specs.Edges.{received, ring_received, ring_sent, sent}
use Rattle.edge_queue.specs.Moves.{SameTail}
use Rattle.edge_queue.proofs.EdgeLaws.{SameHead-refl, SameHead-trans, SameTail-refl, SameTail-trans}
use Rattle.flow_cells.specs.declared.parts.OutEdge.{OutEdge}
use Rattle.flow_cells.specs.declared.parts.InEdge.{InEdge}
use Rattle.flow_cells.specs.declared.parts.CellParts.{CellParts}
use Rattle.flow_cells.specs.Handled.{Waits}
use Rattle.flow_cells.specs.Moved.{Came, HasMoved, Went}
use Rattle.flow_cells.specs.Moves.{Eases, PutsNone, PutsOne, Still, TakesAt, TakesNone, TakesOne}
use Rattle.flow_cells.proofs.OutLaws.{get-within, zip-refl, zip-set, zip-trans, zip-weaker}
use Rattle.flow_cells.specs.Outs.{SendsOn}
use Rattle.flow_cells.proofs.SettleLaws.{got}

prefix-same : (xs ys : List Msg) → ys ≡ xs → IsPrefix xs ys
prefix-same xs ys e = ([], append-nil xs ∙ sym e)

prefix-one : (xs ys : List Msg) (m : Msg) → ys ≡ xs ++ m ∷ [] → IsPrefix xs ys
prefix-one xs ys m e = (m ∷ [], sym e)

-- what begins a beginning begins the whole
pub prefix-trans : (xs ys zs : List Msg) → IsPrefix xs ys → IsPrefix ys zs → IsPrefix xs zs
prefix-trans xs ys zs p q = (p.0 ++ q.0, sym (append_assoc xs p.0 q.0) ∙ ap (λ (l : List Msg). l ++ q.0) p.1 ∙ q.1)

-- ---- ends

Came-refl : (a : InEdge) → Came a a
Came-refl a = record {
  head = SameHead-refl a.head;
  ring_received = prefix-same (ring_received a.head) (ring_received a.head) refl;
  received = prefix-same (received a.head) (received a.head) refl;
  from = refl;
  out = refl;
}

Came-trans : (a b c : InEdge) → Came a b → Came b c → Came a c
Came-trans a b c p q = record {
  head = SameHead-trans p.head q.head;
  ring_received = prefix-trans (ring_received a.head) (ring_received b.head) (ring_received c.head) p.ring_received q.ring_received;
  received = prefix-trans (received a.head) (received b.head) (received c.head) p.received q.received;
  from = q.from ∙ p.from;
  out = q.out ∙ p.out;
}

Went-refl : (a : OutEdge) → Went a a
Went-refl a = record {
  tail = SameTail-refl a.tail;
  ring_sent = prefix-same (ring_sent a.tail) (ring_sent a.tail) refl;
  sent = prefix-same (sent a.tail) (sent a.tail) refl;
  child = refl;
  input = refl;
}

Went-trans : (a b c : OutEdge) → Went a b → Went b c → Went a c
Went-trans a b c p q = record {
  tail = SameTail-trans p.tail q.tail;
  ring_sent = prefix-trans (ring_sent a.tail) (ring_sent b.tail) (ring_sent c.tail) p.ring_sent q.ring_sent;
  sent = prefix-trans (sent a.tail) (sent b.tail) (sent c.tail) p.sent q.sent;
  child = q.child ∙ p.child;
  input = q.input ∙ p.input;
}

still-came : (a b : InEdge) → Still a b → Came a b
still-came a b s = record {
  head = s.head.same;
  ring_received = prefix-same (ring_received a.head) (ring_received b.head) s.head.ring_received;
  received = prefix-same (received a.head) (received b.head) s.head.received;
  from = s.from;
  out = s.out;
}

taken-came : (m : Msg) (a b : InEdge) → TakesAt m a b → Came a b
taken-came m a b t = record {
  head = t.head.same;
  ring_received = prefix-one (ring_received a.head) (ring_received b.head) m t.head.ring_received;
  received = prefix-one (received a.head) (received b.head) m t.head.received;
  from = t.from;
  out = t.out;
}

waits-went : (a b : OutEdge) → Waits a b → Went a b
waits-went a b w = record {
  tail = subst (λ t. SameTail a.tail t) (sym w.tail) (SameTail-refl a.tail);
  ring_sent = prefix-same (ring_sent a.tail) (ring_sent b.tail) (ap (λ t. ring_sent t) w.tail);
  sent = prefix-same (sent a.tail) (sent b.tail) (ap (λ t. sent t) w.tail);
  child = w.child;
  input = w.input;
}

eases-went : (a b : OutEdge) → Eases a b → Went a b
eases-went a b e = record {
  tail = e.tail.same;
  ring_sent = prefix-same (ring_sent a.tail) (ring_sent b.tail) e.tail.ring_sent;
  sent = prefix-same (sent a.tail) (sent b.tail) e.tail.sent;
  child = e.child;
  input = e.input;
}

sends-went : (a b : OutEdge) → SendsOn a b → Went a b
sends-went a b s = record {
  tail = s.put.same;
  ring_sent = prefix-one (ring_sent a.tail) (ring_sent b.tail) s.msg s.put.ring_sent;
  sent = prefix-one (sent a.tail) (sent b.tail) s.msg s.put.sent;
  child = s.child;
  input = s.input;
}

-- one place of a list changes
pub set-at : {A : Type 0} (R : A → A → Type 0) → ((x : A) → R x x) → (xs : List A) (i : ℕ) (x y : A) → slice_get xs i ≡ Some x → R x y → AllZip R xs (set xs i y)
set-at R r xs i x y at h = zip-set R r xs i y x (get-within xs i x at) (subst (λ z. R z y) (sym (got xs i x x at)) h)

module _ {N : Type 0} where
  -- no move leaves the same cell
  pub HasMoved-refl : (c : CellParts N) → HasMoved c c
  HasMoved-refl c = record {
    ins = zip-refl Came Came-refl c.ins.items;
    outs = zip-refl Went Went-refl c.core.outs.items;
    gathered = refl;
    base = refl;
    source = refl;
    spent = refl;
  }

  -- and so do moves, and then more
  pub HasMoved-trans : (c d e : CellParts N) → HasMoved c d → HasMoved d e → HasMoved c e
  HasMoved-trans c d e p q = record {
    ins = zip-trans Came Came-trans c.ins.items d.ins.items e.ins.items p.ins q.ins;
    outs = zip-trans Went Went-trans c.core.outs.items d.core.outs.items e.core.outs.items p.outs q.outs;
    gathered = q.gathered ∙ p.gathered;
    base = q.base ∙ p.base;
    source = q.source ∙ p.source;
    spent = q.spent ∙ p.spent;
  }

  -- a take that was made moves
  pub took-moved : (k : ℕ) (c d : CellParts N) → TakesOne k c d → HasMoved c d
  took-moved k c d t = record {
    ins = subst (AllZip Came c.ins.items) (sym t.ins) (set-at Came Came-refl c.ins.items k t.old t.new t.at (taken-came t.msg t.old t.new t.takes));
    outs = zip-weaker Waits Went waits-went c.core.outs.items d.core.outs.items t.outs;
    gathered = t.gathered;
    base = t.base;
    source = t.source;
    spent = t.spent;
  }

  none-moved : (k : ℕ) (c d : CellParts N) → TakesNone k c d → HasMoved c d
  none-moved k c d t = record {
    ins = zip-weaker Still Came still-came c.ins.items d.ins.items t.ins;
    outs = subst (λ core. AllZip Went c.core.outs.items core.outs.items) (sym t.core) (zip-refl Went Went-refl c.core.outs.items);
    gathered = ap (λ core. core.gathered) t.core;
    base = t.base;
    source = t.source;
    spent = t.spent;
  }

  -- a take moves
  pub take_moved : {E : Type 0} (r : Bool) (k : ℕ) (c d : CellParts N) → (◌≡◌ {A = Result Bool E} (Ok r) (Ok true) → TakesOne k c d) → (◌≡◌ {A = Result Bool E} (Ok r) (Ok false) → TakesNone k c d) → HasMoved c d
  take_moved true k c d took none = took-moved k c d (took refl)
  take_moved false k c d took none = none-moved k c d (none refl)

  -- a put that was made moves
  pub put-one_moved : (i : ℕ) (c d : CellParts N) → PutsOne i c d → HasMoved c d
  put-one_moved i c d t = record {
    ins = subst (λ v. AllZip Came c.ins.items v.items) (sym t.others.ins) (zip-refl Came Came-refl c.ins.items);
    outs = subst (AllZip Went c.core.outs.items) (sym t.outs) (set-at Went Went-refl c.core.outs.items i t.old t.new t.at (sends-went t.old t.new t.sends));
    gathered = t.others.gathered;
    base = t.others.base;
    source = t.others.source;
    spent = t.others.spent;
  }

  -- a put that wasn't made moves nothing
  pub put-none_moved : (i : ℕ) (c d : CellParts N) → PutsNone i c d → HasMoved c d
  put-none_moved i c d t = record {
    ins = subst (λ v. AllZip Came c.ins.items v.items) (sym t.others.ins) (zip-refl Came Came-refl c.ins.items);
    outs = zip-weaker Eases Went eases-went c.core.outs.items d.core.outs.items t.outs;
    gathered = t.others.gathered;
    base = t.others.base;
    source = t.others.source;
    spent = t.others.spent;
  }

  -- a put moves
  pub put_moved : (r : Bool) (i : ℕ) (c d : CellParts N) → (IsTrue r → PutsOne i c d) → (IsFalse r → PutsNone i c d) → HasMoved c d
  put_moved true i c d put none = put-one_moved i c d (put refl)
  put_moved false i c d put none = put-none_moved i c d (none refl)
