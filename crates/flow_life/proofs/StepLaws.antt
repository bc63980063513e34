-- What a cell's move and the settling behind it make of a net.
use Rattle.std.proofs.Common.{◌≡◌, ℕ, zero, suc, ◌+◌, ◌<◌, Bool, true, false, List, [], ◌∷◌, ◌++◌, map, length, set, Option, Some, None, refl, sym, ap, subst, ◌∙◌, ⊎_elim, arith}
use Rattle.std.proofs.lemmas.List.{length-set}
use Rattle.std.specs.Prelude.{nat_lt, slice_get}
use mathlib.Core.List.{IsPrefix}
use Rattle.std.specs.List.{AllByRecursion as Each}
use Rattle.kap_base.specs.declared.items.Msg.{Msg}
use Rattle.node_core.specs.declared.node.Node.{Ghosts}
use Rattle.edge_queue.specs.Edges.{known, received, sent}
use Rattle.edge_queue.proofs.EdgeLaws.{IsPaired-same, SameHead-trans, SameTail-trans}
use Rattle.flow_cells.specs.declared.parts.OutEdge.{OutEdge}
use Rattle.flow_cells.specs.declared.parts.InEdge.{InEdge}
use Rattle.flow_cells.specs.declared.parts.CellParts.{CellParts}
use Rattle.flow_cells.specs.Outs.{SendsOn, has_unsent}
use Rattle.flow_cells.proofs.OutLaws.{each-set, zip-weaker}
use Rattle.flow_cells.specs.Handled.{Waits}
use Rattle.flow_cells.specs.Kept.{Keeps}
use Rattle.flow_cells.specs.Looks.{CanTake, knows_some}
use Rattle.flow_cells.specs.Moves.{Eases, KnowsNone, Still, TakesAt, TakesNone, TakesOne}
use Rattle.flow_life.specs.Places.{Both, in_of, out_of}
use Rattle.flow_life.proofs.PlaceLaws.{Other, both-refl, both-right, each-get, found-same, get-set, get-set_other, get-within, in-at, ins-set, map-set, out-at, outs-set, same_places, zip-both, zip-length}
use Rattle.flow_life.specs.Streams.{befores_of, plan_of, plans_of}
use Rattle.flow_life.specs.Wired.{IsFed, IsReady, IsUnspent, IsWired, outs_of, parents_of}
use Rattle.flow_life.specs.Steps.{moves_of, received_count, sent_count}
use Rattle.flow_life.specs.Settling.{HasEdge, Receives, SameSent, SettlesIn}
use Rattle.flow_life.proofs.BeforeLaws.{befores-looked, befores-taken}
use Rattle.flow_life.proofs.ChangeLaws.{Calm, Calm-refl, Ends, SameIn, SameOut, SettledEnds, Then, settled-map, then-settled, waits_calm, wired-changes}
use Rattle.flow_life.proofs.CountLaws.{moves-set, one-more, received-set, sent-calm, sent-set}

-- ---- settling

module _ {N : Type 0} where
  pub parents-set : (cells : List (CellParts N)) (j : ℕ) (c d : CellParts N) → slice_get cells j ≡ Some c → map (λ (e : InEdge). e.from) d.ins.items ≡ map (λ (e : InEdge). e.from) c.ins.items → parents_of (set cells j d) ≡ parents_of cells
  parents-set cells j c d at same = map-set (λ (x : CellParts N). map (λ (e : InEdge). e.from) x.ins.items) cells j c d at same

  pub counts-set : (cells : List (CellParts N)) (j : ℕ) (c d : CellParts N) → slice_get cells j ≡ Some c → length d.core.outs.items ≡ length c.core.outs.items → outs_of (set cells j d) ≡ outs_of cells
  counts-set cells j c d at same = map-set (λ (x : CellParts N). length x.core.outs.items) cells j c d at same

  -- an edge that is settled
  pub settle-ends : (j k p i : ℕ) (cells cells' : List (CellParts N)) → (s : SettlesIn j k p cells cells') → s.settles.edge.out ≡ i → SettledEnds Still Eases j k p i cells cells'
  settle-ends j k p i cells cells' s out =
      let t = s.settles in
      let lt : p < j = s.before in
      let mid = set cells p s.new_parent in
      let ne : j ≡ p → ⊥ = λ e. absurd (omega (arith, lt, e)) in
      let ne' : p ≡ j → ⊥ = λ e. absurd (omega (arith, lt, e)) in
      let at_child : slice_get mid j ≡ Some s.old_child = get-set_other cells p j s.new_parent ne ∙ s.at_child in
      let last = set mid j s.new_child in
      let at_last : slice_get last j ≡ Some s.new_child = get-set mid j s.old_child s.new_child at_child in
      let at_parent : slice_get last p ≡ Some s.new_parent = get-set_other mid j p s.new_child ne' ∙ get-set cells p s.old_parent s.new_parent s.at_parent in
      let parent_outs : s.new_parent.core.outs.items ≡ set s.old_parent.core.outs.items i t.out' = t.outs ∙ ap (λ (n : ℕ). set s.old_parent.core.outs.items n t.out') out in
      let parent_at : slice_get s.old_parent.core.outs.items i ≡ Some t.out = subst (λ (n : ℕ). slice_get s.old_parent.core.outs.items n ≡ Some t.out) out t.at_parent in
      let parent_ins : s.new_parent.ins.items ≡ s.old_parent.ins.items = ap (λ v. v.items) t.of_parent.ins in
      let child_outs : s.new_child.core.outs.items ≡ s.old_child.core.outs.items = ap (λ v. v.outs.items) t.of_child.core in
      let ins : (n m : ℕ) → (n ≡ j → m ≡ k → ⊥) → in_of last n m ≡ in_of cells n m = λ n m other.
      ins-set mid j s.old_child s.new_child n m at_child (λ here. ap (λ l. slice_get l m) t.ins ∙ get-set_other s.old_child.ins.items k m t.edge' (other here))
      ∙ ins-set cells p s.old_parent s.new_parent n m s.at_parent (λ here. ap (λ l. slice_get l m) parent_ins) in
      let outs : (n m : ℕ) → (n ≡ p → m ≡ i → ⊥) → Both Calm (out_of cells n m) (out_of last n m) = λ n m other.
      subst (λ (q : Option OutEdge). Both Calm (out_of cells n m) q) (sym (out-same mid j s.old_child s.new_child n m at_child child_outs))
      (outs-set Calm Calm-refl cells p s.old_parent s.new_parent n m s.at_parent (λ here. both-refl Calm Calm-refl (slice_get s.old_parent.core.outs.items m) (slice_get s.new_parent.core.outs.items m) (ap (λ l. slice_get l m) parent_outs ∙ get-set_other s.old_parent.core.outs.items i m t.out' (other here)))) in
      let parents : parents_of last ≡ parents_of cells =
      parents-set mid j s.old_child s.new_child at_child (ap (map (λ (e : InEdge). e.from)) t.ins ∙ map-set (λ (e : InEdge). e.from) s.old_child.ins.items k t.edge t.edge' t.at_child t.head.from)
      ∙ parents-set cells p s.old_parent s.new_parent s.at_parent (ap (map (λ (e : InEdge). e.from)) parent_ins) in
      let counts : outs_of last ≡ outs_of cells =
      counts-set mid j s.old_child s.new_child at_child (ap length child_outs)
      ∙ counts-set cells p s.old_parent s.new_parent s.at_parent (ap length parent_outs ∙ length-set s.old_parent.core.outs.items i t.out') in
      subst (SettledEnds Still Eases j k p i cells) (sym s.is) (record {
        ends = record {
          changes = record { ins = ins; outs = outs; parents = parents; counts = counts };
          e = t.edge;
          e' = t.edge';
          x = t.out;
          x' = t.out';
          at_in = in-at cells j k s.old_child s.at_child ∙ t.at_child;
          at_in' = in-at last j k s.new_child at_last ∙ ap (λ l. slice_get l k) t.ins ∙ get-set s.old_child.ins.items k t.edge t.edge' t.at_child;
          at_out = out-at cells p i s.old_parent s.at_parent ∙ parent_at;
          at_out' = out-at last p i s.new_parent at_parent ∙ ap (λ l. slice_get l i) parent_outs ∙ get-set s.old_parent.core.outs.items i t.out t.out' parent_at;
          in' = t.head;
          out' = t.tail;
        };
        settled = t.settled;
      })
    where
      out-same : (cs : List (CellParts N)) (m : ℕ) (c d : CellParts N) (n q : ℕ) → slice_get cs m ≡ Some c → d.core.outs.items ≡ c.core.outs.items → out_of (set cs m d) n q ≡ out_of cs n q
      out-same [] m c d n q at same = refl
      out-same (x ∷ cs) zero c d zero q at same = ap (λ l. slice_get l q) same ∙ ap (λ (y : CellParts N). slice_get y.core.outs.items q) (found-same (Some x) c x at refl)
      out-same (x ∷ cs) zero c d (suc n) q at same = refl
      out-same (x ∷ cs) (suc m) c d zero q at same = refl
      out-same (x ∷ cs) (suc m) c d (suc n) q at same = out-same cs m c d n q at same

  -- settling sends and receives nothing
  pub settle-moves : (j k p : ℕ) (cells cells' : List (CellParts N)) → SettlesIn j k p cells cells' → moves_of cells' ≡ moves_of cells
  settle-moves j k p cells cells' s =
      let t = s.settles in
      let lt : p < j = s.before in
      let mid = set cells p s.new_parent in
      let at_child : slice_get mid j ≡ Some s.old_child = get-set_other cells p j s.new_parent (λ e. absurd (omega (arith, lt, e))) ∙ s.at_child in
      let sent_same : length (sent t.out'.tail) ≡ length (sent t.out.tail) + 0 = ap length t.tail.tail.sent ∙ omega arith in
      let received_same : length (received t.edge'.head) ≡ length (received t.edge.head) + 0 = ap length t.head.head.received ∙ omega arith in
      let a : sent_count s.new_parent.core.outs.items ≡ sent_count s.old_parent.core.outs.items + 0 = ap sent_count t.outs ∙ sent-set s.old_parent.core.outs.items t.edge.out 0 t.out t.out' t.at_parent sent_same in
      let b : received_count s.new_parent.ins.items ≡ received_count s.old_parent.ins.items = ap (λ v. received_count v.items) t.of_parent.ins in
      let c : received_count s.new_child.ins.items ≡ received_count s.old_child.ins.items + 0 = ap received_count t.ins ∙ received-set s.old_child.ins.items k 0 t.edge t.edge' t.at_child received_same in
      let d : sent_count s.new_child.core.outs.items ≡ sent_count s.old_child.core.outs.items = ap (λ v. sent_count v.outs.items) t.of_child.core in
      let first : moves_of mid ≡ moves_of cells + 0 = moves-set cells p 0 s.old_parent s.new_parent s.at_parent (omega (arith, a, b)) in
      let later : moves_of (set mid j s.new_child) ≡ moves_of mid + 0 = moves-set mid j 0 s.old_child s.new_child at_child (omega (arith, c, d)) in
      ap moves_of s.is ∙ omega (arith, first, later)

module _ {N P S : Type 0} (g : Ghosts N P S) where
  -- a cell's moves leave its plan
  pub plans-set : (cells : List (CellParts N)) (j : ℕ) (c d : CellParts N) → slice_get cells j ≡ Some c → d.base ≡ c.base → d.source ≡ c.source → map (λ (e : InEdge). e.from) d.ins.items ≡ map (λ (e : InEdge). e.from) c.ins.items → befores_of d.ins.items ≡ befores_of c.ins.items → plans_of g (set cells j d) ≡ plans_of g cells
  plans-set cells j c d at base source from before = map-set (plan_of g) cells j c d at (rw (base, source, from, before) refl)

  pub settle-plans : (j k p : ℕ) (cells cells' : List (CellParts N)) → SettlesIn j k p cells cells' → plans_of g cells' ≡ plans_of g cells
  settle-plans j k p cells cells' s =
      let t = s.settles in
      let lt : p < j = s.before in
      let mid = set cells p s.new_parent in
      let at_child : slice_get mid j ≡ Some s.old_child = get-set_other cells p j s.new_parent (λ e. absurd (omega (arith, lt, e))) ∙ s.at_child in
      ap (plans_of g) s.is
      ∙ plans-set mid j s.old_child s.new_child at_child t.of_child.base t.of_child.source (ap (map (λ (e : InEdge). e.from)) t.ins ∙ map-set (λ (e : InEdge). e.from) s.old_child.ins.items k t.edge t.edge' t.at_child t.head.from)
      (ap befores_of t.ins ∙ befores-looked s.old_child.ins.items k t.edge t.edge' t.at_child t.head)
      ∙ plans-set cells p s.old_parent s.new_parent s.at_parent t.of_parent.base t.of_parent.source (ap (λ v. map (λ (e : InEdge). e.from) v.items) t.of_parent.ins)
      (ap (λ v. befores_of v.items) t.of_parent.ins)

  pub settle-unspent : (j k p : ℕ) (cells cells' : List (CellParts N)) → SettlesIn j k p cells cells' → Each IsUnspent cells → Each IsUnspent cells'
  settle-unspent j k p cells cells' s all =
      let t = s.settles in
      let parent : IsUnspent s.new_parent = t.of_parent.spent ∙ each-get IsUnspent cells p s.old_parent s.at_parent all in
      let child : IsUnspent s.new_child = t.of_child.spent ∙ each-get IsUnspent cells j s.old_child s.at_child all in
      subst (Each IsUnspent) (sym s.is) (each-set IsUnspent (set cells p s.new_parent) j s.new_child (each-set IsUnspent cells p s.new_parent all parent) child)

-- ---- takes

pub took-in : (msg : Msg) (a b : InEdge) → Then (TakesAt msg) Still a b → SameIn a b
took-in msg a b t = record { head = SameHead-trans t.first.head.same t.later.head.same; from = t.later.from ∙ t.first.from; out = t.later.out ∙ t.first.out }

pub calm-out : (a b : OutEdge) → Then Calm Eases a b → SameOut a b
calm-out a b t = record { tail = SameTail-trans t.first.tail.same t.later.tail.same; child = t.later.child ∙ t.first.child; input = t.later.input ∙ t.first.input }

pub still-in : (a b : InEdge) → Then Still Still a b → SameIn a b
still-in a b t = record { head = SameHead-trans t.first.head.same t.later.head.same; from = t.later.from ∙ t.first.from; out = t.later.out ∙ t.first.out }

pub sent-out : (a b : OutEdge) → Then SendsOn Eases a b → SameOut a b
sent-out a b t = record { tail = SameTail-trans t.first.put.same t.later.tail.same; child = t.later.child ∙ t.first.child; input = t.later.input ∙ t.first.input }

-- where nothing was put, nothing was sent
pub calm_sent : (o p : Option OutEdge) → Both Calm o p → Both SameSent o p
calm_sent None None h = tt
calm_sent None (Some y) h = absurd h
calm_sent (Some x) None h = absurd h
calm_sent (Some x) (Some y) h = h.tail.sent

-- two that are found, and related
pub both-found : {A : Type 0} (R : A → A → Type 0) (o p : Option A) (x y : A) → o ≡ Some x → p ≡ Some y → R x y → Both R o p
both-found R None p x y e h r = absurd cc
both-found R (Some a) None x y e h r = absurd cc
both-found R (Some a) (Some b) x y e h r = subst (λ z. R z b) (found-same (Some a) x a e refl) (subst (R x) (found-same (Some b) y b h refl) r)

-- what is found at a pair of places
pub places : {A : Type 0} {x : A} (f : ℕ → ℕ → Option A) (n p m i : ℕ) → (n ≡ p) × (m ≡ i) → f p i ≡ Some x → f n m ≡ Some x
places {x = x} f n p m i h e = subst (λ (q : ℕ). f q m ≡ Some x) (sym h.0) (subst (λ (q : ℕ). f p q ≡ Some x) (sym h.1) e)

module _ {N : Type 0} where
  -- where a cell takes, the edge is there to be settled
  pub take-edge : (cells : List (CellParts N)) (j k p : ℕ) (c d : CellParts N) → IsWired cells → slice_get cells j ≡ Some c → (t : TakesOne k c d) → t.old.from ≡ p → HasEdge j k p (set cells j d)
  take-edge cells j k p c d w at t from =
      let f : IsFed cells j k t.old = w.ins j k t.old (in-at cells j k c at ∙ t.at) in
      let lt : p < j = subst (λ (n : ℕ). n < j) from f.before in
      let f_at : out_of cells p t.old.out ≡ Some f.out = subst (λ (n : ℕ). out_of cells n t.old.out ≡ Some f.out) from f.at in
      let o : Other (Calm f.out) (out_of (set cells j d) p t.old.out) = both-right Calm (out_of cells p t.old.out) (out_of (set cells j d) p t.old.out) f.out (outs-set Calm Calm-refl cells j c d p t.old.out at (λ e. absurd (omega (arith, lt, e)))) f_at in
      let pair = f.edge.pair in
      record {
        edge = t.new;
        out = o.value;
        at_in = in-at (set cells j d) j k d (get-set cells j c d at) ∙ ap (λ l. slice_get l k) t.ins ∙ get-set c.ins.items k t.old t.new t.at;
        from = t.takes.from ∙ from;
        at_out = subst (λ (n : ℕ). out_of (set cells j d) p n ≡ Some o.value) (sym t.takes.out) o.is;
        before = lt;
        pair = IsPaired-same pair o.fact.tail.same t.takes.head.same;
      }

  -- a cell took, and then the edge was settled
  pub take-ends : (cells cells' : List (CellParts N)) (j k p : ℕ) (c d : CellParts N) → IsWired cells → slice_get cells j ≡ Some c → (t : TakesOne k c d) → t.old.from ≡ p → SettlesIn j k p (set cells j d) cells' → SettledEnds (Then (TakesAt t.msg) Still) (Then Calm Eases) j k p t.old.out cells cells'
  take-ends cells cells' j k p c d w at t from s =
      let mid = set cells j d in
      let i = t.old.out in
      let f : IsFed cells j k t.old = w.ins j k t.old (in-at cells j k c at ∙ t.at) in
      let f_at : out_of cells p i ≡ Some f.out = subst (λ (n : ℕ). out_of cells n i ≡ Some f.out) from f.at in
      let outs : (n m : ℕ) → Both Calm (out_of cells n m) (out_of mid n m) = λ n m.
      outs-set Calm Calm-refl cells j c d n m at (λ e. zip-both Calm c.core.outs.items d.core.outs.items m (zip-weaker Waits Calm waits_calm c.core.outs.items d.core.outs.items t.outs)) in
      let o : Other (Calm f.out) (out_of mid p i) = both-right Calm (out_of cells p i) (out_of mid p i) f.out (outs p i) f_at in
      let at_in' : in_of mid j k ≡ Some t.new = in-at mid j k d (get-set cells j c d at) ∙ ap (λ l. slice_get l k) t.ins ∙ get-set c.ins.items k t.old t.new t.at in
      let first : Ends (TakesAt t.msg) Calm j k p i cells mid = record {
        changes = record {
          ins = λ n m other. ins-set cells j c d n m at (λ here. ap (λ l. slice_get l m) t.ins ∙ get-set_other c.ins.items k m t.new (other here));
          outs = λ n m other. outs n m;
          parents = parents-set cells j c d at (ap (map (λ (e : InEdge). e.from)) t.ins ∙ map-set (λ (e : InEdge). e.from) c.ins.items k t.old t.new t.at t.takes.from);
          counts = counts-set cells j c d at (zip-length Waits c.core.outs.items d.core.outs.items t.outs);
        };
        e = t.old;
        e' = t.new;
        x = f.out;
        x' = o.value;
        at_in = in-at cells j k c at ∙ t.at;
        at_in' = at_in';
        at_out = f_at;
        at_out' = o.is;
        in' = t.takes;
        out' = o.fact;
      } in
      let edge : s.settles.edge ≡ t.new = found-same (in_of mid j k) s.settles.edge t.new (in-at mid j k s.old_child s.at_child ∙ s.settles.at_child) at_in' in
      then-settled (TakesAt t.msg) Still Calm Eases j k p i cells mid cells' first (settle-ends j k p i mid cells' s (ap (λ (e : InEdge). e.out) edge ∙ t.takes.out))

  -- one message more was received, and nothing else
  pub take-receives : (cells cells' : List (CellParts N)) (j k p : ℕ) (c d : CellParts N) → IsWired cells → slice_get cells j ≡ Some c → (t : TakesOne k c d) → t.old.from ≡ p → SettlesIn j k p (set cells j d) cells' → Receives j k cells cells'
  take-receives cells cells' j k p c d w at t from s =
      let i = t.old.out in
      let u = (take-ends cells cells' j k p c d w at t from s).ends in
      record {
        msg = t.msg;
        old = u.e;
        new = u.e';
        at = u.at_in;
        at' = u.at_in';
        one = u.in'.later.head.received ∙ u.in'.first.head.received;
        ins = u.changes.ins;
        outs = λ n m. ⊎_elim
            (λ h. both-found SameSent (out_of cells n m) (out_of cells' n m) u.x u.x' (places (out_of cells) n p m i h u.at_out) (places (out_of cells') n p m i h u.at_out') (u.out'.later.tail.sent ∙ u.out'.first.tail.sent))
            (λ ne. calm_sent (out_of cells n m) (out_of cells' n m) (u.changes.outs n m ne))
            (same_places n p m i);
      }

-- what a step that was made leaves
pub record Made {N P S : Type 0} (g : Ghosts N P S) (cells cells' : List (CellParts N)) : Type 0 where
  pub ready : IsReady g cells'
  pub plans : plans_of g cells' ≡ plans_of g cells
  pub count : moves_of cells' ≡ moves_of cells + 1

module _ {N P S : Type 0} (g : Ghosts N P S) where
  -- a cell took, and then the edge was settled
  pub take-made : (cells cells' : List (CellParts N)) (j k p : ℕ) (c d : CellParts N) → IsReady g cells → slice_get cells j ≡ Some c → Keeps g d → (t : TakesOne k c d) → t.old.from ≡ p → SettlesIn j k p (set cells j d) cells' → (Each (Keeps g) (set cells j d) → Each (Keeps g) cells') → Made g cells cells'
  take-made cells cells' j k p c d r at keeps t from s kept =
      let mid = set cells j d in
      let ends = take-ends cells cells' j k p c d r.wired at t from s in
      let weak = settled-map (Then (TakesAt t.msg) Still) SameIn (Then Calm Eases) SameOut (took-in t.msg) calm-out j k p t.old.out cells cells' ends in
      let e : weak.ends.e ≡ t.old = found-same (in_of cells j k) weak.ends.e t.old weak.ends.at_in (in-at cells j k c at ∙ t.at) in
      let spent : IsUnspent d = t.spent ∙ each-get IsUnspent cells j c at r.unspent in
      let one : length (received t.new.head) ≡ length (received t.old.head) + 1 = one-more (received t.old.head) (received t.new.head) t.msg t.takes.head.received in
      let a : received_count d.ins.items ≡ received_count c.ins.items + 1 = ap received_count t.ins ∙ received-set c.ins.items k 1 t.old t.new t.at one in
      let b : sent_count d.core.outs.items ≡ sent_count c.core.outs.items = sent-calm c.core.outs.items d.core.outs.items (zip-weaker Waits Calm waits_calm c.core.outs.items d.core.outs.items t.outs) in
      record {
        ready = record {
          keeps = kept (each-set (Keeps g) cells j d r.keeps keeps);
          unspent = settle-unspent g j k p mid cells' s (each-set IsUnspent cells j d r.unspent spent);
          wired = wired-changes j k p t.old.out cells cells' r.wired weak (ap (λ (x : InEdge). x.from) e ∙ from) (ap (λ (x : InEdge). x.out) e);
        };
        plans = settle-plans g j k p mid cells' s ∙ plans-set g cells j c d at t.base t.source (ap (map (λ (x : InEdge). x.from)) t.ins ∙ map-set (λ (x : InEdge). x.from) c.ins.items k t.old t.new t.at t.takes.from)
            (ap befores_of t.ins ∙ befores-taken t.msg c.ins.items k t.old t.new t.at t.takes);
        count = settle-moves j k p mid cells' s ∙ moves-set cells j 1 c d at (omega (arith, a, b));
      }

none-of-none : (xs ys : List Msg) → IsPrefix xs ys → ys ≡ [] → nat_lt 0 (length xs) ≡ false
none-of-none [] ys p e = refl
none-of-none (x ∷ xs) ys p e = absurd (never (p.1 ∙ e))
  where
    never : x ∷ (xs ++ p.0) ≡ [] → ⊥
    never h = absurd cc

true-false : (b : Bool) → b ≡ true → b ≡ false → ⊥
true-false true a b = absurd cc
true-false false a b = absurd cc

module _ {N : Type 0} where
  -- a cell that can take doesn't take nothing
  pub take-sure : (k : ℕ) (c d : CellParts N) → CanTake k c → TakesNone k c d → ⊥
  take-sure k c d can none =
      let lt : k < length c.ins.items = get-within c.ins.items k can.edge can.at in
      ⊎_elim
      (λ far. absurd (omega (arith, lt, far)))
      (λ rest. ⊎_elim
      (λ waits. true-false (has_unsent c.core.outs.items) waits can.none)
      (λ (empty : KnowsNone k d).
      let o : Other (Still can.edge) (slice_get d.ins.items k) = both-right Still (slice_get c.ins.items k) (slice_get d.ins.items k) can.edge (zip-both Still c.ins.items d.ins.items k none.ins) can.at in
      let s : Still can.edge o.value = o.fact in
      true-false (knows_some can.edge) can.knows (none-of-none (known can.edge.head) (known o.value.head) s.head.known (empty o.value o.is)))
      rest)
      none.why
