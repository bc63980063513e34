-- What a cell's putting a message, and the settling behind it, make of a net.
use Rattle.std.proofs.Common.{◌≡◌, ℕ, suc, ◌+◌, ◌<◌, ◌≤◌, List, ◌∷◌, map, length, set, Some, refl, sym, ap, subst, ◌∙◌, ⊎_elim, arith}
use Rattle.std.proofs.lemmas.List.{length-set}
use Rattle.std.specs.Prelude.{slice_get}
use Rattle.std.specs.List.{AllByRecursion as Each, AllZip}
use Rattle.kap_base.specs.declared.items.Msg.{Msg}
use Rattle.node_core.specs.declared.node.Node.{Ghosts}
use Rattle.edge_queue.specs.Edges.{IsPaired, IsSettled, edge_capacity, free, known, sent}
use Rattle.edge_queue.specs.Moves.{HeadLooked}
use Rattle.edge_queue.proofs.EdgeLaws.{IsPaired-same, SameHead-refl, SameHead-trans, put_had_room}
use Rattle.flow_life.proofs.StreamLaws.{prefix-trans}
use Rattle.flow_cells.specs.declared.parts.OutEdge.{OutEdge}
use Rattle.flow_cells.specs.declared.parts.InEdge.{InEdge}
use Rattle.flow_cells.specs.declared.parts.CellParts.{CellParts}
use Rattle.flow_cells.specs.Outs.{SendsOn}
use Rattle.flow_cells.proofs.OutLaws.{each-set, zip-weaker}
use Rattle.flow_cells.specs.Kept.{Keeps}
use Rattle.flow_cells.proofs.MoveLaws.{Still-refl}
use Rattle.flow_cells.specs.Moves.{Eases, IsStuck, PutsNone, PutsOne, Still}
use Rattle.flow_life.specs.Places.{in_of, out_of}
use Rattle.flow_life.proofs.PlaceLaws.{Other, both-refl, both-right, each-get, found-same, get-set, get-set_other, get-within, in-at, ins-set, out-at, outs-set, same_places, zip-both, zip-length}
use Rattle.flow_life.specs.Streams.{befores_of, plans_of}
use Rattle.flow_life.specs.Wired.{IsFed, IsReady, IsUnspent, IsWired}
use Rattle.flow_life.specs.Steps.{CanPutAt, moves_of, received_count, sent_count}
use Rattle.flow_life.specs.Settling.{HasEdge, SameReceived, Sends, SettlesIn}
use Rattle.flow_life.proofs.ChangeLaws.{Calm, Calm-refl, Ends, SameIn, SameOut, SettledEnds, Then, eases_calm, settled-map, then-settled, wired-calm, wired-changes}
use Rattle.flow_life.proofs.CountLaws.{moves-set, one-more, sent-calm, sent-set}
use Rattle.flow_life.proofs.AliveLaws.{Across, across}
use Rattle.flow_life.proofs.StepLaws.{Made, both-found, calm_sent, counts-set, places, parents-set, plans-set, sent-out, settle-ends, settle-moves, settle-plans, settle-unspent, still-in}

looked-trans : (e f h : InEdge) → Still e f → Still f h → HeadLooked e.head h.head
looked-trans e f h p q = record {
  same = SameHead-trans p.head.same q.head.same;
  ring_received = q.head.ring_received ∙ p.head.ring_received;
  received = q.head.received ∙ p.head.received;
  known = prefix-trans (known e.head) (known f.head) (known h.head) p.head.known q.head.known;
}

first-there : (l r : List Msg) (m : Msg) → l ≡ m ∷ r → 0 < length l
first-there l r m e = let h : length l ≡ suc (length r) = ap length e in omega (arith, h)

module _ {N : Type 0} where
  -- the inputs stay where a cell puts
  put-ins : (cells : List (CellParts N)) (j : ℕ) (c d : CellParts N) (n m : ℕ) → slice_get cells j ≡ Some c → d.ins ≡ c.ins → in_of (set cells j d) n m ≡ in_of cells n m
  put-ins cells j c d n m at same = ins-set cells j c d n m at (λ here. ap (λ v. slice_get v.items m) same)

  -- where a cell puts, the edge is there to be settled
  pub put-edge : (cells : List (CellParts N)) (j i : ℕ) (c d : CellParts N) → IsWired cells → slice_get cells j ≡ Some c → (t : PutsOne i c d) → HasEdge t.new.child t.new.input j (set cells j d)
  put-edge cells j i c d w at t =
      let mid = set cells j d in
      let a : Across cells j i t.old = across cells w j i t.old (out-at cells j i c at ∙ t.at) in
      let f : IsFed cells t.old.child t.old.input a.far = w.ins t.old.child t.old.input a.far a.at in
      let f_at : out_of cells j i ≡ Some f.out = subst (λ (n : ℕ). out_of cells n i ≡ Some f.out) a.from (subst (λ (n : ℕ). out_of cells a.far.from n ≡ Some f.out) a.out f.at) in
      let same : f.out ≡ t.old = found-same (out_of cells j i) f.out t.old f_at (out-at cells j i c at ∙ t.at) in
      let at_out : out_of mid j i ≡ Some t.new = out-at mid j i d (get-set cells j c d at) ∙ ap (λ l. slice_get l i) t.outs ∙ get-set c.core.outs.items i t.old t.new t.at in
      let at_in : in_of mid t.old.child t.old.input ≡ Some a.far = put-ins cells j c d t.old.child t.old.input at t.others.ins ∙ a.at in
      record {
        edge = a.far;
        out = t.new;
        at_in = subst (λ (n : ℕ). in_of mid n t.new.input ≡ Some a.far) (sym t.sends.child) (subst (λ (n : ℕ). in_of mid t.old.child n ≡ Some a.far) (sym t.sends.input) at_in);
        from = a.from;
        at_out = subst (λ (n : ℕ). out_of mid j n ≡ Some t.new) (sym a.out) at_out;
        before = subst (λ (n : ℕ). j < n) (sym t.sends.child) a.before;
        pair = IsPaired-same (subst (λ (o : OutEdge). IsPaired o.tail a.far.head) same f.edge.pair) t.sends.put.same (SameHead-refl a.far.head);
      }

  -- a cell put, and then the edge was settled
  pub put-ends : (cells cells' : List (CellParts N)) (j i : ℕ) (c d : CellParts N) → IsWired cells → slice_get cells j ≡ Some c → (t : PutsOne i c d) → SettlesIn t.old.child t.old.input j (set cells j d) cells' → SettledEnds (Then Still Still) (Then SendsOn Eases) t.old.child t.old.input j i cells cells'
  put-ends cells cells' j i c d w at t s =
      let mid = set cells j d in
      let a : Across cells j i t.old = across cells w j i t.old (out-at cells j i c at ∙ t.at) in
      let at_in' : in_of mid t.old.child t.old.input ≡ Some a.far = put-ins cells j c d t.old.child t.old.input at t.others.ins ∙ a.at in
      let first : Ends Still SendsOn t.old.child t.old.input j i cells mid = record {
        changes = record {
          ins = λ n m other. put-ins cells j c d n m at t.others.ins;
          outs = λ n m other. outs-set Calm Calm-refl cells j c d n m at (λ here. both-refl Calm Calm-refl (slice_get c.core.outs.items m) (slice_get d.core.outs.items m) (ap (λ l. slice_get l m) t.outs ∙ get-set_other c.core.outs.items i m t.new (other here)));
          parents = parents-set cells j c d at (ap (λ v. map (λ (e : InEdge). e.from) v.items) t.others.ins);
          counts = counts-set cells j c d at (ap length t.outs ∙ length-set c.core.outs.items i t.new);
        };
        e = a.far;
        e' = a.far;
        x = t.old;
        x' = t.new;
        at_in = a.at;
        at_in' = at_in';
        at_out = out-at cells j i c at ∙ t.at;
        at_out' = out-at mid j i d (get-set cells j c d at) ∙ ap (λ l. slice_get l i) t.outs ∙ get-set c.core.outs.items i t.old t.new t.at;
        in' = Still-refl a.far;
        out' = t.sends;
      } in
      let edge : s.settles.edge ≡ a.far = found-same (in_of mid t.old.child t.old.input) s.settles.edge a.far (in-at mid t.old.child t.old.input s.old_child s.at_child ∙ s.settles.at_child) at_in' in
      then-settled Still Still SendsOn Eases t.old.child t.old.input j i cells mid cells' first (settle-ends t.old.child t.old.input j i mid cells' s (ap (λ (e : InEdge). e.out) edge ∙ a.out))

  -- where a cell put, it could
  pub could-put : (cells cells' : List (CellParts N)) (j i : ℕ) (c d : CellParts N) → IsWired cells → slice_get cells j ≡ Some c → (t : PutsOne i c d) → SettlesIn t.old.child t.old.input j (set cells j d) cells' → CanPutAt cells j i
  could-put cells cells' j i c d w at t s =
      let u = put-ends cells cells' j i c d w at t s in
      let n = u.ends in
      let x : n.x ≡ t.old = found-same (out_of cells j i) n.x t.old n.at_out (out-at cells j i c at ∙ t.at) in
      let a : Across cells j i n.x = across cells w j i n.x n.at_out in
      let end : a.far ≡ n.e = found-same (in_of cells t.old.child t.old.input) a.far n.e (subst (λ (o : OutEdge). in_of cells o.child o.input ≡ Some a.far) x a.at) n.at_in in
      let head : HeadLooked n.e.head n.e'.head = looked-trans n.e n.in'.mid n.e' n.in'.first n.in'.later in
      let room : length (known n.e.head) < edge_capacity n.x.tail = put_had_room n.out'.first.msg n.x.tail n.out'.mid.tail n.x'.tail n.e.head n.e'.head (subst (λ (e : InEdge). IsSettled n.x.tail e.head) end a.settled) n.out'.first.put n.out'.later.tail head u.settled in
      record {
        edge = n.x;
        far = a.far;
        at = n.at_out;
        at_child = a.at;
        waits = first-there n.x.unsent n.out'.mid.unsent n.out'.first.msg n.out'.first.unsent;
        room = subst (λ (e : InEdge). length (known e.head) < edge_capacity n.x.tail) (sym end) room;
      }

  -- one message more was sent, and nothing else
  pub put-sends : (cells cells' : List (CellParts N)) (j i : ℕ) (c d : CellParts N) → IsWired cells → slice_get cells j ≡ Some c → (t : PutsOne i c d) → SettlesIn t.old.child t.old.input j (set cells j d) cells' → Sends j i cells cells'
  put-sends cells cells' j i c d w at t s =
      let p = t.old.child in
      let k = t.old.input in
      let u = (put-ends cells cells' j i c d w at t s).ends in
      record {
        msg = u.out'.first.msg;
        old = u.x;
        new = u.x';
        at = u.at_out;
        at' = u.at_out';
        one = u.out'.later.tail.sent ∙ u.out'.first.put.sent;
        ins = λ n m. ⊎_elim
            (λ h. both-found SameReceived (in_of cells n m) (in_of cells' n m) u.e u.e' (places (in_of cells) n p m k h u.at_in) (places (in_of cells') n p m k h u.at_in') (u.in'.later.head.received ∙ u.in'.first.head.received))
            (λ ne. both-refl SameReceived (λ e. refl) (in_of cells n m) (in_of cells' n m) (u.changes.ins n m ne))
            (same_places n p m k);
        outs = λ n m ne. calm_sent (out_of cells n m) (out_of cells' n m) (u.changes.outs n m ne);
      }

  -- a cell that is stuck at an out can't put there
  pub stuck-put : (cells : List (CellParts N)) (j i : ℕ) (c d : CellParts N) → IsWired cells → slice_get cells j ≡ Some c → PutsNone i c d → CanPutAt cells j i → ⊥
  stuck-put cells j i c d w at none can =
      let x = can.edge in
      let here : slice_get c.core.outs.items i ≡ Some x = sym (out-at cells j i c at) ∙ can.at in
      let lt : i < length c.core.outs.items = get-within c.core.outs.items i x here in
      let a : Across cells j i x = across cells w j i x can.at in
      let end : a.far ≡ can.far = found-same (in_of cells x.child x.input) a.far can.far a.at can.at_child in
      let o : Other (Eases x) (slice_get d.core.outs.items i) = both-right Eases (slice_get c.core.outs.items i) (slice_get d.core.outs.items i) x (zip-both Eases c.core.outs.items d.core.outs.items i none.outs) here in
      let e : Eases x o.value = o.fact in
      let room : length (known a.far.head) < edge_capacity x.tail = subst (λ (h : InEdge). length (known h.head) < edge_capacity x.tail) (sym end) can.room in
      let places : edge_capacity x.tail ≤ free x.tail + length (known a.far.head) = a.settled.free in
      let more : free x.tail ≤ free o.value.tail = e.tail.free in
      let waits : 0 < length x.unsent = can.waits in
      ⊎_elim
      (λ far. absurd (omega (arith, lt, far)))
      (λ (stuck : IsStuck i d). ⊎_elim
      (λ nothing. let z : length x.unsent ≡ 0 = ap length (sym e.unsent ∙ nothing) in absurd (omega (arith, waits, z)))
      (λ full. absurd (omega (arith, room, places, more, full)))
      (stuck o.value o.is))
      none.why

module _ {N P S : Type 0} (g : Ghosts N P S) where
  -- a cell put, and then the edge was settled
  pub put-made : (cells cells' : List (CellParts N)) (j i : ℕ) (c d : CellParts N) → IsReady g cells → slice_get cells j ≡ Some c → Keeps g d → (t : PutsOne i c d) → SettlesIn t.old.child t.old.input j (set cells j d) cells' → (Each (Keeps g) (set cells j d) → Each (Keeps g) cells') → Made g cells cells'
  put-made cells cells' j i c d r at keeps t s kept =
      let mid = set cells j d in
      let k = t.old.input in
      let ends = put-ends cells cells' j i c d r.wired at t s in
      let weak = settled-map (Then Still Still) SameIn (Then SendsOn Eases) SameOut still-in sent-out t.old.child k j i cells cells' ends in
      let a : Across cells j i t.old = across cells r.wired j i t.old (out-at cells j i c at ∙ t.at) in
      let e : weak.ends.e ≡ a.far = found-same (in_of cells t.old.child k) weak.ends.e a.far weak.ends.at_in a.at in
      let spent : IsUnspent d = t.others.spent ∙ each-get IsUnspent cells j c at r.unspent in
      let one : length (sent t.new.tail) ≡ length (sent t.old.tail) + 1 = one-more (sent t.old.tail) (sent t.new.tail) t.sends.msg t.sends.put.sent in
      let b : sent_count d.core.outs.items ≡ sent_count c.core.outs.items + 1 = ap sent_count t.outs ∙ sent-set c.core.outs.items i 1 t.old t.new t.at one in
      let h : received_count d.ins.items ≡ received_count c.ins.items = ap (λ v. received_count v.items) t.others.ins in
      record {
        ready = record {
          keeps = kept (each-set (Keeps g) cells j d r.keeps keeps);
          unspent = settle-unspent g t.old.child k j mid cells' s (each-set IsUnspent cells j d r.unspent spent);
          wired = wired-changes t.old.child k j i cells cells' r.wired weak (ap (λ (x : InEdge). x.from) e ∙ a.from) (ap (λ (x : InEdge). x.out) e ∙ a.out);
        };
        plans = settle-plans g t.old.child k j mid cells' s ∙ plans-set g cells j c d at t.others.base t.others.source (ap (λ v. map (λ (x : InEdge). x.from) v.items) t.others.ins) (ap (λ v. befores_of v.items) t.others.ins);
        count = settle-moves t.old.child k j mid cells' s ∙ moves-set cells j 1 c d at (omega (arith, b, h));
      }

  -- what a put that was refused leaves
  pub record Held (cells cells' : List (CellParts N)) : Type 0 where
    pub ready : IsReady g cells'
    pub plans : plans_of g cells' ≡ plans_of g cells
    pub count : moves_of cells' ≡ moves_of cells

  -- a cell put nothing
  pub put-held : (cells : List (CellParts N)) (j i : ℕ) (c d : CellParts N) → IsReady g cells → slice_get cells j ≡ Some c → Keeps g d → PutsNone i c d → Held cells (set cells j d)
  put-held cells j i c d r at keeps t =
      let calm : AllZip Calm c.core.outs.items d.core.outs.items = zip-weaker Eases Calm eases_calm c.core.outs.items d.core.outs.items t.outs in
      let spent : IsUnspent d = t.others.spent ∙ each-get IsUnspent cells j c at r.unspent in
      let froms : map (λ (e : InEdge). e.from) d.ins.items ≡ map (λ (e : InEdge). e.from) c.ins.items = ap (λ v. map (λ (e : InEdge). e.from) v.items) t.others.ins in
      let b : sent_count d.core.outs.items ≡ sent_count c.core.outs.items = sent-calm c.core.outs.items d.core.outs.items calm in
      let h : received_count d.ins.items ≡ received_count c.ins.items = ap (λ v. received_count v.items) t.others.ins in
      let count : moves_of (set cells j d) ≡ moves_of cells + 0 = moves-set cells j 0 c d at (omega (arith, b, h)) in
      record {
        ready = record {
          keeps = each-set (Keeps g) cells j d r.keeps keeps;
          unspent = each-set IsUnspent cells j d r.unspent spent;
          wired = wired-calm cells (set cells j d) r.wired (λ n m. put-ins cells j c d n m at t.others.ins)
              (λ n m. outs-set Calm Calm-refl cells j c d n m at (λ here. zip-both Calm c.core.outs.items d.core.outs.items m calm))
              (parents-set cells j c d at froms) (counts-set cells j c d at (zip-length Eases c.core.outs.items d.core.outs.items t.outs));
        };
        plans = plans-set g cells j c d at t.others.base t.others.source froms (ap (λ v. befores_of v.items) t.others.ins);
        count = omega (arith, count);
      }

-- an edge that is named by equal numbers
pub settles-as : {N : Type 0} (child child' input input' parent : ℕ) (cells cells' : List (CellParts N)) → child ≡ child' → input ≡ input' → SettlesIn child input parent cells cells' → SettlesIn child' input' parent cells cells'
settles-as child child' input input' parent cells cells' a b s =
    subst (λ (n : ℕ). SettlesIn n input' parent cells cells') a (subst (λ (n : ℕ). SettlesIn child n parent cells cells') b s)

pub edge-as : {N : Type 0} (child child' input input' parent : ℕ) (cells : List (CellParts N)) → child ≡ child' → input ≡ input' → HasEdge child input parent cells → HasEdge child' input' parent cells
edge-as child child' input input' parent cells a b s =
    subst (λ (n : ℕ). HasEdge n input' parent cells) a (subst (λ (n : ℕ). HasEdge child n parent cells) b s)

-- what was put on an out stands there
pub put-there : {N : Type 0} (i : ℕ) (c d : CellParts N) → (t : PutsOne i c d) → slice_get d.core.outs.items i ≡ Some t.new
put-there i c d t = ap (λ l. slice_get l i) t.outs ∙ get-set c.core.outs.items i t.old t.new t.at
