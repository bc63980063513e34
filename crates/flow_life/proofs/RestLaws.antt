-- At rest each edge has carried its stream whole, and nothing is left in a buffer.
use Rattle.std.proofs.Common.{◌≡◌, ℕ, zero, suc, ◌<◌, Bool, true, false, List, [], ◌∷◌, ◌++◌, map, length, get_or, Some, refl, sym, ap, subst, ◌∙◌, append-nil, append_assoc, arith}
use Rattle.std.specs.Prelude.{◌||◌, is_some, nat_lt, slice_get}
use Rattle.std.specs.List.{AllByRecursion as Each, list_any}
use Rattle.std.proofs.lemmas.Bool.{lt-ltb}
use Rattle.kap_base.specs.declared.items.Item.{Item}
use Rattle.kap_base.specs.declared.items.Msg.{Msg}
use Rattle.kap_base.specs.declared.items.Msg.TheVariants as messages
use Rattle.kap_base.specs.declared.items.Stamp.{Stamp}
use Rattle.node_core.specs.declared.node.Node.{Ghosts}
use Rattle.node_core.specs.Meaning.{Input, Move}
use Rattle.merge_node.specs.Merge.{AllClosedBy, Entry, IsClosed, IsClosedBy, Lists, barriers}
use Rattle.merge_node.specs.Buffers.{Merges}
use Rattle.merge_node.proofs.BufferLaws.{merges-same}
use Rattle.merge_node.proofs.CallLaws.{AreEmpty}
use Rattle.merge_node.proofs.ClosingLaws.{ClosedMerge, EntriesClosed, entry_barriers, merged-closed}
use Rattle.edge_queue.specs.Edges.{known, received, sent}
use Rattle.edge_queue.proofs.EdgeLaws.{settled_since}
use Rattle.flow_cells.specs.declared.parts.OutEdge.{OutEdge}
use Rattle.flow_cells.specs.declared.parts.InEdge.{InEdge}
use Rattle.flow_cells.specs.declared.parts.CellParts.{CellParts}
use Rattle.flow_cells.specs.Outs.{item_msgs}
use Rattle.flow_cells.specs.Looks.{IsQuiet, knows_some}
use Rattle.flow_cells.specs.Made.{IsNothing}
use Rattle.flow_cells.specs.Runs.{Run, begun, reacted, run}
use Rattle.flow_cells.specs.Kept.{IsAt, Keeps, received_of, run_of}
use Rattle.flow_life.specs.Places.{in_of, out_of}
use Rattle.flow_life.proofs.PlaceLaws.{CellOfIn, CellOfOut, cell-of_in, cell-of_out, each-get, each-of, found-same, in-at}
use Rattle.flow_life.specs.Streams.{AreStreams, CarriesStreams, IsStream, Plan, plan_of, plans_of, run_from, streams_at, streams_into}
use Rattle.flow_life.proofs.StreamLaws.{beside, get-map, get-or, given_out, sent-given}
use Rattle.flow_life.specs.Wired.{IsFed, IsReady}
use Rattle.flow_life.specs.Steps.{AreQuiet, HasEmptyBuffers}
use Rattle.flow_life.specs.Graphs.{IsClosedFor, IsLoaded}

-- ---- what quiet cells have

-- where a test holds of no element, it fails of each
any-none : {A : Type 0} (f : A → Bool) (xs : List A) (i : ℕ) (x : A) → list_any f xs ≡ false → slice_get xs i ≡ Some x → f x ≡ false
any-none f [] i x n e = absurd cc
any-none f (y ∷ xs) zero x n e = ap f (sym (found-same (Some y) y x refl e)) ∙ or-left (f y) (list_any f xs) n
  where
    or-left : (a b : Bool) → (a || b) ≡ false → a ≡ false
    or-left false b h = refl
    or-left true b h = absurd cc
any-none f (y ∷ xs) (suc i) x n e = any-none f xs i x (or-right (f y) (list_any f xs) n) e
  where
    or-right : (a b : Bool) → (a || b) ≡ false → b ≡ false
    or-right false b h = h
    or-right true b h = absurd cc

-- a list without a first element is empty
none-first : (l : List Msg) → is_some (slice_get l 0) ≡ false → l ≡ []
none-first [] h = refl
none-first (m ∷ l) h = absurd cc

both-ways : (b : Bool) → b ≡ true → b ≡ false → ⊥
both-ways true t f = absurd cc
both-ways false t f = absurd cc

none-known : (l : List Msg) → nat_lt 0 (length l) ≡ false → l ≡ []
none-known [] h = refl
none-known (m ∷ l) h = absurd (both-ways (nat_lt 0 (length (m ∷ l))) (lt-ltb 0 (length (m ∷ l)) (omega arith)) h)

-- nothing waits at an out of a quiet cell
pub quiet-out : {N : Type 0} (c : CellParts N) (i : ℕ) (o : OutEdge) → IsQuiet c → slice_get c.core.outs.items i ≡ Some o → o.unsent ≡ []
quiet-out c i o q at = none-first o.unsent (any-none (λ (x : OutEdge). is_some (slice_get x.unsent 0)) c.core.outs.items i o q.unsent at)

-- nothing is known on the edge of an input of a quiet cell
pub quiet-in : {N : Type 0} (c : CellParts N) (k : ℕ) (e : InEdge) → IsQuiet c → slice_get c.ins.items k ≡ Some e → known e.head ≡ []
quiet-in c k e q at = none-known (known e.head) (any-none knows_some c.ins.items k e q.known at)

-- ---- closed lists

items-barriers : (xs : List Item) (l : List Msg) → barriers (item_msgs xs ++ l) ≡ barriers l
items-barriers [] l = refl
items-barriers (x ∷ xs) l = items-barriers xs l

items-closed : (xs : List Item) (l : List Msg) → IsClosed l → (barriers l ≡ [] → ⊥) → IsClosed (item_msgs xs ++ l)
items-closed [] l h n = h
items-closed (x ∷ xs) l h n = ((λ e. n (sym (items-barriers xs l) ∙ e)), items-closed xs l h n)

module _ {S : Type 0} (step : S → Input → Move S) where
  -- what a run gives out behind what it gave before
  record Later (r : Run S) (xs : List Entry) : Type 0 where
    later : List Msg
    is : (run step r xs).outs ≡ r.outs ++ later
    closed : IsClosedBy (entry_barriers xs) later

  later-of : (r : Run S) (xs : List Entry) → EntriesClosed xs → Later r xs
  later-of r [] h = record { later = []; is = sym (append-nil r.outs); closed = record { barriers = refl; closed = tt } }
  later-of r ((k, messages.Item x) ∷ xs) h =
      let given = item_msgs (step r.state (k, x)).given.items in
      let n = later-of (reacted step r k (messages.Item x)) xs h.1 in
      record {
        later = given ++ n.later;
        is = n.is ∙ append_assoc r.outs given n.later;
        closed = record {
          barriers = items-barriers (step r.state (k, x)).given.items n.later ∙ n.closed.barriers;
          closed = items-closed (step r.state (k, x)).given.items n.later n.closed.closed (λ e. h.0 (sym n.closed.barriers ∙ e));
        };
      }
  later-of r ((k, messages.Barrier b) ∷ xs) h =
      let n = later-of (reacted step r k (messages.Barrier b)) xs h in
      record {
        later = messages.Barrier b ∷ n.later;
        is = n.is ∙ append_assoc r.outs (messages.Barrier b ∷ []) n.later;
        closed = record { barriers = ap (λ (l : List Stamp). b ∷ l) n.closed.barriers; closed = n.closed.closed };
      }

-- what a node gives out over closed lists is closed by the same barriers
pub stream-closed : {S : Type 0} (p : Plan S) (bs : List Stamp) (xs : List Entry) → entry_barriers xs ≡ bs → EntriesClosed xs → IsClosedBy bs (run_from p xs).outs
stream-closed p bs xs same h =
    let n = later-of p.step (begun p.start p.passed) xs h in
    subst (λ (q : List Stamp). IsClosedBy q (run_from p xs).outs) same (subst (IsClosedBy (entry_barriers xs)) (sym n.is) n.closed)

-- empty lists, each
empties : (ls : Lists) → AreEmpty ls → Each IsNothing ls
empties [] h = tt
empties (l ∷ ls) h = (h.0, empties ls h.1)

module _ {N P S : Type 0} (g : Ghosts N P S) where
  module _ (cells : List (CellParts N)) (ready : IsReady g cells) (quiet : AreQuiet cells) where
    quiet_at : (j : ℕ) (c : CellParts N) → slice_get cells j ≡ Some c → IsQuiet c
    quiet_at j c at = each-get IsQuiet cells j c at quiet

    kept_at : (j : ℕ) (c : CellParts N) → slice_get cells j ≡ Some c → Keeps g c
    kept_at j c at = each-get (Keeps g) cells j c at ready.keeps

    -- all that a cell gave out was sent
    pub sent_all : (j : ℕ) (c : CellParts N) (k : Keeps g c) (i : ℕ) (o : OutEdge) → slice_get cells j ≡ Some c → slice_get c.core.outs.items i ≡ Some o → sent o.tail ≡ given_out g c k
    sent_all j c k i o at here =
        let none : o.unsent ≡ [] = quiet-out c i o (quiet_at j c at) here in
        sym (append-nil (sent o.tail)) ∙ ap (λ (l : List Msg). sent o.tail ++ l) (sym none) ∙ sent-given g c k i o here

    -- all that was sent was received
    pub received_all : (j k : ℕ) (e : InEdge) → in_of cells j k ≡ Some e → (f : IsFed cells j k e) → received e.head ≡ sent f.out.tail
    received_all j k e at f =
        let c : CellOfIn cells j k e = cell-of_in cells j k e at in
        let none : known e.head ≡ [] = quiet-in c.cell k e (quiet_at j c.cell c.at) c.here in
        sym (append-nil (received e.head)) ∙ ap (λ (l : List Msg). received e.head ++ l) (sym none) ∙ settled_since f.out.tail e.head f.edge f.settled

    module _ (ss : List (List Msg)) (are : AreStreams (plans_of g cells) ss) where
      abbrev Whole : ℕ → Type 0
      Whole n = (j : ℕ) (c : CellParts N) (k : Keeps g c) → j < n → slice_get cells j ≡ Some c → given_out g c k ≡ get_or ss j []

      received-whole : (n j : ℕ) → j < suc n → Whole n → (k : ℕ) (e : InEdge) → in_of cells j k ≡ Some e → received e.head ≡ get_or ss e.from []
      received-whole n j lt whole k e at =
          let f : IsFed cells j k e = ready.wired.ins j k e at in
          let p : CellOfOut cells e.from e.out f.out = cell-of_out cells e.from e.out f.out f.at in
          let kp : Keeps g p.cell = kept_at e.from p.cell p.at in
          let before : e.from < j = f.before in
          received_all j k e at f ∙ sent_all e.from p.cell kp e.out f.out p.at p.here ∙ whole e.from p.cell kp (omega (arith, lt, before)) p.at

      heads-whole : (ins : List InEdge) → ((k : ℕ) (e : InEdge) → slice_get ins k ≡ Some e → received e.head ≡ get_or ss e.from []) → map (λ (i : InEdge). received i.head) ins ≡ streams_at ss (map (λ (e : InEdge). e.from) ins)
      heads-whole [] h = refl
      heads-whole (e ∷ ins) h =
          ap (λ (l : List Msg). l ∷ map (λ (i : InEdge). received i.head) ins) (h 0 e refl)
          ∙ ap (λ (ls : Lists). get_or ss e.from [] ∷ ls) (heads-whole ins (λ k x at. h (suc k) x at))

      lists-whole : (ins : List InEdge) (source : List Msg) → ((k : ℕ) (e : InEdge) → slice_get ins k ≡ Some e → received e.head ≡ get_or ss e.from []) → received_of ins source ≡ streams_into ss (map (λ (e : InEdge). e.from) ins) source
      lists-whole [] source h = refl
      lists-whole (e ∷ ins) source h = heads-whole (e ∷ ins) h

      handled-whole : (c : CellParts N) (k : Keeps g c) (s : List Msg) → (t : IsStream ss (plan_of g c) s) → received_of c.ins.items c.source.value.items ≡ streams_into ss (plan_of g c).parents c.source.value.items → k.handled ≡ t.merged
      handled-whole c k s t same =
          merges-same (subst (λ (ls : Lists). Merges ls k.handled c.buffer) same k.merged) k.stuck t.merges t.stuck

      given-whole : (c : CellParts N) (k : Keeps g c) (s : List Msg) → (t : IsStream ss (plan_of g c) s) → k.handled ≡ t.merged → given_out g c k ≡ s
      given-whole c k s t same = ap (λ (xs : List Entry). (run_from (plan_of g c) xs).outs) same ∙ sym t.is

      whole_all : (n : ℕ) → Whole n
      whole_all zero = λ j c k lt at. absurd (omega (arith, lt))
      whole_all (suc n) = λ j c k lt at.
          let b = beside (IsStream ss) (plans_of g cells) ss j (plan_of g c) (get-map (plan_of g) cells j c at) are in
          let z = lists-whole c.ins.items c.source.value.items (λ m e here. received-whole n j lt (whole_all n) m e (in-at cells j m c at ∙ here)) in
          given-whole c k b.other b.fact (handled-whole c k b.other b.fact z) ∙ sym (get-or ss j b.other [] b.at)

      -- what was received from each edge is the stream of its parent
      pub received_whole : (j k : ℕ) (e : InEdge) → in_of cells j k ≡ Some e → received e.head ≡ get_or ss e.from []
      received_whole j k e at = received-whole j j (omega arith) (whole_all j) k e at

      -- and so is what was sent
      pub sent_whole : (j i : ℕ) (o : OutEdge) → out_of cells j i ≡ Some o → sent o.tail ≡ get_or ss j []
      sent_whole j i o at =
          let p : CellOfOut cells j i o = cell-of_out cells j i o at in
          let k : Keeps g p.cell = kept_at j p.cell p.at in
          sent_all j p.cell k i o p.at p.here ∙ whole_all (suc j) j p.cell k (omega arith) p.at

      -- what each cell handled is its merged streams
      pub handled_whole : (j : ℕ) (c : CellParts N) (k : Keeps g c) → slice_get cells j ≡ Some c → (s : List Msg) (t : IsStream ss (plan_of g c) s) → k.handled ≡ t.merged
      handled_whole j c k at s t =
          handled-whole c k s t (lists-whole c.ins.items c.source.value.items (λ m e here. received_whole j m e (in-at cells j m c at ∙ here)))

    -- ---- buffers

    module _ (loaded : IsLoaded (plans_of g cells)) where
      -- what each cell below n gave out is closed by the barriers of the load
      abbrev ClosedBelow : ℕ → Type 0
      ClosedBelow n = (j : ℕ) (c : CellParts N) (k : Keeps g c) → j < n → slice_get cells j ≡ Some c → IsClosedBy loaded.barriers (given_out g c k)

      received-closed : (n j : ℕ) → j < suc n → ClosedBelow n → (k : ℕ) (e : InEdge) → in_of cells j k ≡ Some e → IsClosedBy loaded.barriers (received e.head)
      received-closed n j lt below k e at =
          let f : IsFed cells j k e = ready.wired.ins j k e at in
          let p : CellOfOut cells e.from e.out f.out = cell-of_out cells e.from e.out f.out f.at in
          let kp : Keeps g p.cell = kept_at e.from p.cell p.at in
          let before : e.from < j = f.before in
          subst (IsClosedBy loaded.barriers) (sym (received_all j k e at f ∙ sent_all e.from p.cell kp e.out f.out p.at p.here)) (below e.from p.cell kp (omega (arith, lt, before)) p.at)

      heads-closed : (ins : List InEdge) → ((k : ℕ) (e : InEdge) → slice_get ins k ≡ Some e → IsClosedBy loaded.barriers (received e.head)) → AllClosedBy loaded.barriers (map (λ (i : InEdge). received i.head) ins)
      heads-closed [] h = tt
      heads-closed (e ∷ ins) h = (h 0 e refl, heads-closed ins (λ k x at. h (suc k) x at))

      lists-closed : (ins : List InEdge) (source : List Msg) → IsClosedFor loaded.barriers (map (λ (e : InEdge). e.from) ins) source → ((k : ℕ) (e : InEdge) → slice_get ins k ≡ Some e → IsClosedBy loaded.barriers (received e.head)) → AllClosedBy loaded.barriers (received_of ins source) × (0 < length (received_of ins source))
      lists-closed [] source c h = ((c, tt), omega arith)
      lists-closed (e ∷ ins) source c h = (heads-closed (e ∷ ins) h, omega arith)

      merged_at : (n j : ℕ) (c : CellParts N) (k : Keeps g c) → j < suc n → ClosedBelow n → slice_get cells j ≡ Some c → ClosedMerge loaded.barriers k.handled c.buffer
      merged_at n j c k lt below at =
          let source = each-get (λ (p : Plan S). IsClosedFor loaded.barriers p.parents p.source) (plans_of g cells) j (plan_of g c) (get-map (plan_of g) cells j c at) loaded.closed in
          let l = lists-closed c.ins.items c.source.value.items source (λ m e here. received-closed n j lt below m e (in-at cells j m c at ∙ here)) in
          merged-closed loaded.barriers l.0 l.1 k.merged k.stuck

      closed_all : (n : ℕ) → ClosedBelow n
      closed_all zero = λ j c k lt at. absurd (omega (arith, lt))
      closed_all (suc n) = λ j c k lt at.
          let m = merged_at n j c k lt (closed_all n) at in
          stream-closed (plan_of g c) loaded.barriers k.handled m.barriers m.closed

      -- nothing is buffered
      pub buffers_empty : Each HasEmptyBuffers cells
      buffers_empty = each-of HasEmptyBuffers cells (λ j c at. empties c.buffer (merged_at j j c (kept_at j c at) (omega arith) (closed_all j) at).empty)

  -- at rest each edge has carried its stream
  pub carries_streams : (cells : List (CellParts N)) → IsReady g cells → AreQuiet cells → CarriesStreams g cells
  carries_streams cells ready quiet = record {
    received = λ ss are. received_whole cells ready quiet ss are;
    sent = λ ss are. sent_whole cells ready quiet ss are;
    stands = λ ss are j c at s t.
        let k : Keeps g c = each-get (Keeps g) cells j c at ready.keeps in
        subst (λ (xs : List Entry). IsAt g (g.spec c.base.value.node) (run_of g c.base.value xs) c.core) (handled_whole cells ready quiet ss are j c k at s t) k.at;
  }
