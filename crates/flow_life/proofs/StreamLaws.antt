-- What each edge has carried is a prefix of the stream of its parent, and at rest the whole.
use Rattle.std.proofs.Common.{◌≡◌, ℕ, zero, suc, ◌<◌, List, [], ◌∷◌, ◌++◌, map, get_or, Some, refl, sym, ap, subst, ◌∙◌, append-nil, append_assoc, arith}
use Rattle.std.specs.Prelude.{slice_get}
use Rattle.std.specs.List.{AllZip}
use mathlib.Core.List.{IsPrefix}
use Rattle.kap_base.specs.declared.items.Msg.{Msg}
use Rattle.kap_base.specs.declared.items.Msg.TheVariants as messages
use Rattle.node_core.specs.declared.node.Node.{Ghosts}
use Rattle.node_core.specs.Meaning.{Input, Move}
use Rattle.merge_node.specs.Merge.{Entry, Lists}
use Rattle.merge_node.specs.Buffers.{Merges}
use Rattle.merge_node.proofs.BufferLaws.{Ahead, join, merges-ahead, merges-join}
use Rattle.edge_queue.specs.Edges.{known, received, sent}
use Rattle.edge_queue.proofs.EdgeLaws.{settled_since}
use Rattle.flow_cells.specs.declared.parts.OutEdge.{OutEdge}
use Rattle.flow_cells.specs.declared.parts.InEdge.{InEdge}
use Rattle.flow_cells.specs.declared.parts.CellParts.{CellParts}
use Rattle.flow_cells.specs.Outs.{item_msgs}
use Rattle.flow_cells.specs.Runs.{Run, begun, reacted, run}
use Rattle.flow_cells.specs.HandledLaws.{run-append}
use Rattle.flow_cells.specs.Kept.{IsGiven, Keeps, received_of, run_of}
use Rattle.flow_life.specs.Places.{in_of, out_of}
use Rattle.flow_life.proofs.PlaceLaws.{CellOfOut, cell-of_out, each-get, found-same, in-at}
use Rattle.flow_life.specs.Streams.{AreStreams, CarriesPrefixes, IsStream, Plan, plan_of, plans_of, run_from, streams_at, streams_into}
use Rattle.flow_life.specs.Wired.{IsFed, IsReady}

-- ---- prefixes

pub prefix-refl : {A : Type 0} (a : List A) → IsPrefix a a
prefix-refl a = ([], append-nil a)

pub prefix-trans : {A : Type 0} (a b c : List A) → IsPrefix a b → IsPrefix b c → IsPrefix a c
prefix-trans a b c p q = (p.0 ++ q.0, sym (append_assoc a p.0 q.0) ∙ ap (λ l. l ++ q.0) p.1 ∙ q.1)

module _ {S : Type 0} (step : S → Input → Move S) where
  reacted-outs : (r : Run S) (k : ℕ) (m : Msg) → IsPrefix r.outs (reacted step r k m).outs
  reacted-outs r k (messages.Item x) = (item_msgs (step r.state (k, x)).given.items, refl)
  reacted-outs r k (messages.Barrier b) = (messages.Barrier b ∷ [], refl)

  -- what was given out stays
  pub run-outs : (r : Run S) (xs : List Entry) → IsPrefix r.outs (run step r xs).outs
  run-outs r [] = prefix-refl r.outs
  run-outs r (x ∷ xs) = prefix-trans r.outs (reacted step r x.0 x.1).outs (run step (reacted step r x.0 x.1) xs).outs (reacted-outs r x.0 x.1) (run-outs (reacted step r x.0 x.1) xs)

module _ {S : Type 0} where
  -- a longer merged list gives out more
  run-longer : (p : Plan S) (xs ys : List Entry) → IsPrefix (run_from p xs).outs (run_from p (xs ++ ys)).outs
  run-longer p xs ys = subst (λ (r : Run S). IsPrefix (run_from p xs).outs r.outs) (sym (run-append p.step (begun p.start p.passed) xs ys)) (run-outs p.step (run_from p xs) ys)

-- lists that go on from others
record Longer (ls full : Lists) : Type 0 where
  more : Lists
  is : join ls more ≡ full

longer-of : (ls full : Lists) → AllZip IsPrefix ls full → Longer ls full
longer-of [] [] z = record { more = []; is = refl }
longer-of [] (f ∷ fs) z = absurd z
longer-of (l ∷ ls) [] z = absurd z
longer-of (l ∷ ls) (f ∷ fs) z =
    let r = longer-of ls fs z.1 in
    record { more = z.0.0 ∷ r.more; is = ap (λ (x : List Msg). x ∷ join ls r.more) z.0.1 ∙ ap (λ (x : Lists). f ∷ x) r.is }

-- a related one of another list
pub record Beside {A B : Type 0} (R : A → B → Type 0) (ys : List B) (i : ℕ) (x : A) : Type 0 where
  pub other : B
  pub at : slice_get ys i ≡ Some other
  pub fact : R x other

pub beside : {A B : Type 0} (R : A → B → Type 0) (xs : List A) (ys : List B) (i : ℕ) (x : A) → slice_get xs i ≡ Some x → AllZip R xs ys → Beside R ys i x
beside R [] ys i x e z = absurd cc
beside R (w ∷ xs) [] i x e z = absurd z
beside R (w ∷ xs) (y ∷ ys) zero x e z = record { other = y; at = refl; fact = subst (λ a. R a y) (found-same (Some w) w x refl e) z.0 }
beside R (w ∷ xs) (y ∷ ys) (suc i) x e z = let b = beside R xs ys i x e z.1 in record { other = b.other; at = b.at; fact = b.fact }

pub get-or : {A : Type 0} (xs : List A) (i : ℕ) (x d : A) → slice_get xs i ≡ Some x → get_or xs i d ≡ x
get-or [] i x d e = absurd cc
get-or (y ∷ xs) zero x d e = found-same (Some y) y x refl e
get-or (y ∷ xs) (suc i) x d e = get-or xs i x d e

pub get-map : {A B : Type 0} (f : A → B) (xs : List A) (i : ℕ) (x : A) → slice_get xs i ≡ Some x → slice_get (map f xs) i ≡ Some (f x)
get-map f [] i x e = absurd cc
get-map f (y ∷ xs) zero x e = ap (λ z. Some (f z)) (found-same (Some y) y x refl e)
get-map f (y ∷ xs) (suc i) x e = get-map f xs i x e

module _ {N P S : Type 0} (g : Ghosts N P S) where
  -- what a cell gave out
  abbrev pub given_out : (c : CellParts N) → Keeps g c → List Msg
  given_out c k = (run_of g c.base.value k.handled).outs

  -- what was sent on an out, and waits there, is what the cell gave out
  pub sent-given : (c : CellParts N) (k : Keeps g c) (i : ℕ) (o : OutEdge) → slice_get c.core.outs.items i ≡ Some o → sent o.tail ++ o.unsent ≡ given_out c k
  sent-given c k i o at = each-get (IsGiven (run_of g c.base.value k.handled).outs) c.core.outs.items i o at k.at.outs

  module _ (cells : List (CellParts N)) (ready : IsReady g cells) (ss : List (List Msg)) (are : AreStreams (plans_of g cells) ss) where
    stream_at : (j : ℕ) (c : CellParts N) → slice_get cells j ≡ Some c → Beside (IsStream ss) ss j (plan_of g c)
    stream_at j c at = beside (IsStream ss) (plans_of g cells) ss j (plan_of g c) (get-map (plan_of g) cells j c at) are

    keeps_at : (j : ℕ) (c : CellParts N) → slice_get cells j ≡ Some c → Keeps g c
    keeps_at j c at = each-get (Keeps g) cells j c at ready.keeps

    -- what each cell below n gave out is a prefix of its stream
    abbrev Below : ℕ → Type 0
    Below n = (j : ℕ) (c : CellParts N) (k : Keeps g c) → j < n → slice_get cells j ≡ Some c → IsPrefix (given_out c k) (get_or ss j [])

    received-prefix : (n j : ℕ) → j < suc n → Below n → (k : ℕ) (e : InEdge) → in_of cells j k ≡ Some e → IsPrefix (received e.head) (get_or ss e.from [])
    received-prefix n j lt below k e at =
        let f : IsFed cells j k e = ready.wired.ins j k e at in
        let p : CellOfOut cells e.from e.out f.out = cell-of_out cells e.from e.out f.out f.at in
        let kp : Keeps g p.cell = keeps_at e.from p.cell p.at in
        let before : e.from < j = f.before in
        let a : IsPrefix (received e.head) (sent f.out.tail) = (known e.head, settled_since f.out.tail e.head f.edge f.settled) in
        let b : IsPrefix (sent f.out.tail) (given_out p.cell kp) = (f.out.unsent, sent-given p.cell kp e.out f.out p.here) in
        prefix-trans (received e.head) (sent f.out.tail) (get_or ss e.from []) a
        (prefix-trans (sent f.out.tail) (given_out p.cell kp) (get_or ss e.from []) b (below e.from p.cell kp (omega (arith, lt, before)) p.at))

    heads-prefix : (ins : List InEdge) → ((k : ℕ) (e : InEdge) → slice_get ins k ≡ Some e → IsPrefix (received e.head) (get_or ss e.from [])) → AllZip IsPrefix (map (λ (i : InEdge). received i.head) ins) (streams_at ss (map (λ (e : InEdge). e.from) ins))
    heads-prefix [] h = tt
    heads-prefix (e ∷ ins) h = (h 0 e refl, heads-prefix ins (λ k x at. h (suc k) x at))

    lists-prefix : (ins : List InEdge) (source : List Msg) → ((k : ℕ) (e : InEdge) → slice_get ins k ≡ Some e → IsPrefix (received e.head) (get_or ss e.from [])) → AllZip IsPrefix (received_of ins source) (streams_into ss (map (λ (e : InEdge). e.from) ins) source)
    lists-prefix [] source h = (prefix-refl source, tt)
    lists-prefix (e ∷ ins) source h = heads-prefix (e ∷ ins) h

    -- what was handled is the beginning of the merged streams
    handled-ahead : (c : CellParts N) (k : Keeps g c) (s : List Msg) → (t : IsStream ss (plan_of g c) s) → AllZip IsPrefix (received_of c.ins.items c.source.value.items) (streams_into ss (plan_of g c).parents c.source.value.items) → IsPrefix k.handled t.merged
    handled-ahead c k s t z =
        let l = longer-of (received_of c.ins.items c.source.value.items) (streams_into ss (plan_of g c).parents c.source.value.items) z in
        let full : Merges (streams_into ss (plan_of g c).parents c.source.value.items) k.handled (join c.buffer l.more) = subst (λ (x : Lists). Merges x k.handled (join c.buffer l.more)) l.is (merges-join l.more k.merged) in
        let a : Ahead (join c.buffer l.more) t.rest k.handled t.merged = merges-ahead full t.merges t.stuck in
        (a.later, sym a.whole)

    given-prefix : (c : CellParts N) (k : Keeps g c) (s : List Msg) → (t : IsStream ss (plan_of g c) s) → IsPrefix k.handled t.merged → IsPrefix (given_out c k) s
    given-prefix c k s t p =
        subst (IsPrefix (run_from (plan_of g c) k.handled).outs) (ap (λ (xs : List Entry). (run_from (plan_of g c) xs).outs) p.1 ∙ sym t.is) (run-longer (plan_of g c) k.handled p.0)

    below_all : (n : ℕ) → Below n
    below_all zero = λ j c k lt at. absurd (omega (arith, lt))
    below_all (suc n) = λ j c k lt at.
        let b = stream_at j c at in
        let z = lists-prefix c.ins.items c.source.value.items (λ m e here. received-prefix n j lt (below_all n) m e (in-at cells j m c at ∙ here)) in
        subst (IsPrefix (given_out c k)) (sym (get-or ss j b.other [] b.at)) (given-prefix c k b.other b.fact (handled-ahead c k b.other b.fact z))

    -- what was received from each edge is a prefix of the stream of its parent
    pub received_prefix : (j k : ℕ) (e : InEdge) → in_of cells j k ≡ Some e → IsPrefix (received e.head) (get_or ss e.from [])
    received_prefix j k e at = received-prefix j j (omega arith) (below_all j) k e at

    -- and so is what was sent
    pub sent_prefix : (j i : ℕ) (o : OutEdge) → out_of cells j i ≡ Some o → IsPrefix (sent o.tail) (get_or ss j [])
    sent_prefix j i o at =
        let p : CellOfOut cells j i o = cell-of_out cells j i o at in
        let k : Keeps g p.cell = keeps_at j p.cell p.at in
        prefix-trans (sent o.tail) (given_out p.cell k) (get_or ss j []) (o.unsent, sent-given p.cell k i o p.here) (below_all (suc j) j p.cell k (omega arith) p.at)

    -- what a cell handled is the beginning of its merged streams
    pub handled_prefix : (j : ℕ) (c : CellParts N) (k : Keeps g c) → slice_get cells j ≡ Some c → (s : List Msg) (t : IsStream ss (plan_of g c) s) → IsPrefix k.handled t.merged
    handled_prefix j c k at s t =
        handled-ahead c k s t (lists-prefix c.ins.items c.source.value.items (λ m e here. received_prefix j m e (in-at cells j m c at ∙ here)))

  -- whatever was played, what each edge has carried is a prefix of its stream
  pub carries_prefixes : (cells : List (CellParts N)) → IsReady g cells → CarriesPrefixes g cells
  carries_prefixes cells ready = record {
    received = λ ss are. received_prefix cells ready ss are;
    sent = λ ss are. sent_prefix cells ready ss are;
    stands = λ ss are j c at s t.
        let k : Keeps g c = each-get (Keeps g) cells j c at ready.keeps in
        record { handled = k.handled; prefix = handled_prefix cells ready ss are j c k at s t; at = k.at };
  }
