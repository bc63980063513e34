-- Each step makes one list longer by one, and at rest each message of each stream was sent once and received once.
use Rattle.std.proofs.Common.{◌≡◌, ℕ, zero, suc, ◌+◌, List, [], ◌∷◌, ◌++◌, map, length, set, get_or, Some, refl, sym, ap, ◌∙◌, length-append, arith}
use Rattle.std.specs.Prelude.{slice_get}
use Rattle.std.specs.List.{AllZip}
use Rattle.kap_base.specs.declared.items.Msg.{Msg}
use Rattle.edge_queue.specs.Edges.{received, sent}
use Rattle.flow_cells.specs.declared.parts.OutEdge.{OutEdge}
use Rattle.flow_cells.specs.declared.parts.InEdge.{InEdge}
use Rattle.flow_cells.specs.declared.parts.CellParts.{CellParts}
use Rattle.flow_life.proofs.PlaceLaws.{found-same, in-at, out-at}
use Rattle.flow_life.proofs.ChangeLaws.{Calm}
use Rattle.flow_life.specs.Steps.{AreQuiet, moves_of, received_count, sent_count}
use Rattle.flow_life.specs.Streams.{AreStreams, plans_of, stream_length}
use Rattle.flow_life.proofs.RestLaws.{received_whole, sent_whole}
use Rattle.node_core.specs.declared.node.Node.{Ghosts}
use Rattle.flow_life.specs.Wired.{IsReady, sum_by_out, sum_of, sum_of_all, times, outs_of, parents_of}

-- one input received n messages more
pub received-set : (ins : List InEdge) (k n : ℕ) (a b : InEdge) → slice_get ins k ≡ Some a → length (received b.head) ≡ length (received a.head) + n → received_count (set ins k b) ≡ received_count ins + n
received-set [] k n a b at h = absurd cc
received-set (e ∷ ins) zero n a b at h =
    let s : length (received e.head) ≡ length (received a.head) = ap (λ (x : InEdge). length (received x.head)) (found-same (Some e) e a refl at) in
    omega (arith, h, s)
received-set (e ∷ ins) (suc k) n a b at h =
    let s : received_count (set ins k b) ≡ received_count ins + n = received-set ins k n a b at h in
    omega (arith, s)

-- n messages more were sent on one out
pub sent-set : (outs : List OutEdge) (k n : ℕ) (a b : OutEdge) → slice_get outs k ≡ Some a → length (sent b.tail) ≡ length (sent a.tail) + n → sent_count (set outs k b) ≡ sent_count outs + n
sent-set [] k n a b at h = absurd cc
sent-set (o ∷ outs) zero n a b at h =
    let s : length (sent o.tail) ≡ length (sent a.tail) = ap (λ (x : OutEdge). length (sent x.tail)) (found-same (Some o) o a refl at) in
    omega (arith, h, s)
sent-set (o ∷ outs) (suc k) n a b at h =
    let s : sent_count (set outs k b) ≡ sent_count outs + n = sent-set outs k n a b at h in
    omega (arith, s)

-- nothing was sent
pub sent-calm : (xs ys : List OutEdge) → AllZip Calm xs ys → sent_count ys ≡ sent_count xs
sent-calm [] [] z = refl
sent-calm [] (y ∷ ys) z = absurd z
sent-calm (x ∷ xs) [] z = absurd z
sent-calm (x ∷ xs) (y ∷ ys) z =
    let s : length (sent y.tail) ≡ length (sent x.tail) = ap length z.0.tail.sent in
    let t : sent_count ys ≡ sent_count xs = sent-calm xs ys z.1 in
    omega (arith, s, t)

-- a list with one message more is longer by one
pub one-more : (xs ys : List Msg) (m : Msg) → ys ≡ xs ++ m ∷ [] → length ys ≡ length xs + 1
one-more xs ys m e = ap length e ∙ length-append xs (m ∷ [])

module _ {N : Type 0} where
  -- one cell sent and received n messages more
  pub moves-set : (cells : List (CellParts N)) (j n : ℕ) (c d : CellParts N) → slice_get cells j ≡ Some c → received_count d.ins.items + sent_count d.core.outs.items ≡ received_count c.ins.items + sent_count c.core.outs.items + n → moves_of (set cells j d) ≡ moves_of cells + n
  moves-set [] j n c d at h = absurd cc
  moves-set (x ∷ cells) zero n c d at h =
      let s : received_count x.ins.items + sent_count x.core.outs.items ≡ received_count c.ins.items + sent_count c.core.outs.items = ap (λ (y : CellParts N). received_count y.ins.items + sent_count y.core.outs.items) (found-same (Some x) x c refl at) in
      omega (arith, h, s)
  moves-set (x ∷ cells) (suc j) n c d at h =
      let s : moves_of (set cells j d) ≡ moves_of cells + n = moves-set cells j n c d at h in
      omega (arith, s)

-- ---- at rest

received-sum : (ss : List (List Msg)) (ins : List InEdge) → ((k : ℕ) (e : InEdge) → slice_get ins k ≡ Some e → received e.head ≡ get_or ss e.from []) → received_count ins ≡ sum_of (stream_length ss) (map (λ (e : InEdge). e.from) ins)
received-sum ss [] h = refl
received-sum ss (e ∷ ins) h =
    let a : length (received e.head) ≡ stream_length ss e.from = ap length (h 0 e refl) in
    let b : received_count ins ≡ sum_of (stream_length ss) (map (λ (x : InEdge). x.from) ins) = received-sum ss ins (λ k x at. h (suc k) x at) in
    omega (arith, a, b)

sent-sum : (n : ℕ) (outs : List OutEdge) → ((i : ℕ) (o : OutEdge) → slice_get outs i ≡ Some o → length (sent o.tail) ≡ n) → sent_count outs ≡ times n (length outs)
sent-sum n [] h = refl
sent-sum n (o ∷ outs) h =
    let a : length (sent o.tail) ≡ n = h 0 o refl in
    let b : sent_count outs ≡ times n (length outs) = sent-sum n outs (λ i x at. h (suc i) x at) in
    omega (arith, a, b)

pub first : (j : ℕ) → j ≡ 0 + j
first j = omega arith

pub behind : (n j : ℕ) → n + suc j ≡ suc n + j
behind n j = omega arith

module _ {N : Type 0} where
  -- where each input received the stream of its parent, and each out sent that of its cell, so much was sent and received
  pub moves-sum : (ss : List (List Msg)) (n : ℕ) (cells : List (CellParts N))
      → ((j k : ℕ) (c : CellParts N) (e : InEdge) → slice_get cells j ≡ Some c → slice_get c.ins.items k ≡ Some e → received e.head ≡ get_or ss e.from [])
      → ((j i : ℕ) (c : CellParts N) (o : OutEdge) → slice_get cells j ≡ Some c → slice_get c.core.outs.items i ≡ Some o → length (sent o.tail) ≡ stream_length ss (n + j))
      → moves_of cells ≡ sum_of_all (stream_length ss) (parents_of cells) + sum_by_out (stream_length ss) n (outs_of cells)
  moves-sum ss n [] r s = refl
  moves-sum ss n (c ∷ cells) r s =
      let f = stream_length ss in
      let a : received_count c.ins.items ≡ sum_of f (map (λ (e : InEdge). e.from) c.ins.items) = received-sum ss c.ins.items (λ k e at. r 0 k c e refl at) in
      let here : n + 0 ≡ n = omega arith in
      let b : sent_count c.core.outs.items ≡ times (f n) (length c.core.outs.items) = sent-sum (f n) c.core.outs.items (λ i o at. s 0 i c o refl at ∙ ap f here) in
      let rest : moves_of cells ≡ sum_of_all f (parents_of cells) + sum_by_out f (suc n) (outs_of cells) = moves-sum ss (suc n) cells (λ j k d e at h. r (suc j) k d e at h) (λ j i d o at h. s (suc j) i d o at h ∙ ap f (behind n j)) in
      omega (arith, a, b, rest)

module _ {N P S : Type 0} (g : Ghosts N P S) where
  -- at rest what was sent and received is twice the length of the streams of all edges
  pub moves-twice : (cells : List (CellParts N)) → IsReady g cells → AreQuiet cells → (ss : List (List Msg)) → AreStreams (plans_of g cells) ss → moves_of cells ≡ sum_of_all (stream_length ss) (parents_of cells) + sum_of_all (stream_length ss) (parents_of cells)
  moves-twice cells r quiet ss are =
      let f = stream_length ss in
      let sum : moves_of cells ≡ sum_of_all f (parents_of cells) + sum_by_out f 0 (outs_of cells) = moves-sum ss 0 cells
      (λ j k c e at here. received_whole g cells r quiet ss are j k e (in-at cells j k c at ∙ here))
      (λ j i c o at here. ap length (sent_whole g cells r quiet ss are j i o (out-at cells j i c at ∙ here)) ∙ ap f (first j)) in
      sum ∙ ap (λ (n : ℕ). sum_of_all f (parents_of cells) + n) (sym (r.wired.even f))
