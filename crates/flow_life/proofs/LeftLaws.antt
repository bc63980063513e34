-- What is left is one less with each step that is made, and nothing at rest.
use Rattle.std.proofs.Common.{◌≡◌, ℕ, suc, ◌+◌, ◌-◌, ◌<◌, ◌≤◌, List, [], ◌∷◌, ◌++◌, map, length, get_or, Some, refl, sym, ap, subst, ◌∙◌, append_assoc, length-append, arith}
use Rattle.std.specs.Prelude.{slice_get}
use Rattle.std.specs.List.{AllByRecursion as Each, AllZip}
use mathlib.Core.List.{IsPrefix}
use Rattle.kap_base.specs.declared.items.Msg.{Msg}
use Rattle.node_core.specs.declared.node.Node.{Ghosts}
use Rattle.edge_queue.specs.Edges.{received, sent}
use Rattle.flow_cells.specs.declared.parts.OutEdge.{OutEdge}
use Rattle.flow_cells.specs.declared.parts.InEdge.{InEdge}
use Rattle.flow_cells.specs.declared.parts.CellParts.{CellParts}
use Rattle.flow_life.proofs.CountLaws.{behind, first, moves-twice}
use Rattle.flow_life.specs.GraphLaws.{life_graph, stays, stream-is, stream_of}
use Rattle.flow_life.specs.Graphs.{IsGraph, IsGraphFrom}
use Rattle.flow_life.specs.Left.{due, left_of, streams_behind}
use Rattle.flow_life.specs.Lives.{IsLife}
use Rattle.flow_life.proofs.PlaceLaws.{in-at, out-at}
use Rattle.flow_life.specs.Steps.{AreQuiet, moves_of, received_count, sent_count}
use Rattle.flow_life.proofs.StreamLaws.{carries_prefixes}
use Rattle.flow_life.specs.Streams.{AreStreams, CarriesPrefixes, IsStream, Plan, plans_of, stream_length}
use Rattle.flow_life.specs.Wired.{outs_of, parents_of, sum_by_out, sum_of, sum_of_all, times}

-- ---- the streams of a graph

module _ {S : Type 0} where
  -- they are its streams
  streams_are : (n : ℕ) (known : List (List Msg)) (plans : List (Plan S)) → length known ≡ n → IsGraphFrom n plans → AllZip (IsStream (known ++ streams_behind known plans)) plans (streams_behind known plans)
  streams_are n known [] len graph = tt
  streams_are n known (p ∷ ps) len graph =
      let s = stream_of known p in
      let later = streams_behind (known ++ s ∷ []) ps in
      let same : (known ++ s ∷ []) ++ later ≡ known ++ s ∷ later = append_assoc known (s ∷ []) later in (
        stays known (s ∷ later) p s (subst (λ (k : ℕ). Each (λ (q : ℕ). q < k) p.parents) (sym len) graph.0) (stream-is known p),
        subst (λ (l : List (List Msg)). AllZip (IsStream l) ps later) same (streams_are (suc n) (known ++ s ∷ []) ps (length-append known (s ∷ []) ∙ omega (arith, len)) graph.1),
      )

  pub graph-streams : (plans : List (Plan S)) → IsGraph plans → AreStreams plans (streams_behind [] plans)
  graph-streams plans graph = streams_are 0 [] plans refl graph

-- ---- no more is sent or received than is due

prefix-short : (xs ys : List Msg) → IsPrefix xs ys → length xs ≤ length ys
prefix-short xs ys p =
    let e : length ys ≡ length xs + length p.0 = ap length (sym p.1) ∙ length-append xs p.0 in
    omega (arith, e)

received-within : (ss : List (List Msg)) (ins : List InEdge) → ((k : ℕ) (e : InEdge) → slice_get ins k ≡ Some e → IsPrefix (received e.head) (get_or ss e.from [])) → received_count ins ≤ sum_of (stream_length ss) (map (λ (e : InEdge). e.from) ins)
received-within ss [] h = omega arith
received-within ss (e ∷ ins) h =
    let a : length (received e.head) ≤ stream_length ss e.from = prefix-short (received e.head) (get_or ss e.from []) (h 0 e refl) in
    let b : received_count ins ≤ sum_of (stream_length ss) (map (λ (x : InEdge). x.from) ins) = received-within ss ins (λ k x at. h (suc k) x at) in
    omega (arith, a, b)

sent-within : (n : ℕ) (outs : List OutEdge) → ((i : ℕ) (o : OutEdge) → slice_get outs i ≡ Some o → length (sent o.tail) ≤ n) → sent_count outs ≤ times n (length outs)
sent-within n [] h = omega arith
sent-within n (o ∷ outs) h =
    let a : length (sent o.tail) ≤ n = h 0 o refl in
    let b : sent_count outs ≤ times n (length outs) = sent-within n outs (λ i x at. h (suc i) x at) in
    omega (arith, a, b)

module _ {N : Type 0} where
  moves-within : (ss : List (List Msg)) (n : ℕ) (cells : List (CellParts N))
      → ((j k : ℕ) (c : CellParts N) (e : InEdge) → slice_get cells j ≡ Some c → slice_get c.ins.items k ≡ Some e → IsPrefix (received e.head) (get_or ss e.from []))
      → ((j i : ℕ) (c : CellParts N) (o : OutEdge) → slice_get cells j ≡ Some c → slice_get c.core.outs.items i ≡ Some o → length (sent o.tail) ≤ stream_length ss (n + j))
      → moves_of cells ≤ sum_of_all (stream_length ss) (parents_of cells) + sum_by_out (stream_length ss) n (outs_of cells)
  moves-within ss n [] r s = omega arith
  moves-within ss n (c ∷ cells) r s =
      let f = stream_length ss in
      let a : received_count c.ins.items ≤ sum_of f (map (λ (e : InEdge). e.from) c.ins.items) = received-within ss c.ins.items (λ k e at. r 0 k c e refl at) in
      let here : n + 0 ≡ n = omega arith in
      let b : sent_count c.core.outs.items ≤ times (f n) (length c.core.outs.items) = sent-within (f n) c.core.outs.items (λ i o at. subst (λ (m : ℕ). length (sent o.tail) ≤ f m) here (s 0 i c o refl at)) in
      let rest : moves_of cells ≤ sum_of_all f (parents_of cells) + sum_by_out f (suc n) (outs_of cells) = moves-within ss (suc n) cells (λ j k d e at h. r (suc j) k d e at h) (λ j i d o at h. subst (λ (m : ℕ). length (sent o.tail) ≤ f m) (behind n j) (s (suc j) i d o at h)) in
      omega (arith, a, b, rest)

module _ {N P S : Type 0} (g : Ghosts N P S) where
  parents-planned : (cells : List (CellParts N)) → map (λ (p : Plan S). p.parents) (plans_of g cells) ≡ parents_of cells
  parents-planned [] = refl
  parents-planned (c ∷ cells) = ap (λ (ls : List (List ℕ)). map (λ (e : InEdge). e.from) c.ins.items ∷ ls) (parents-planned cells)

  -- where the plans are the same, so are the parents
  pub parents-same : (cells cells' : List (CellParts N)) → plans_of g cells' ≡ plans_of g cells → parents_of cells' ≡ parents_of cells
  parents-same cells cells' e = sym (parents-planned cells') ∙ ap (map (λ (p : Plan S). p.parents)) e ∙ parents-planned cells

  due-is : (cells : List (CellParts N)) → due (plans_of g cells) ≡ sum_of_all (stream_length (streams_behind [] (plans_of g cells))) (parents_of cells) + sum_of_all (stream_length (streams_behind [] (plans_of g cells))) (parents_of cells)
  unfolding due
  due-is cells = ap (λ (ls : List (List ℕ)). sum_of_all (stream_length (streams_behind [] (plans_of g cells))) ls + sum_of_all (stream_length (streams_behind [] (plans_of g cells))) ls) (parents-planned cells)

  -- what was sent and received is no more than what is due
  within-due : (cells : List (CellParts N)) → IsLife g cells → moves_of cells ≤ due (plans_of g cells)
  within-due cells life =
      let ss = streams_behind [] (plans_of g cells) in
      let f = stream_length ss in
      let are = graph-streams (plans_of g cells) (life_graph g cells life) in
      let carries : CarriesPrefixes g cells = carries_prefixes g cells life.ready in
      let sum : moves_of cells ≤ sum_of_all f (parents_of cells) + sum_by_out f 0 (outs_of cells) = moves-within ss 0 cells
      (λ j k c e at here. carries.received ss are j k e (in-at cells j k c at ∙ here))
      (λ j i c o at here. subst (λ (m : ℕ). length (sent o.tail) ≤ f m) (first j) (prefix-short (sent o.tail) (get_or ss j []) (carries.sent ss are j i o (out-at cells j i c at ∙ here)))) in
      subst (λ (n : ℕ). moves_of cells ≤ n) (sym (due-is cells)) (subst (λ (n : ℕ). moves_of cells ≤ sum_of_all f (parents_of cells) + n) (sym (life.ready.wired.even f)) sum)

  left-is : (cells : List (CellParts N)) → left_of g cells ≡ due (plans_of g cells) - moves_of cells
  unfolding left_of
  left-is cells = refl

  -- as much is left where as much was sent and received
  pub left-same : (cells cells' : List (CellParts N)) → plans_of g cells' ≡ plans_of g cells → moves_of cells' ≡ moves_of cells → left_of g cells' ≡ left_of g cells
  left-same cells cells' plans moved =
      left-is cells' ∙ ap (λ (ps : List (Plan S)). due ps - moves_of cells') plans ∙ ap (λ (n : ℕ). due (plans_of g cells) - n) moved ∙ sym (left-is cells)

  -- so much less is left as more was sent and received
  pub left-moved : (cells cells' : List (CellParts N)) (n : ℕ) → IsLife g cells' → plans_of g cells' ≡ plans_of g cells → moves_of cells' ≡ moves_of cells + n → left_of g cells ≡ left_of g cells' + n
  left-moved cells cells' n life plans moved =
      let within : moves_of cells' ≤ due (plans_of g cells') = within-due cells' life in
      let same : due (plans_of g cells') ≡ due (plans_of g cells) = ap due plans in
      let a : left_of g cells ≡ due (plans_of g cells) - moves_of cells = left-is cells in
      let b : left_of g cells' ≡ due (plans_of g cells') - moves_of cells' = left-is cells' in
      omega (arith, within, same, a, b, moved)

  -- at rest nothing is left
  pub left-none : (cells : List (CellParts N)) → IsLife g cells → AreQuiet cells → left_of g cells ≡ 0
  left-none cells life quiet =
      let ss = streams_behind [] (plans_of g cells) in
      let twice : moves_of cells ≡ sum_of_all (stream_length ss) (parents_of cells) + sum_of_all (stream_length ss) (parents_of cells) = moves-twice g cells life.ready quiet ss (graph-streams (plans_of g cells) (life_graph g cells life)) in
      let all : due (plans_of g cells) ≡ sum_of_all (stream_length ss) (parents_of cells) + sum_of_all (stream_length ss) (parents_of cells) = due-is cells in
      let a : left_of g cells ≡ due (plans_of g cells) - moves_of cells = left-is cells in
      omega (arith, twice, all, a)
