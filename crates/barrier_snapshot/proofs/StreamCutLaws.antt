-- The streams of a graph are cut at a barrier, and what is behind it are the streams of the same nodes that go on from there.
use Rattle.std.proofs.Common.{◌≡◌, ℕ, zero, suc, ◌+◌, ◌<◌, ◌≤◌, List, [], ◌∷◌, ◌++◌, length, get_or, Some, refl, sym, ap, subst, ◌∙◌, arith}
use Rattle.std.specs.Prelude.{slice_get}
use Rattle.std.specs.List.{AllByRecursion as Each, AllZip}
use Rattle.kap_base.specs.declared.items.Msg.{Msg}
use Rattle.kap_base.specs.declared.items.Stamp.{Stamp}
use Rattle.node_core.specs.Meaning.{Input, Move}
use Rattle.merge_node.specs.Merge.{AreOrdered, Entry, IsClosedBy, Lists, RisesFrom}
use Rattle.merge_node.specs.Buffers.{Merges}
use Rattle.merge_node.proofs.ClosingLaws.{EntriesClosed, entry_barriers}
use Rattle.flow_cells.specs.HandledLaws.{run-append}
use Rattle.flow_cells.specs.Runs.{Run, begun, run}
use Rattle.flow_life.specs.Graphs.{IsGraph, IsGraphFrom}
use Rattle.flow_life.proofs.PlaceLaws.{found-same, get-within}
use Rattle.flow_life.proofs.RestLaws.{stream-closed}
use Rattle.flow_life.proofs.StreamLaws.{beside, get-or}
use Rattle.flow_life.specs.Streams.{AreStreams, IsStream, Plan, run_from, streams_at, streams_into}
use Rattle.barrier_snapshot.proofs.GoingOnLaws.{effects-on, outs-on, state-on}
use Rattle.barrier_snapshot.proofs.MergeCutLaws.{IsCut, MergedCut, merged_cut}

-- an element at a place within a list
record SomeAt {A : Type 0} (xs : List A) (i : ℕ) : Type 0 where
  x : A
  at : slice_get xs i ≡ Some x

some-at : {A : Type 0} (xs : List A) (i : ℕ) → i < length xs → SomeAt xs i
some-at [] i lt = absurd (omega arith)
some-at (x ∷ xs) zero lt = record { x = x; at = refl }
some-at (x ∷ xs) (suc i) lt = let r = some-at xs i (omega (arith, lt)) in record { x = r.x; at = r.at }

each-less : (n m : ℕ) (xs : List ℕ) → n ≤ m → Each (λ (x : ℕ). x < n) xs → Each (λ (x : ℕ). x < m) xs
each-less n m [] le h = tt
each-less n m (x ∷ xs) le h = let lt : x < n = h.0 in (omega (arith, le, lt), each-less n m xs le h.1)

into-source : (ss : List (List Msg)) (parents : List ℕ) (a b : List Msg) → (parents ≡ [] → a ≡ b) → streams_into ss parents a ≡ streams_into ss parents b
into-source ss [] a b h = ap (λ (l : List Msg). l ∷ []) (h refl)
into-source ss (p ∷ parents) a b h = refl

some-into : (ss : List (List Msg)) (parents : List ℕ) (source : List Msg) → 0 < length (streams_into ss parents source)
some-into ss [] source = omega arith
some-into ss (p ∷ parents) source = omega arith

module _ {S : Type 0} where
  graph-at : (n : ℕ) (ps : List (Plan S)) (j : ℕ) (p : Plan S) → IsGraphFrom n ps → slice_get ps j ≡ Some p → Each (λ (r : ℕ). r < n + j) p.parents
  graph-at n [] j p graph at = absurd cc
  graph-at n (p0 ∷ ps) zero p graph at =
      each-less n (n + 0) p.parents (omega arith) (subst (λ (q : Plan S). Each (λ (r : ℕ). r < n) q.parents) (found-same (Some p0) p0 p refl at) graph.0)
  graph-at n (p0 ∷ ps) (suc j) p graph at = each-less (suc n + j) (n + suc j) p.parents (omega arith) (graph-at (suc n) ps j p graph.1 at)

  module _ (bs cs : List Stamp) (whole behind : List Msg) where
    -- the node of one plan goes on from where that of another one was behind the first barriers
    pub record Resumes (ss : List (List Msg)) (p q : Plan S) : Type 0 where
      pub step : q.step ≡ p.step
      pub parents : q.parents ≡ p.parents
      pub source : p.parents ≡ [] → p.source ≡ whole
      pub source_behind : q.parents ≡ [] → q.source ≡ behind
      pub start : (stream : List Msg) (t : IsStream ss p stream) (xs ys : List Entry) → t.merged ≡ xs ++ ys → entry_barriers xs ≡ bs → EntriesClosed xs → entry_barriers ys ≡ cs
          → q.start ≡ (run_from p xs).state
      pub rises : (xs : List Entry) → AreOrdered xs → RisesFrom 0 (run_from p xs).outs

    -- the run of the one is its run up to the barriers, and then that of the other
    pub record NodeCut (p q : Plan S) (ms ns : List Entry) : Type 0 where
      pub cut : MergedCut bs cs ms ns
      pub start : q.start ≡ (run_from p cut.front).state
      pub state : (run_from q ns).state ≡ (run_from p ms).state
      pub effects : (run_from p ms).effects ≡ (run_from p cut.front).effects ++ (run_from q ns).effects
      pub outs : (run_from p ms).outs ≡ (run_from p cut.front).outs ++ (run_from q ns).outs

    run-cut : (p q : Plan S) (ms ns : List Entry) → q.step ≡ p.step → (cut : MergedCut bs cs ms ns) → q.start ≡ (run_from p cut.front).state → NodeCut p q ms ns
    run-cut p q ms ns step cut start =
        let r = run_from p cut.front in
        let split : run_from p ms ≡ run p.step r ns = ap (run_from p) cut.is ∙ run-append p.step (begun p.start p.passed) cut.front ns in
        let here : run p.step (begun r.state q.passed) ns ≡ run_from q ns =
        ap (λ (t : S). run p.step (begun t q.passed) ns) (sym start) ∙ ap (λ (f : S → Input → Move S). run f (begun q.start q.passed) ns) (sym step) in
        record {
          cut = cut;
          start = start;
          state = sym (ap (λ (x : Run S). x.state) split ∙ state-on p.step r q.passed ns ∙ ap (λ (x : Run S). x.state) here);
          effects = ap (λ (x : Run S). x.effects) split ∙ effects-on p.step r q.passed ns ∙ ap (λ (x : Run S). r.effects ++ x.effects) here;
          outs = ap (λ (x : Run S). x.outs) split ∙ outs-on p.step r q.passed ns ∙ ap (λ (x : Run S). r.outs ++ x.outs) here;
        }

    module _ (source : IsCut bs cs whole behind) (ss rs : List (List Msg)) (ps qs : List (Plan S)) (are : AreStreams ps ss) (rest : AreStreams qs rs) (graph : IsGraph ps) (same : length qs ≡ length ps)
        (resumes : (j : ℕ) (p q : Plan S) → slice_get ps j ≡ Some p → slice_get qs j ≡ Some q → Resumes ss p q) where
      -- the streams of the nodes before this one are cut
      abbrev CutBelow : ℕ → Type 0
      CutBelow n = (j : ℕ) → j < n → j < length ps → IsCut bs cs (get_or ss j []) (get_or rs j [])

      parents-cut : (j : ℕ) → j < length ps → CutBelow j → (parents : List ℕ) → Each (λ (r : ℕ). r < j) parents → AllZip (IsCut bs cs) (streams_at ss parents) (streams_at rs parents)
      parents-cut j lt below [] h = tt
      parents-cut j lt below (r ∷ parents) h = let first : r < j = h.0 in (below r first (omega (arith, lt, first)), parents-cut j lt below parents h.1)

      into-cut : (j : ℕ) → j < length ps → CutBelow j → (parents : List ℕ) → Each (λ (r : ℕ). r < j) parents → AllZip (IsCut bs cs) (streams_into ss parents whole) (streams_into rs parents behind)
      into-cut j lt below [] h = (source, tt)
      into-cut j lt below (r ∷ parents) h = parents-cut j lt below (r ∷ parents) h

      node-cut : (j : ℕ) (p q : Plan S) → slice_get ps j ≡ Some p → slice_get qs j ≡ Some q → CutBelow j → (s r : List Msg) (t : IsStream ss p s) (u : IsStream rs q r) → NodeCut p q t.merged u.merged
      node-cut j p q at at' below s r t u =
          let h : Resumes ss p q = resumes j p q at at' in
          let early : Each (λ (k : ℕ). k < j) p.parents = each-less (0 + j) j p.parents (omega arith) (graph-at 0 ps j p graph at) in
          let lists : streams_into ss p.parents p.source ≡ streams_into ss p.parents whole = into-source ss p.parents p.source whole h.source in
          let lists' : streams_into rs q.parents q.source ≡ streams_into rs p.parents behind =
          into-source rs q.parents q.source behind h.source_behind ∙ ap (λ (ks : List ℕ). streams_into rs ks behind) h.parents in
          let cut : MergedCut bs cs t.merged u.merged =
          merged_cut bs cs (streams_into ss p.parents whole) (streams_into rs p.parents behind) t.merged u.merged t.rest u.rest
          (into-cut j (get-within ps j p at) below p.parents early) (some-into ss p.parents whole)
          (subst (λ (ls : Lists). Merges ls t.merged t.rest) lists t.merges) t.stuck
          (subst (λ (ls : Lists). Merges ls u.merged u.rest) lists' u.merges) u.stuck in
          run-cut p q t.merged u.merged h.step cut (h.start s t cut.front u.merged cut.is cut.front_barriers cut.front_closed cut.rest_barriers)

      stream-cut : (p q : Plan S) (s r : List Msg) (t : IsStream ss p s) (u : IsStream rs q r) → Resumes ss p q → NodeCut p q t.merged u.merged → IsCut bs cs s r
      stream-cut p q s r t u h n = record {
        front = (run_from p n.cut.front).outs;
        is = t.is ∙ n.outs ∙ ap (λ (l : List Msg). (run_from p n.cut.front).outs ++ l) (sym u.is);
        closed = stream-closed p bs n.cut.front n.cut.front_barriers n.cut.front_closed;
        rest = subst (IsClosedBy cs) (sym u.is) (stream-closed q cs u.merged n.cut.rest_barriers n.cut.rest_closed);
        rises = subst (RisesFrom 0) (sym t.is) (h.rises t.merged n.cut.ordered);
      }

      cut-below : (n : ℕ) → CutBelow n
      cut-below zero = λ j lt within. absurd (omega (arith, lt))
      cut-below (suc n) = λ j lt within.
          let p = some-at ps j within in
          let q = some-at qs j (omega (arith, same, within)) in
          let s = beside (IsStream ss) ps ss j p.x p.at are in
          let r = beside (IsStream rs) qs rs j q.x q.at rest in
          let before : CutBelow j = λ i low inside. cut-below n i (omega (arith, low, lt)) inside in
          let c : IsCut bs cs s.other r.other = stream-cut p.x q.x s.other r.other s.fact r.fact (resumes j p.x q.x p.at q.at) (node-cut j p.x q.x p.at q.at before s.other r.other s.fact r.fact) in
          subst (λ (l : List Msg). IsCut bs cs l (get_or rs j [])) (sym (get-or ss j s.other [] s.at))
          (subst (λ (l : List Msg). IsCut bs cs s.other l) (sym (get-or rs j r.other [] r.at)) c)

      -- each stream is cut
      pub streams_cut : (j : ℕ) → j < length ps → IsCut bs cs (get_or ss j []) (get_or rs j [])
      streams_cut j lt = cut-below (suc j) j (omega arith) lt

      -- and so is the run of each node
      pub nodes_cut : (j : ℕ) (p q : Plan S) → slice_get ps j ≡ Some p → slice_get qs j ≡ Some q → (s r : List Msg) (t : IsStream ss p s) (u : IsStream rs q r) → NodeCut p q t.merged u.merged
      nodes_cut j p q at at' s r t u = node-cut j p q at at' (cut-below j) s r t u
