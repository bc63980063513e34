-- Behind which barrier lives stand, and that inputs make the states of their nodes.
use Rattle.std.proofs.Common.{◌≡◌, ℕ, true, ◌<◌, List, [], ◌∷◌, ◌++◌, map, Some, refl, sym, ap, subst, ◌∙◌, append-nil, arith}
use Rattle.std.specs.Prelude.{slice_get}
use Rattle.std.specs.List.{AllByRecursion as Each}
use mathlib.Core.List.{IsPrefix}
use Rattle.kap_base.specs.declared.items.Msg.{Msg}
use Rattle.kap_base.specs.declared.items.Msg.TheVariants as messages
use Rattle.kap_base.specs.declared.items.Stamp.{Stamp}
use Rattle.node_core.specs.declared.node.Node.{Ghosts}
use Rattle.node_core.specs.Cut.{IsStamped}
use Rattle.node_core.specs.Meaning.{Input, Move, fold, given}
use Rattle.merge_node.proofs.BufferLaws.{merges-same}
use Rattle.merge_node.proofs.ClosingLaws.{EntriesClosed, entry_barriers}
use Rattle.merge_node.specs.Merge.{Entry, IsClosedBy, RisesFrom}
use Rattle.flow_cells.specs.declared.parts.CellParts.{CellParts}
use Rattle.flow_cells.specs.HandledLaws.{run-append}
use Rattle.flow_cells.specs.Kept.{Keeps}
use Rattle.flow_cells.specs.Runs.{Run, run}
use Rattle.flow_life.specs.GraphLaws.{graph_streams, life_graph}
use Rattle.flow_life.specs.Lives.{IsLife}
use Rattle.flow_life.specs.Loads.{plan_now}
use Rattle.flow_life.specs.Making.{IsClean, nodes_of, passed_of}
use Rattle.flow_life.specs.Nodes.{specs_of}
use Rattle.flow_life.proofs.PlaceLaws.{each-get, each-of, found-same}
use Rattle.flow_life.proofs.RestLaws.{carries_streams}
use Rattle.flow_life.specs.Steps.{AreQuiet}
use Rattle.flow_life.proofs.StreamLaws.{beside, get-map, handled_prefix}
use Rattle.flow_life.specs.Streams.{IsStream, Plan, StandsAt, plan_of, plans_of, run_from}
use Rattle.flow_core.specs.Making.{AreLivesOf, IsLifeBehind}
use Rattle.flow_core.specs.Nets.{NumberedLife}
use Rattle.task_run.specs.Plans.{AreFirstNodes, AreFirstStates, PlanValue}
use Rattle.barrier_snapshot.specs.Barriers.{WasAt}
use Rattle.barrier_snapshot.specs.Resuming.{HasReached, IsReached, StandsBehind}
use Rattle.barrier_snapshot.proofs.CutLaws.{NoneIs, end_with, no_entries}
use Rattle.barrier_snapshot.proofs.MergeCutLaws.{IsCut}
use Rattle.barrier_snapshot.proofs.PlaceLaws.{made_of, other_at, same_at}
use Rattle.barrier_snapshot.proofs.ReachedLaws.{IsPlanReached, plan_rises, reached_run}
use Rattle.barrier_snapshot.proofs.ResumeLaws.{one-cut, own-source, stood}
use Rattle.barrier_snapshot.proofs.StreamCutLaws.{NodeCut, Resumes, nodes_cut}

-- behind a barrier a run has passed it
run-passed : {S : Type 0} (step : S → Input → Move S) (r : Run S) (front : List Entry) (k : ℕ) (u : Stamp) → (run step r (front ++ (k, messages.Barrier u) ∷ [])).passed ≡ u
run-passed step r front k u = ap (λ (q : Run _). q.passed) (run-append step r front ((k, messages.Barrier u) ∷ []))

-- and no item came since
run-clean : {S : Type 0} (step : S → Input → Move S) (r : Run S) (front : List Entry) (k : ℕ) (u : Stamp) → (run step r (front ++ (k, messages.Barrier u) ∷ [])).clean ≡ true
run-clean step r front k u = ap (λ (q : Run _). q.clean) (run-append step r front ((k, messages.Barrier u) ∷ []))

module _ {N P S : Type 0} (g : Ghosts N P S) where
  -- ---- lives that are made

  first-reached : (cells : List (CellParts N)) → AreFirstNodes g.spec g.state g.first (nodes_of cells) → Each (HasReached g) cells
  first-reached [] first = tt
  first-reached (c ∷ cells) first = (record { inputs = []; is = first.0 }, first-reached cells first.1)

  -- a life of a plan in first states stands behind the stamp with which it began
  pub begun_stands : (stamp : ℕ) (plan : PlanValue N) (l : NumberedLife N) → IsLifeBehind g stamp plan l → AreFirstNodes g.spec g.state g.first plan.nodes → StandsBehind g stamp l
  begun_stands stamp plan l is first = record {
    reached = first-reached l.life.cells (subst (AreFirstNodes g.spec g.state g.first) (sym is.nodes) first);
    passed = is.passed;
    clean = is.clean;
  }

  -- lives of plans in first states stand behind the stamp 0
  pub made_stand : (plans : List (PlanValue N)) (lives : List (NumberedLife N)) → AreLivesOf g plans lives → AreFirstStates g.spec g.state g.first plans → Each (StandsBehind g 0) lives
  made_stand [] [] are first = tt
  made_stand [] (l ∷ lives) are first = absurd are
  made_stand (p ∷ plans) [] are first = absurd are
  made_stand (p ∷ plans) (l ∷ lives) are first = (begun_stands 0 p l are.0 first.0, made_stand plans lives are.1 first.1)

  -- ---- the cells of a life that was loaded

  module _ (whole : List Msg) (before after : List (CellParts N)) (reached : Each (HasReached g) before) (specs : specs_of g after ≡ specs_of g before)
      (plans : plans_of g after ≡ map (plan_now g whole) before) where
    -- a run from where a cell was at the load ends in a state that inputs make
    pub run_reached : (j : ℕ) (c : CellParts N) (xs : List Entry) → slice_get after j ≡ Some c → IsReached g (g.spec c.core.node) (run_from (plan_of g c) xs).state
    run_reached j c xs at =
        let b = other_at (plan_of g) (plan_now g whole) after before plans j c at in
        let d = b.x in
        let r = reached_run g (g.spec d.core.node) (g.state d.core.node) d.core.passed xs (each-get (HasReached g) before j d b.at reached) in
        let here : IsReached g (g.spec d.core.node) (run_from (plan_of g c) xs).state = subst (λ (p : Plan S). IsReached g (g.spec d.core.node) (run_from p xs).state) b.is r in
        subst (λ (p : P). IsReached g p (run_from (plan_of g c) xs).state) (sym (same_at (λ x. g.spec x.core.node) (λ x. g.spec x.core.node) after before specs j c d at b.at)) here

  module _ (folds : (p : P) (xs : List Input) → (fold (g.step p) (g.first p) xs).given ≡ given (g.answer p) xs)
      (stamped : (p : P) (before : List Input) (x : Input) → IsStamped (g.life p) (g.number p) x.1.stamp.0 (g.answer p before x))
      (whole : List Msg) (marks : List Stamp) (last : Stamp) (closed : IsClosedBy (marks ++ last ∷ []) whole) (rises : RisesFrom 0 whole)
      (before after : List (CellParts N)) (reached : Each (HasReached g) before) (specs : specs_of g after ≡ specs_of g before)
      (plans : plans_of g after ≡ map (plan_now g whole) before) (life : IsLife g after) (quiet : AreQuiet after) where
    abbrev cs : List Stamp
    cs = marks ++ last ∷ []

    source : IsCut [] cs whole whole
    source = record { front = []; is = refl; closed = record { barriers = refl; closed = tt }; rest = closed; rises = rises }

    goes-on : (ss : List (List Msg)) (j : ℕ) (p q : Plan S) → slice_get (plans_of g after) j ≡ Some p → slice_get (plans_of g after) j ≡ Some q → Resumes [] cs whole whole ss p q
    goes-on ss j p q at at' =
        let a = made_of (plan_now g whole) before j p (subst (λ (l : List (Plan S)). slice_get l j ≡ Some p) plans at) in
        let c = a.x in
        let r : IsPlanReached g (plan_now g whole c) = record { spec = g.spec c.core.node; step = refl; reached = each-get (HasReached g) before j c a.at reached } in
        let here : Resumes [] cs whole whole ss (plan_now g whole c) (plan_now g whole c) = record {
          step = refl;
          parents = refl;
          source = own-source c.ins.items whole;
          source_behind = own-source c.ins.items whole;
          start = λ stream t xs ys split bars done rest. ap (λ (l : List Entry). (run_from (plan_now g whole c) l).state) (sym (no_entries xs bars done));
          rises = λ xs ordered. plan_rises g folds stamped (plan_now g whole c) xs r ordered;
        } in
        let same : p ≡ q = found-same (slice_get (plans_of g after) j) p q at at' in
        subst (λ (x : Plan S). Resumes [] cs whole whole ss p x) same (subst (λ (x : Plan S). Resumes [] cs whole whole ss x x) a.is here)

    -- at rest a cell has handled its merged streams, to the last barrier
    pub record AtRest (j : ℕ) (c : CellParts N) : Type 0 where
      pub streams : List (List Msg)
      pub stream : List Msg
      pub is : IsStream streams (plan_of g c) stream
      pub has : entry_barriers is.merged ≡ cs
      pub done : EntriesClosed is.merged
      pub stands : StandsAt g c is.merged
      pub handled : (keeps : Keeps g c) → IsPrefix keeps.handled is.merged

    pub at_rest : (j : ℕ) (c : CellParts N) → slice_get after j ≡ Some c → AtRest j c
    at_rest j c at =
        let graph = life_graph g after life in
        let all = graph_streams (plans_of g after) graph in
        let ss = all.streams in
        let p = get-map (plan_of g) after j c at in
        let s = beside (IsStream ss) (plans_of g after) ss j (plan_of g c) p all.are in
        let n : NodeCut [] cs whole whole (plan_of g c) (plan_of g c) s.fact.merged s.fact.merged =
        nodes_cut [] cs whole whole source ss ss (plans_of g after) (plans_of g after) all.are all.are graph refl (goes-on ss) j (plan_of g c) (plan_of g c) p p s.other s.other s.fact s.fact in
        record {
          streams = ss;
          stream = s.other;
          is = s.fact;
          has = n.cut.rest_barriers;
          done = n.cut.rest_closed;
          stands = (carries_streams g after life.ready quiet).stands ss all.are j c at s.other s.fact;
          handled = λ keeps. handled_prefix g after life.ready ss all.are j c keeps at s.other s.fact;
        }

    reached-at : (j : ℕ) (c : CellParts N) → slice_get after j ≡ Some c → HasReached g c
    reached-at j c at =
        let r = at_rest j c at in
        subst (IsReached g (g.spec c.core.node)) (sym r.stands.state) (run_reached whole before after reached specs plans j c r.is.merged at)

    passed-at : (j : ℕ) (c : CellParts N) → slice_get after j ≡ Some c → c.core.passed ≡ last
    passed-at j c at =
        let r = at_rest j c at in
        let e = end_with last marks r.is.merged r.has r.done in
        r.stands.passed ∙ ap (λ (l : List Entry). (run_from (plan_of g c) l).passed) e.is
        ∙ run-passed (plan_of g c).step (run_from (plan_of g c) []) e.front e.parent last

    clean-at : (j : ℕ) (c : CellParts N) → slice_get after j ≡ Some c → c.core.clean ≡ true
    clean-at j c at =
        let r = at_rest j c at in
        let e = end_with last marks r.is.merged r.has r.done in
        r.stands.clean ∙ ap (λ (l : List Entry). (run_from (plan_of g c) l).clean) e.is
        ∙ run-clean (plan_of g c).step (run_from (plan_of g c) []) e.front e.parent last

    -- no item came since the last barrier
    pub rested_clean : Each IsClean after
    rested_clean = each-of IsClean after clean-at

    -- each node is in a state that inputs make
    pub rested_reached : Each (HasReached g) after
    rested_reached = each-of (HasReached g) after reached-at

    -- and each cell has passed the last barrier of the load
    pub rested_passed : Each (λ b. b ≡ last.0) (passed_of after)
    rested_passed = each-of (λ b. b ≡ last.0) (passed_of after) (λ j b at.
        let m = made_of (λ x. x.core.passed.0) after j b at in
        sym m.is ∙ ap (λ (s : Stamp). s.0) (passed-at j m.x m.at))

    -- ---- a capture at the last barrier

    module _ (none : NoneIs last marks) (stamp : ℕ) (above : stamp < last.0) (passed : Each (λ b. b ≡ stamp) (passed_of before)) where
      -- what was captured there is the state at rest
      pub rested_state : (j : ℕ) (c : CellParts N) (s : S) → slice_get after j ≡ Some c → WasAt g last c s → s ≡ g.state c.core.node
      rested_state j c s at was =
          let r = at_rest j c at in
          let b = other_at (plan_of g) (plan_now g whole) after before plans j c at in
          let keeps : Keeps g c = each-get (Keeps g) after j c at life.ready.keeps in
          let handled : keeps.handled ≡ was.before ++ was.after = merges-same {ns = was.before ++ was.after} keeps.merged keeps.stuck was.merged keeps.stuck in
          let prefix : IsPrefix keeps.handled r.is.merged = r.handled keeps in
          let first : b.x.core.passed.0 ≡ stamp = each-get (λ n. n ≡ stamp) (passed_of before) j b.x.core.passed.0 (get-map (λ x. x.core.passed.0) before j b.x b.at) passed in
          let same : b.x.core.passed ≡ c.base.value.passed = ap (λ (p : Plan S). p.passed) b.is in
          let other : c.base.value.passed ≡ last → ⊥ = λ e. let number : b.x.core.passed.0 ≡ last.0 = ap (λ (t : Stamp). t.0) (same ∙ e) in absurd (omega (arith, above, first, number)) in
          let cut : was.before ≡ r.is.merged = one-cut last marks [] was.before was.after prefix.0 r.is.merged [] r.is.merged none tt (stood last c.base.value.passed was.before was.ends other)
          (ap (λ (l : List Entry). l ++ prefix.0) (sym handled) ∙ prefix.1) (sym (append-nil r.is.merged)) r.has r.done refl in
          was.is ∙ ap (λ (l : List Entry). (run_from (plan_of g c) l).state) cut ∙ sym r.stands.state
