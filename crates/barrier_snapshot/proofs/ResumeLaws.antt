-- A life that goes on from where another one was at a barrier does what that one did behind it.
use Rattle.std.proofs.Common.{◌≡◌, ℕ, suc, ◌<◌, List, [], ◌∷◌, ◌++◌, length, map, get_or, Some, refl, sym, ap, subst, ◌∙◌, append_assoc, arith}
use Rattle.std.specs.Prelude.{slice_get}
use Rattle.std.specs.List.{AllByRecursion as Each, AllZip}
use mathlib.Core.List.{IsPrefix}
use Rattle.kap_base.specs.declared.items.Msg.{Msg}
use Rattle.kap_base.specs.declared.items.Msg.TheVariants as messages
use Rattle.kap_base.specs.declared.items.Stamp.{Stamp}
use Rattle.node_core.specs.declared.node.Node.{Ghosts}
use Rattle.node_core.specs.Cut.{IsStamped}
use Rattle.node_core.specs.Meaning.{Input, fold, given}
use Rattle.merge_node.proofs.BufferLaws.{merges-same}
use Rattle.merge_node.proofs.ClosingLaws.{EntriesClosed, entry_barriers}
use Rattle.merge_node.specs.Merge.{AreOrdered, Entry, RisesFrom}
use Rattle.edge_queue.specs.Edges.{received}
use Rattle.flow_cells.specs.declared.parts.CellParts.{CellParts}
use Rattle.flow_cells.specs.declared.parts.InEdge.{InEdge}
use Rattle.flow_cells.specs.Kept.{Keeps, gathered}
use Rattle.flow_cells.specs.Runs.{inputs}
use Rattle.flow_life.specs.GraphLaws.{graph_streams, life_graph}
use Rattle.flow_life.specs.Graphs.{HasStreams, IsGraph}
use Rattle.flow_life.specs.Lives.{IsLife}
use Rattle.flow_life.specs.Loads.{own_of, plan_now}
use Rattle.flow_life.specs.Making.{passed_of}
use Rattle.flow_life.specs.Nodes.{specs_of}
use Rattle.flow_life.proofs.PlaceLaws.{cell-of_in, each-get, found-same, get-within}
use Rattle.flow_life.specs.Places.{in_of}
use Rattle.flow_life.proofs.RestLaws.{carries_streams}
use Rattle.flow_life.specs.Steps.{AreQuiet}
use Rattle.flow_life.proofs.StreamLaws.{beside, get-map, handled_prefix}
use Rattle.flow_life.specs.Streams.{AreStreams, IsStream, Plan, StandsAt, plan_of, plans_of, run_from}
use Rattle.flow_life.specs.Wired.{parents_of}
use Rattle.task_run.specs.Stamps.{StampsUpTo, of_input}
use Rattle.flow_core.specs.LifeLoads.{effects_since}
use Rattle.barrier_snapshot.specs.Barriers.{EndsAt, WasAt, before_it, with_it}
use Rattle.barrier_snapshot.specs.Resuming.{HasReached, effects_behind, msgs_behind}
use Rattle.barrier_snapshot.proofs.CutLaws.{EndWith, NoneIs, behind_cut, effects_cut, end_with, high_inputs, low_inputs, same_cut}
use Rattle.barrier_snapshot.proofs.MergeCutLaws.{IsCut}
use Rattle.barrier_snapshot.proofs.PlaceLaws.{made_of, map_twice, other_at, same_at, same_lengths, same_maps}
use Rattle.barrier_snapshot.proofs.ReachedLaws.{IsPlanReached, plan_high, plan_low, plan_on, plan_rises}
use Rattle.barrier_snapshot.proofs.StreamCutLaws.{NodeCut, Resumes, nodes_cut, streams_cut}

-- a stream takes the messages of a load
pub own-source : (ins : List InEdge) (source : List Msg) → map (λ (e : InEdge). e.from) ins ≡ [] → own_of ins source ≡ source
own-source [] source e = refl
own-source (i ∷ ins) source e = absurd cc

-- entries that end with the barrier
pub record Stood (upto : Stamp) (before : List Entry) : Type 0 where
  pub front : List Entry
  pub parent : ℕ
  pub is : before ≡ front ++ (parent, messages.Barrier upto) ∷ []

pub stood : (upto passed : Stamp) (before : List Entry) → EndsAt upto passed before → (passed ≡ upto → ⊥) → Stood upto before
stood upto passed before (before_it e) other = absurd (other e)
stood upto passed before (with_it front parent) other = record { front = front; parent = parent; is = refl }

-- a list is cut where the barrier stands
pub one-cut : (upto : Stamp) (marks cs : List Stamp) (before after more xs ys ms : List Entry) → NoneIs upto marks → NoneIs upto cs → Stood upto before → (before ++ after) ++ more ≡ ms → ms ≡ xs ++ ys
    → entry_barriers xs ≡ marks ++ upto ∷ [] → EntriesClosed xs → entry_barriers ys ≡ cs → before ≡ xs
one-cut upto marks cs before after more xs ys ms none_before none_behind s first second bars closed rest =
    let e : EndWith upto marks xs = end_with upto marks xs bars closed in
    let here : e.front ++ (e.parent, messages.Barrier upto) ∷ ys ≡ s.front ++ (s.parent, messages.Barrier upto) ∷ (after ++ more) =
    sym (ap (λ (l : List Entry). l ++ ys) e.is ∙ append_assoc e.front ((e.parent, messages.Barrier upto) ∷ []) ys)
    ∙ sym second ∙ sym first
    ∙ append_assoc before after more
    ∙ ap (λ (l : List Entry). l ++ (after ++ more)) s.is
    ∙ append_assoc s.front ((s.parent, messages.Barrier upto) ∷ []) (after ++ more) in
    let same = same_cut upto e.front ys s.front (after ++ more) e.parent s.parent here
    (subst (NoneIs upto) (sym e.barriers) none_before) (subst (NoneIs upto) (sym rest) none_behind) in
    s.is ∙ sym same ∙ sym e.is

module _ {N P S : Type 0} (g : Ghosts N P S) where
  -- the cells of a life are where those of another one are, and did what those did behind the barrier
  pub record CellsDidTheRest (upto : Stamp) (rested resumed : List (CellParts N)) : Type 0 where
    pub parents : parents_of resumed ≡ parents_of rested
    pub states : map (λ c. g.state c.core.node) resumed ≡ map (λ c. g.state c.core.node) rested
    pub effects : effects_since resumed ≡ map (effects_behind upto) (effects_since rested)
    pub edges : (j k : ℕ) (e f : InEdge) → in_of rested j k ≡ Some e → in_of resumed j k ≡ Some f → received f.head ≡ msgs_behind upto (received e.head)

  -- of each cell the parents are those that are planned
  pub planned_parents : (cells : List (CellParts N)) → map (λ (p : Plan S). p.parents) (plans_of g cells) ≡ parents_of cells
  planned_parents cells = map_twice (λ (p : Plan S). p.parents) (plan_of g) cells

  pub planned_now : (source : List Msg) (cells : List (CellParts N)) → map (λ (p : Plan S). p.parents) (map (plan_now g source) cells) ≡ parents_of cells
  planned_now source cells = map_twice (λ (p : Plan S). p.parents) (plan_now g source) cells

  -- a load leaves the parents
  pub loaded_parents : (source : List Msg) (before after : List (CellParts N)) → plans_of g after ≡ map (plan_now g source) before → parents_of after ≡ parents_of before
  loaded_parents source before after plans = sym (planned_parents after) ∙ ap (map (λ (p : Plan S). p.parents)) plans ∙ planned_now source before

  module _ (folds : (p : P) (xs : List Input) → (fold (g.step p) (g.first p) xs).given ≡ given (g.answer p) xs)
      (stamped : (p : P) (before : List Input) (x : Input) → IsStamped (g.life p) (g.number p) x.1.stamp.0 (g.answer p before x))
      (upto : Stamp) (marks cs : List Stamp) (whole behind : List Msg) (source : IsCut (marks ++ upto ∷ []) cs whole behind) (none_before : NoneIs upto marks) (none_behind : NoneIs upto cs)
      (stamp : ℕ) (above : stamp < upto.0) (before stopped rested restored resumed : List (CellParts N))
      (reached : Each (HasReached g) before) (passed : Each (λ b. b ≡ stamp) (passed_of before))
      (stopped_plans : plans_of g stopped ≡ map (plan_now g whole) before) (stopped_life : IsLife g stopped)
      (rested_plans : plans_of g rested ≡ map (plan_now g whole) before) (rested_life : IsLife g rested) (rested_quiet : AreQuiet rested)
      (restored_specs : specs_of g restored ≡ specs_of g before) (restored_parents : parents_of restored ≡ parents_of before)
      (were : AllZip (WasAt g upto) stopped (map (λ c. g.state c.core.node) restored))
      (resumed_plans : plans_of g resumed ≡ map (plan_now g behind) restored) (resumed_life : IsLife g resumed) (resumed_quiet : AreQuiet resumed) where
    -- in which state the node of a cell was at the barrier
    started : (ss : List (List Msg)) → AreStreams (plans_of g rested) ss → (j : ℕ) (c d : CellParts N) → slice_get before j ≡ Some c → slice_get restored j ≡ Some d
        → (stream : List Msg) (t : IsStream ss (plan_now g whole c) stream) (xs ys : List Entry) → t.merged ≡ xs ++ ys → entry_barriers xs ≡ marks ++ upto ∷ [] → EntriesClosed xs → entry_barriers ys ≡ cs
        → g.state d.core.node ≡ (run_from (plan_now g whole c) xs).state
    started ss are j c d at at' stream t xs ys split bars closed rest =
        let m = other_at (plan_now g whole) (plan_of g) before stopped (sym stopped_plans) j c at in
        let w = beside (WasAt g upto) stopped (map (λ x. g.state x.core.node) restored) j m.x m.at were in
        let state : w.other ≡ g.state d.core.node = found-same (slice_get (map (λ x. g.state x.core.node) restored) j) w.other (g.state d.core.node) w.at (get-map (λ x. g.state x.core.node) restored j d at') in
        let was : WasAt g upto m.x (g.state d.core.node) = subst (WasAt g upto m.x) state w.fact in
        let keeps : Keeps g m.x = each-get (Keeps g) stopped j m.x m.at stopped_life.ready.keeps in
        let handled : keeps.handled ≡ was.before ++ was.after = merges-same {ns = was.before ++ was.after} keeps.merged keeps.stuck was.merged keeps.stuck in
        let here : AreStreams (plans_of g stopped) ss = subst (λ (ps : List (Plan S)). AreStreams ps ss) (rested_plans ∙ sym stopped_plans) are in
        let prefix : IsPrefix keeps.handled t.merged =
        subst (λ (p : Plan S). (u : IsStream ss p stream) → IsPrefix keeps.handled u.merged) m.is (λ u. handled_prefix g stopped stopped_life.ready ss here j m.x keeps m.at stream u) t in
        let first : c.core.passed.0 ≡ stamp = each-get (λ b. b ≡ stamp) (passed_of before) j c.core.passed.0 (get-map (λ x. x.core.passed.0) before j c at) passed in
        let same : m.x.base.value.passed ≡ c.core.passed = ap (λ (p : Plan S). p.passed) m.is in
        let other : m.x.base.value.passed ≡ upto → ⊥ = λ e. let number : c.core.passed.0 ≡ upto.0 = ap (λ (s : Stamp). s.0) (sym same ∙ e) in absurd (omega (arith, above, first, number)) in
        let cut : was.before ≡ xs = one-cut upto marks cs was.before was.after prefix.0 xs ys t.merged none_before none_behind (stood upto m.x.base.value.passed was.before was.ends other)
        (ap (λ (l : List Entry). l ++ prefix.0) (sym handled) ∙ prefix.1) split bars closed rest in
        was.is ∙ ap (λ (p : Plan S). (run_from p was.before).state) m.is ∙ ap (λ (l : List Entry). (run_from (plan_now g whole c) l).state) cut

    plan-reached : (j : ℕ) (p : Plan S) → slice_get (plans_of g rested) j ≡ Some p → IsPlanReached g p
    plan-reached j p at =
        let a = made_of (plan_now g whole) before j p (subst (λ (l : List (Plan S)). slice_get l j ≡ Some p) rested_plans at) in
        let c = a.x in
        let r : IsPlanReached g (plan_now g whole c) = record { spec = g.spec c.core.node; step = refl; reached = each-get (HasReached g) before j c a.at reached } in
        subst (IsPlanReached g) a.is r

    resumes : (ss : List (List Msg)) → AreStreams (plans_of g rested) ss → (j : ℕ) (p q : Plan S) → slice_get (plans_of g rested) j ≡ Some p → slice_get (plans_of g resumed) j ≡ Some q
        → Resumes (marks ++ upto ∷ []) cs whole behind ss p q
    resumes ss are j p q at at' =
        let a = made_of (plan_now g whole) before j p (subst (λ (l : List (Plan S)). slice_get l j ≡ Some p) rested_plans at) in
        let b = made_of (plan_now g behind) restored j q (subst (λ (l : List (Plan S)). slice_get l j ≡ Some q) resumed_plans at') in
        let c = a.x in
        let d = b.x in
        let spec : g.spec d.core.node ≡ g.spec c.core.node = same_at (λ x. g.spec x.core.node) (λ x. g.spec x.core.node) restored before restored_specs j d c b.at a.at in
        let parents : map (λ (e : InEdge). e.from) d.ins.items ≡ map (λ (e : InEdge). e.from) c.ins.items =
        same_at (λ x. map (λ (e : InEdge). e.from) x.ins.items) (λ x. map (λ (e : InEdge). e.from) x.ins.items) restored before restored_parents j d c b.at a.at in
        let r : IsPlanReached g (plan_now g whole c) = record { spec = g.spec c.core.node; step = refl; reached = each-get (HasReached g) before j c a.at reached } in
        let here : Resumes (marks ++ upto ∷ []) cs whole behind ss (plan_now g whole c) (plan_now g behind d) = record {
          step = ap g.step spec;
          parents = parents;
          source = own-source c.ins.items whole;
          source_behind = own-source d.ins.items behind;
          start = started ss are j c d a.at b.at;
          rises = λ xs ordered. plan_rises g folds stamped (plan_now g whole c) xs r ordered;
        } in
        subst (λ (x : Plan S). Resumes (marks ++ upto ∷ []) cs whole behind ss x q) a.is (subst (λ (x : Plan S). Resumes (marks ++ upto ∷ []) cs whole behind ss (plan_now g whole c) x) b.is here)

    counts : length resumed ≡ length rested
    counts =
        same_lengths (plan_of g) (plan_now g behind) resumed restored resumed_plans
        ∙ same_lengths (λ x. g.spec x.core.node) (λ x. g.spec x.core.node) restored before restored_specs
        ∙ sym (same_lengths (plan_of g) (plan_now g whole) rested before rested_plans)

    plan_counts : length (plans_of g resumed) ≡ length (plans_of g rested)
    plan_counts = count-map resumed ∙ counts ∙ sym (count-map rested)
      where
        count-map : (cells : List (CellParts N)) → length (plans_of g cells) ≡ length cells
        count-map [] = refl
        count-map (c ∷ cells) = ap suc (count-map cells)

    graph : IsGraph (plans_of g rested)
    graph = life_graph g rested rested_life

    streams : HasStreams (plans_of g rested)
    streams = graph_streams (plans_of g rested) graph

    others : HasStreams (plans_of g resumed)
    others = graph_streams (plans_of g resumed) (life_graph g resumed resumed_life)

    -- two cells at one place, at rest
    record Rests (c d : CellParts N) : Type 0 where
      ms : List Entry
      ns : List Entry
      node : NodeCut (marks ++ upto ∷ []) cs whole behind (plan_of g c) (plan_of g d) ms ns
      reached_c : IsPlanReached g (plan_of g c)
      step_is : (plan_of g d).step ≡ (plan_of g c).step
      stands : StandsAt g c ms
      stands_d : StandsAt g d ns

    rests : (j : ℕ) (c d : CellParts N) → slice_get rested j ≡ Some c → slice_get resumed j ≡ Some d → Rests c d
    rests j c d at at' =
        let ss = streams.streams in
        let rs = others.streams in
        let p = get-map (plan_of g) rested j c at in
        let q = get-map (plan_of g) resumed j d at' in
        let s = beside (IsStream ss) (plans_of g rested) ss j (plan_of g c) p streams.are in
        let r = beside (IsStream rs) (plans_of g resumed) rs j (plan_of g d) q others.are in
        let h = resumes ss streams.are in
        record {
          ms = s.fact.merged;
          ns = r.fact.merged;
          node = nodes_cut (marks ++ upto ∷ []) cs whole behind source ss rs (plans_of g rested) (plans_of g resumed) streams.are others.are graph plan_counts h j (plan_of g c) (plan_of g d) p q s.other r.other s.fact r.fact;
          reached_c = plan-reached j (plan_of g c) p;
          step_is = (h j (plan_of g c) (plan_of g d) p q).step;
          stands = (carries_streams g rested rested_life.ready rested_quiet).stands ss streams.are j c at s.other s.fact;
          stands_d = (carries_streams g resumed resumed_life.ready resumed_quiet).stands rs others.are j d at' r.other r.fact;
        }

    state-at : (j : ℕ) (d c : CellParts N) → slice_get resumed j ≡ Some d → slice_get rested j ≡ Some c → g.state d.core.node ≡ g.state c.core.node
    state-at j d c at' at = let r = rests j c d at at' in r.stands_d.state ∙ r.node.state ∙ sym r.stands.state

    -- each node is where that of the other life is
    same_states : map (λ c. g.state c.core.node) resumed ≡ map (λ c. g.state c.core.node) rested
    same_states = same_maps (λ c. g.state c.core.node) (λ c. g.state c.core.node) resumed rested counts state-at

    effects-at : (j : ℕ) (d c : CellParts N) → slice_get resumed j ≡ Some d → slice_get rested j ≡ Some c → gathered d.core.gathered ++ d.core.effects ≡ effects_behind upto (gathered c.core.gathered ++ c.core.effects)
    effects-at j d c at' at =
        let r = rests j c d at at' in
        let cut = r.node.cut in
        let e = end_with upto marks cut.front cut.front_barriers cut.front_closed in
        let split : r.ms ≡ e.front ++ (e.parent, messages.Barrier upto) ∷ r.ns =
        cut.is ∙ ap (λ (l : List Entry). l ++ r.ns) e.is ∙ append_assoc e.front ((e.parent, messages.Barrier upto) ∷ []) r.ns in
        let ordered : AreOrdered (e.front ++ (e.parent, messages.Barrier upto) ∷ r.ns) = subst AreOrdered split cut.ordered in
        let low = plan_low g folds stamped (plan_of g c) upto.0 cut.front r.reached_c (subst (λ (l : List Entry). StampsUpTo of_input upto.0 (inputs l)) (sym e.is) (low_inputs e.front r.ns e.parent upto ordered)) in
        let reached_d = plan_on g (plan_of g c) (plan_of g d) cut.front r.reached_c r.step_is r.node.start in
        let high = plan_high g folds stamped (plan_of g d) (suc upto.0) r.ns reached_d (high_inputs e.front r.ns e.parent upto ordered) in
        r.stands_d.effects
        ∙ sym (effects_cut upto (run_from (plan_of g c) cut.front).effects (run_from (plan_of g d) r.ns).effects low high)
        ∙ ap (effects_behind upto) (sym r.node.effects ∙ sym r.stands.effects)

    -- each cell has the effects behind the barrier
    same_effects : effects_since resumed ≡ map (effects_behind upto) (effects_since rested)
    same_effects =
        same_maps (λ d. gathered d.core.gathered ++ d.core.effects) (λ c. effects_behind upto (gathered c.core.gathered ++ c.core.effects)) resumed rested counts effects-at
        ∙ sym (map_twice (effects_behind upto) (λ c. gathered c.core.gathered ++ c.core.effects) rested)

    same_parents : parents_of resumed ≡ parents_of rested
    same_parents = loaded_parents behind restored resumed resumed_plans ∙ restored_parents ∙ sym (loaded_parents whole before rested rested_plans)

    -- and each edge carried what is behind it
    same_edges : (j k : ℕ) (e f : InEdge) → in_of rested j k ≡ Some e → in_of resumed j k ≡ Some f → received f.head ≡ msgs_behind upto (received e.head)
    same_edges j k e f at at' =
        let ss = streams.streams in
        let rs = others.streams in
        let c = cell-of_in rested j k e at in
        let d = cell-of_in resumed j k f at' in
        let parents : map (λ (i : InEdge). i.from) d.cell.ins.items ≡ map (λ (i : InEdge). i.from) c.cell.ins.items =
        same_at (λ x. map (λ (i : InEdge). i.from) x.ins.items) (λ x. map (λ (i : InEdge). i.from) x.ins.items) resumed rested same_parents j d.cell c.cell d.at c.at in
        let from : f.from ≡ e.from = same_at (λ (i : InEdge). i.from) (λ (i : InEdge). i.from) d.cell.ins.items c.cell.ins.items parents k f e d.here c.here in
        let early : e.from < j = (rested_life.ready.wired.ins j k e at).before in
        let within : j < length (plans_of g rested) = get-within (plans_of g rested) j (plan_of g c.cell) (get-map (plan_of g) rested j c.cell c.at) in
        let cut = streams_cut (marks ++ upto ∷ []) cs whole behind source ss rs (plans_of g rested) (plans_of g resumed) streams.are others.are graph plan_counts (resumes ss streams.are) e.from (omega (arith, early, within)) in
        (carries_streams g resumed resumed_life.ready resumed_quiet).received rs others.are j k f at'
        ∙ ap (λ (n : ℕ). get_or rs n []) from
        ∙ sym (behind_cut upto marks cut.front (get_or rs e.from []) cut.closed (subst (NoneIs upto) (sym cut.rest.barriers) none_behind) (subst (RisesFrom 0) cut.is cut.rises))
        ∙ ap (msgs_behind upto) (sym cut.is ∙ sym ((carries_streams g rested rested_life.ready rested_quiet).received ss streams.are j k e at))

    -- all of it together
    pub cells_did_the_rest : CellsDidTheRest upto rested resumed
    cells_did_the_rest = record { parents = same_parents; states = same_states; effects = same_effects; edges = same_edges }
