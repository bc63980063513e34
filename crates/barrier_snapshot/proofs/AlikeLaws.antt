-- Lives that are alike do the same.
use Rattle.std.proofs.Common.{◌≡◌, ℕ, suc, List, [], ◌∷◌, ◌++◌, length, map, get_or, Some, refl, sym, ap, subst, ◌∙◌}
use Rattle.std.specs.Prelude.{slice_get}
use Rattle.std.specs.List.{AllByRecursion as Each, AllZip}
use Rattle.kap_base.specs.declared.items.Msg.{Msg}
use Rattle.node_core.specs.declared.node.Node.{Ghosts}
use Rattle.node_core.specs.Meaning.{Input, Move}
use Rattle.merge_node.specs.Buffers.{Merges}
use Rattle.merge_node.specs.Merge.{Entry, Lists}
use Rattle.edge_queue.specs.Edges.{received}
use Rattle.flow_cells.specs.declared.parts.CellParts.{CellParts}
use Rattle.flow_cells.specs.declared.parts.InEdge.{InEdge}
use Rattle.flow_cells.specs.Kept.{gathered}
use Rattle.flow_cells.specs.Runs.{begun, run}
use Rattle.flow_life.specs.GraphLaws.{graph_streams, life_graph}
use Rattle.flow_life.specs.Graphs.{HasStreams}
use Rattle.flow_life.specs.Lives.{IsLife}
use Rattle.flow_life.specs.Loads.{own_of, plan_now}
use Rattle.flow_life.specs.Nodes.{specs_of}
use Rattle.flow_life.proofs.PlaceLaws.{cell-of_in, each-get, found-same}
use Rattle.flow_life.specs.Places.{in_of}
use Rattle.flow_life.proofs.RestLaws.{carries_streams}
use Rattle.flow_life.specs.Steps.{AreQuiet}
use Rattle.flow_life.proofs.StreamLaws.{beside, get-map}
use Rattle.flow_life.specs.Streams.{AreStreams, IsStream, Plan, StandsAt, plan_of, plans_of, run_from, streams_into}
use Rattle.flow_life.specs.Wired.{parents_of}
use Rattle.flow_core.specs.LifeLoads.{effects_since}
use Rattle.flow_core.specs.Nets.{IsLifeIn, IsResting, NumberedLife}
use Rattle.barrier_snapshot.specs.Resuming.{AreLoadedWith, DidTheSame, IsAlike}
use Rattle.barrier_snapshot.proofs.GoingOnLaws.{effects-on, outs-on, state-on}
use Rattle.barrier_snapshot.proofs.PlaceLaws.{before_it, made_of, other_at, same_at, same_lengths, same_maps, zip_lengths, zip_of}
use Rattle.barrier_snapshot.proofs.ResumeLaws.{loaded_parents}

-- ---- plans

module _ {S : Type 0} where
  -- the same is planned, whatever was passed and carried before
  record IsLike (p q : Plan S) : Type 0 where
    step : q.step ≡ p.step
    start : q.start ≡ p.start
    parents : q.parents ≡ p.parents
    source : q.source ≡ p.source

  begins-like : (p q : Plan S) (xs : List Entry) → IsLike p q → run p.step (begun p.start q.passed) xs ≡ run_from q xs
  begins-like p q xs l =
      ap (λ (s : S). run p.step (begun s q.passed) xs) (sym l.start) ∙ ap (λ (f : S → Input → Move S). run f (begun q.start q.passed) xs) (sym l.step)

  like-state : (p q : Plan S) (xs : List Entry) → IsLike p q → (run_from p xs).state ≡ (run_from q xs).state
  like-state p q xs l = state-on p.step (begun p.start p.passed) q.passed xs ∙ ap (λ r. r.state) (begins-like p q xs l)

  like-effects : (p q : Plan S) (xs : List Entry) → IsLike p q → (run_from p xs).effects ≡ (run_from q xs).effects
  like-effects p q xs l = effects-on p.step (begun p.start p.passed) q.passed xs ∙ ap (λ r. r.effects) (begins-like p q xs l)

  like-outs : (p q : Plan S) (xs : List Entry) → IsLike p q → (run_from p xs).outs ≡ (run_from q xs).outs
  like-outs p q xs l = outs-on p.step (begun p.start p.passed) q.passed xs ∙ ap (λ r. r.outs) (begins-like p q xs l)

  like-stream : (rs : List (List Msg)) (p q : Plan S) (s : List Msg) → IsLike p q → IsStream rs q s → IsStream rs p s
  like-stream rs p q s l t = record {
    merged = t.merged;
    rest = t.rest;
    merges = subst (λ (ls : Lists). Merges ls t.merged t.rest)
        (ap (λ (ps : List ℕ). streams_into rs ps q.source) l.parents ∙ ap (λ (m : List Msg). streams_into rs p.parents m) l.source) t.merges;
    stuck = t.stuck;
    is = t.is ∙ sym (like-outs p q t.merged l);
  }

own-same : (ins others : List InEdge) (msgs : List Msg) → map (λ (e : InEdge). e.from) others ≡ map (λ (e : InEdge). e.from) ins → own_of others msgs ≡ own_of ins msgs
own-same [] [] msgs e = refl
own-same [] (f ∷ others) msgs e = absurd cc
own-same (i ∷ ins) [] msgs e = absurd cc
own-same (i ∷ ins) (f ∷ others) msgs e = refl

module _ {N P S : Type 0} (g : Ghosts N P S) where
  module _ (msgs : List Msg) (before other rested resumed : List (CellParts N))
      (specs : specs_of g other ≡ specs_of g before) (parents : parents_of other ≡ parents_of before)
      (states : map (λ c. g.state c.core.node) other ≡ map (λ c. g.state c.core.node) before)
      (rested_plans : plans_of g rested ≡ map (plan_now g msgs) before) (rested_life : IsLife g rested) (rested_quiet : AreQuiet rested)
      (resumed_plans : plans_of g resumed ≡ map (plan_now g msgs) other) (resumed_life : IsLife g resumed) (resumed_quiet : AreQuiet resumed) where
    counts : length resumed ≡ length rested
    counts =
        same_lengths (plan_of g) (plan_now g msgs) resumed other resumed_plans
        ∙ same_lengths (λ x. g.spec x.core.node) (λ x. g.spec x.core.node) other before specs
        ∙ sym (same_lengths (plan_of g) (plan_now g msgs) rested before rested_plans)

    like : (j : ℕ) (c d : CellParts N) → slice_get rested j ≡ Some c → slice_get resumed j ≡ Some d → IsLike (plan_of g c) (plan_of g d)
    like j c d at at' =
        let a = other_at (plan_of g) (plan_now g msgs) rested before rested_plans j c at in
        let b = other_at (plan_of g) (plan_now g msgs) resumed other resumed_plans j d at' in
        let spec : g.spec b.x.core.node ≡ g.spec a.x.core.node = same_at (λ x. g.spec x.core.node) (λ x. g.spec x.core.node) other before specs j b.x a.x b.at a.at in
        let from : map (λ (e : InEdge). e.from) b.x.ins.items ≡ map (λ (e : InEdge). e.from) a.x.ins.items =
        same_at (λ x. map (λ (e : InEdge). e.from) x.ins.items) (λ x. map (λ (e : InEdge). e.from) x.ins.items) other before parents j b.x a.x b.at a.at in
        let here : IsLike (plan_now g msgs a.x) (plan_now g msgs b.x) = record {
          step = ap g.step spec;
          start = same_at (λ x. g.state x.core.node) (λ x. g.state x.core.node) other before states j b.x a.x b.at a.at;
          parents = from;
          source = own-same a.x.ins.items b.x.ins.items msgs from;
        } in
        subst (λ (p : Plan S). IsLike p (plan_of g d)) a.is (subst (λ (q : Plan S). IsLike (plan_now g msgs a.x) q) b.is here)

    -- what the cells of both handled
    record Both (c d : CellParts N) : Type 0 where
      ms : List Entry
      plans : IsLike (plan_of g c) (plan_of g d)
      stands : StandsAt g c ms
      stands_d : StandsAt g d ms

    -- the streams of both
    all : HasStreams (plans_of g resumed)
    all = graph_streams (plans_of g resumed) (life_graph g resumed resumed_life)

    are_too : AreStreams (plans_of g rested) all.streams
    are_too = zip_of (IsStream all.streams) (plans_of g rested) all.streams
        (count-map rested ∙ sym counts ∙ sym (count-map resumed) ∙ zip_lengths (IsStream all.streams) (plans_of g resumed) all.streams all.are)
        (λ j p s at at'.
        let c = made_of (plan_of g) rested j p at in
        let q = before_it (IsStream all.streams) (plans_of g resumed) all.streams j s at' all.are in
        let d = made_of (plan_of g) resumed j q.other q.at in
        let l : IsLike p q.other = subst (λ (x : Plan S). IsLike x q.other) c.is (subst (λ (y : Plan S). IsLike (plan_of g c.x) y) d.is (like j c.x d.x c.at d.at)) in
        like-stream all.streams p q.other s l q.fact)
      where
        count-map : (cells : List (CellParts N)) → length (plans_of g cells) ≡ length cells
        count-map [] = refl
        count-map (c ∷ cells) = ap suc (count-map cells)

    both : (j : ℕ) (c d : CellParts N) → slice_get rested j ≡ Some c → slice_get resumed j ≡ Some d → Both c d
    unfolding like-stream
    both j c d at at' =
        let l = like j c d at at' in
        let r = beside (IsStream all.streams) (plans_of g resumed) all.streams j (plan_of g d) (get-map (plan_of g) resumed j d at') all.are in
        record {
          ms = r.fact.merged;
          plans = l;
          stands = (carries_streams g rested rested_life.ready rested_quiet).stands all.streams are_too j c at r.other (like-stream all.streams (plan_of g c) (plan_of g d) r.other l r.fact);
          stands_d = (carries_streams g resumed resumed_life.ready resumed_quiet).stands all.streams all.are j d at' r.other r.fact;
        }

    pub alike_states : map (λ c. g.state c.core.node) resumed ≡ map (λ c. g.state c.core.node) rested
    alike_states = same_maps (λ c. g.state c.core.node) (λ c. g.state c.core.node) resumed rested counts
        (λ j d c at' at. let r = both j c d at at' in r.stands_d.state ∙ sym (like-state (plan_of g c) (plan_of g d) r.ms r.plans) ∙ sym r.stands.state)

    pub alike_effects : effects_since resumed ≡ effects_since rested
    alike_effects = same_maps (λ c. gathered c.core.gathered ++ c.core.effects) (λ c. gathered c.core.gathered ++ c.core.effects) resumed rested counts
        (λ j d c at' at. let r = both j c d at at' in r.stands_d.effects ∙ sym (like-effects (plan_of g c) (plan_of g d) r.ms r.plans) ∙ sym r.stands.effects)

    pub alike_parents : parents_of resumed ≡ parents_of rested
    alike_parents = loaded_parents g msgs other resumed resumed_plans ∙ parents ∙ sym (loaded_parents g msgs before rested rested_plans)

    pub alike_edges : (j k : ℕ) (e f : InEdge) → in_of rested j k ≡ Some e → in_of resumed j k ≡ Some f → received f.head ≡ received e.head
    alike_edges j k e f at at' =
        let c = cell-of_in rested j k e at in
        let d = cell-of_in resumed j k f at' in
        let from : f.from ≡ e.from = same_at (λ (i : InEdge). i.from) (λ (i : InEdge). i.from) d.cell.ins.items c.cell.ins.items
        (same_at (λ x. map (λ (i : InEdge). i.from) x.ins.items) (λ x. map (λ (i : InEdge). i.from) x.ins.items) resumed rested alike_parents j d.cell c.cell d.at c.at) k f e d.here c.here in
        (carries_streams g resumed resumed_life.ready resumed_quiet).received all.streams all.are j k f at'
        ∙ ap (λ (n : ℕ). get_or all.streams n []) from
        ∙ sym ((carries_streams g rested rested_life.ready rested_quiet).received all.streams are_too j k e at)

  -- ---- lives

  -- lives that are alike do the same
  pub alike_lives : (msgs : List Msg) (before other rested resumed : List (NumberedLife N)) → AllZip (IsAlike g) before other → AreLoadedWith g msgs before rested → AreLoadedWith g msgs other resumed
      → Each IsResting rested → Each IsResting resumed → AllZip (DidTheSame g) rested resumed
  alike_lives msgs before other rested resumed alike rest go quiet quiet' =
      let plans = λ (l : NumberedLife N). plans_of g l.life.cells in
      let specs = λ (l : NumberedLife N). specs_of g l.life.cells in
      let now = λ (l : NumberedLife N). map (plan_now g msgs) l.life.cells in
      zip_of (DidTheSame g) rested resumed
      (same_lengths plans now rested before rest.plans ∙ zip_lengths (IsAlike g) before other alike ∙ sym (same_lengths plans now resumed other go.plans))
      (λ i l m at at'.
      let b = other_at plans now rested before rest.plans i l at in
      let o = other_at plans now resumed other go.plans i m at' in
      let a = beside (IsAlike g) before other i b.x b.at alike in
      let same : IsAlike g b.x o.x = subst (IsAlike g b.x) (found-same (slice_get other i) a.other o.x a.at o.at) a.fact in
      let x = b.x.life.cells in
      let y = o.x.life.cells in
      let life = each-get (IsLifeIn g) rested i l at rest.lives in
      let life' = each-get (IsLifeIn g) resumed i m at' go.lives in
      let still = each-get IsResting rested i l at quiet in
      let still' = each-get IsResting resumed i m at' quiet' in
      record {
        alike = record {
          specs = same_at specs specs resumed other go.specs i m o.x at' o.at ∙ same.specs ∙ sym (same_at specs specs rested before rest.specs i l b.x at b.at);
          parents = alike_parents msgs x y l.life.cells m.life.cells same.specs same.parents same.states (sym b.is) life still (sym o.is) life' still';
          states = alike_states msgs x y l.life.cells m.life.cells same.specs same.parents same.states (sym b.is) life still (sym o.is) life' still';
        };
        effects = alike_effects msgs x y l.life.cells m.life.cells same.specs same.parents same.states (sym b.is) life still (sym o.is) life' still';
        edges = alike_edges msgs x y l.life.cells m.life.cells same.specs same.parents same.states (sym b.is) life still (sym o.is) life' still';
      })
