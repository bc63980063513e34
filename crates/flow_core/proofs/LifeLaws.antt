-- The nodes of the cells of a life: as a plan has them, and at a load.
use Rattle.std.proofs.Common.{◌≡◌, ℕ, List, [], ◌∷◌, map, zip, refl, sym, ap, ◌∙◌}
use Rattle.std.specs.List.{AllZip}
use Rattle.kap_base.specs.declared.items.Msg.{Msg}
use Rattle.node_core.specs.declared.node.Node.{Ghosts}
use Rattle.flow_cells.specs.declared.parts.InEdge.{InEdge}
use Rattle.flow_cells.specs.declared.parts.CellParts.{CellParts}
use Rattle.task_run.specs.Active.{AreFirst, placed}
use Rattle.task_run.specs.Graphs.{Placed}
use Rattle.task_run.specs.Plans.{AreFirstNodes, PlanValue, graph_of}
use Rattle.flow_life.specs.Loads.{own_of, plan_now}
use Rattle.flow_life.specs.Making.{nodes_of}
use Rattle.flow_life.specs.Nodes.{specs_of}
use Rattle.flow_life.specs.Streams.{Plan, plans_of}
use Rattle.flow_life.specs.Wired.{parents_of}
use Rattle.flow_core.specs.LifeLoads.{acts_of}
use Rattle.flow_core.specs.Loads.{IsPlanOf}
use Rattle.flow_core.specs.Making.{IsLifeBehind}
use Rattle.flow_core.specs.Nets.{NumberedLife}

-- nodes by what they are and by their parents
abbrev laid : {P : Type 0} → List P → List (List ℕ) → List (Placed P)
laid [] parents = []
laid (p ∷ ps) [] = []
laid (p ∷ ps) (qs ∷ parents) = record { spec = p; parents = qs } ∷ laid ps parents

module _ {N P S : Type 0} (g : Ghosts N P S) where
  own-source : (ins : List InEdge) (source : List Msg) → map (λ (e : InEdge). e.from) ins ≡ [] → own_of ins source ≡ source
  own-source [] source e = refl
  own-source (i ∷ ins) source e = absurd cc

  -- what is planned at a load is planned of the nodes as they are
  pub planned : (source : List Msg) (cells : List (CellParts N)) → AllZip (IsPlanOf g.step source) (acts_of g cells) (map (plan_now g source) cells)
  planned source [] = tt
  planned source (c ∷ cells) = (record { step_is = refl; start_is = refl; parents_are = refl; source_is = own-source c.ins.items source }, planned source cells)

  placed-plans : (cells : List (CellParts N)) → map placed (acts_of g cells) ≡ laid (specs_of g cells) (map (λ (p : Plan S). p.parents) (plans_of g cells))
  placed-plans [] = refl
  placed-plans (c ∷ cells) = ap (λ (ds : List (Placed P)). record { spec = g.spec c.core.node; parents = map (λ (e : InEdge). e.from) c.ins.items } ∷ ds) (placed-plans cells)

  placed-now : (source : List Msg) (cells : List (CellParts N)) → map placed (acts_of g cells) ≡ laid (specs_of g cells) (map (λ (p : Plan S). p.parents) (map (plan_now g source) cells))
  placed-now source [] = refl
  placed-now source (c ∷ cells) = ap (λ (ds : List (Placed P)). record { spec = g.spec c.core.node; parents = map (λ (e : InEdge). e.from) c.ins.items } ∷ ds) (placed-now source cells)

  -- a load leaves the nodes what they are, with their parents
  pub nodes_loaded : (source : List Msg) (before after : List (CellParts N)) → specs_of g after ≡ specs_of g before → plans_of g after ≡ map (plan_now g source) before → map placed (acts_of g after) ≡ map placed (acts_of g before)
  nodes_loaded source before after specs plans =
      placed-plans after
      ∙ ap (λ (ps : List P). laid ps (map (λ (p : Plan S). p.parents) (plans_of g after))) specs
      ∙ ap (λ (ps : List (Plan S)). laid (specs_of g before) (map (λ (p : Plan S). p.parents) ps)) plans
      ∙ sym (placed-now source before)

  -- ---- lives of plans

  -- nodes in their first states
  pub first-acts : (cells : List (CellParts N)) → AreFirstNodes g.spec g.state g.first (nodes_of cells) → AreFirst g.first (acts_of g cells)
  first-acts [] h = tt
  first-acts (c ∷ cells) h = (h.0, first-acts cells h.1)

  placed-graph : (cells : List (CellParts N)) → map placed (acts_of g cells) ≡ map (λ p. record { spec = g.spec p.0; parents = p.1 }) (zip (nodes_of cells) (parents_of cells))
  placed-graph [] = refl
  placed-graph (c ∷ cells) = ap (λ (ds : List (Placed P)). record { spec = g.spec c.core.node; parents = map (λ (e : InEdge). e.from) c.ins.items } ∷ ds) (placed-graph cells)

  -- the nodes of a life of a plan are those that were planned
  pub graph_behind : (stamp : ℕ) (plan : PlanValue N) (l : NumberedLife N) → IsLifeBehind g stamp plan l → map placed (acts_of g l.life.cells) ≡ graph_of g.spec plan
  graph_behind stamp plan l is =
      placed-graph l.life.cells
      ∙ ap (λ (ns : List N). map (λ p. record { spec = g.spec p.0; parents = p.1 }) (zip ns (parents_of l.life.cells))) is.nodes
      ∙ ap (λ (ps : List (List ℕ)). map (λ p. record { spec = g.spec p.0; parents = p.1 }) (zip plan.nodes ps)) is.parents
