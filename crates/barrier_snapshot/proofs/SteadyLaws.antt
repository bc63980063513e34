-- Streams whose nodes have one state alone stay so, and have passed each barrier of a load.
use Rattle.std.proofs.Common.{◌≡◌, List, [], ◌∷◌, ◌++◌, map, refl, sym, ap, subst, inr}
use Rattle.std.specs.Prelude.{⊤, Contains}
use Rattle.std.specs.List.{AllByRecursion as Each}
use Rattle.kap_base.specs.declared.items.Msg.{Msg}
use Rattle.kap_base.specs.declared.items.Stamp.{Stamp}
use Rattle.node_core.specs.declared.node.Node.{Ghosts}
use Rattle.merge_node.specs.Merge.{barriers}
use Rattle.flow_cells.specs.declared.parts.CellParts.{CellParts}
use Rattle.flow_cells.specs.declared.parts.InEdge.{InEdge}
use Rattle.flow_life.specs.Loads.{own_of, plan_now}
use Rattle.flow_life.specs.Making.{nodes_of}
use Rattle.flow_life.specs.Nodes.{specs_of}
use Rattle.flow_life.specs.Streams.{Plan, plan_of, plans_of}
use Rattle.flow_life.specs.Wired.{parents_of}
use Rattle.flow_core.specs.Making.{AreLivesOf}
use Rattle.flow_core.specs.Nets.{NumberedLife, plans_from, plans_in, specs_in}
use Rattle.task_run.specs.Plans.{PlanValue}
use Rattle.barrier_snapshot.specs.Barriers.{HasPassed, HavePassed, NeverChanges, cells_in}
use Rattle.barrier_snapshot.specs.Passing.{AreBehind, IsBehind}
use Rattle.barrier_snapshot.specs.Steady.{AllSteady, AreSteady, HasSteadyStream, HasSteadyStreams, IsSteady, StreamsNeverChange}

map-none : {A B : Type 0} (f : A → B) (xs : List A) → map f xs ≡ [] → xs ≡ []
map-none f [] e = refl
map-none f (x ∷ xs) e = absurd cc

behind-split : {N : Type 0} (upto : Stamp) (cells others : List (CellParts N)) → AreBehind upto (cells ++ others) → AreBehind upto cells × AreBehind upto others
behind-split upto [] others all = (tt, all)
behind-split upto (c ∷ cells) others all = let rest = behind-split upto cells others all.1 in ((all.0, rest.0), rest.1)

module _ {N P S : Type 0} (g : Ghosts N P S) where
  -- ---- what has passed

  passed-own : (upto : Stamp) (c : CellParts N) (ins : List InEdge) → c.ins.items ≡ ins → IsBehind upto c ins → IsSteady g upto (plan_of g c) (g.spec c.core.node) → HasPassed g upto c ins
  passed-own upto c [] is behind steady = let s = steady (ap (map (λ (e : InEdge). e.from)) is) in (behind, inr (s.0, s.1))
  passed-own upto c (e ∷ ins) is behind steady = behind

  passed-cells : (upto : Stamp) (cells : List (CellParts N)) → AreBehind upto cells → AreSteady g upto (plans_of g cells) (specs_of g cells) → HavePassed g upto cells
  passed-cells upto [] behind steady = tt
  passed-cells upto (c ∷ cells) behind steady = (passed-own upto c c.ins.items refl behind.0 steady.0, passed-cells upto cells behind.1 steady.1)

  passed-append : (upto : Stamp) (cells others : List (CellParts N)) → HavePassed g upto cells → HavePassed g upto others → HavePassed g upto (cells ++ others)
  passed-append upto [] others first behind = behind
  passed-append upto (c ∷ cells) others first behind = (first.0, passed-append upto cells others first.1 behind)

  -- where the others have passed a barrier, streams that are steady have
  pub steady_passed : (upto : Stamp) (lives : List (NumberedLife N)) → AreBehind upto (cells_in lives) → HasSteadyStreams g upto lives → HavePassed g upto (cells_in lives)
  steady_passed upto [] behind steady = tt
  steady_passed upto (l ∷ lives) behind steady =
      let parts = behind-split upto l.life.cells (cells_in lives) behind in
      passed-append upto l.life.cells (cells_in lives) (passed-cells upto l.life.cells parts.0 steady.0) (steady_passed upto lives parts.1 steady.1)

  -- ---- what is made, and loaded

  -- no input changes the states of the streams of lives
  abbrev pub NeverIn : List (NumberedLife N) → Type 0
  NeverIn [] = ⊤
  NeverIn (l ∷ lives) = StreamsNeverChange g (nodes_of l.life.cells) (parents_of l.life.cells) × NeverIn lives

  made-never : (plans : List (PlanValue N)) (lives : List (NumberedLife N)) → AreLivesOf g plans lives → Each (HasSteadyStream g) plans → NeverIn lives
  made-never [] [] are steady = tt
  made-never [] (l ∷ lives) are steady = absurd are
  made-never (p ∷ plans) [] are steady = absurd are
  made-never (p ∷ plans) (l ∷ lives) are steady = (
    subst (λ (ns : List N). StreamsNeverChange g ns (parents_of l.life.cells)) (sym are.0.nodes)
        (subst (StreamsNeverChange g p.nodes) (sym are.0.parents) steady.0),
    made-never plans lives are.1 steady.1,
  )

  steady-now : (upto : Stamp) (msgs : List Msg) (c : CellParts N) → Contains (barriers msgs) upto → (map (λ (e : InEdge). e.from) c.ins.items ≡ [] → NeverChanges g (g.spec c.core.node)) → IsSteady g upto (plan_now g msgs c) (g.spec c.core.node)
  steady-now upto msgs c has never = λ none.
      let own : own_of c.ins.items msgs ≡ msgs = ap (λ (ins : List InEdge). own_of ins msgs) (map-none (λ (e : InEdge). e.from) c.ins.items none) in
      (inr (subst (λ (l : List Msg). Contains (barriers l) upto) (sym own) has), never none)

  steady-cells : (upto : Stamp) (msgs : List Msg) (cells : List (CellParts N)) → Contains (barriers msgs) upto → StreamsNeverChange g (nodes_of cells) (parents_of cells) → AreSteady g upto (map (plan_now g msgs) cells) (specs_of g cells)
  steady-cells upto msgs [] has never = tt
  steady-cells upto msgs (c ∷ cells) has never = (steady-now upto msgs c has never.0, steady-cells upto msgs cells has never.1)

  steady-lives : (upto : Stamp) (msgs : List Msg) (lives : List (NumberedLife N)) → Contains (barriers msgs) upto → NeverIn lives → AllSteady g upto (plans_from g msgs lives) (specs_in g lives)
  steady-lives upto msgs [] has never = tt
  steady-lives upto msgs (l ∷ lives) has never = (steady-cells upto msgs l.life.cells has never.0, steady-lives upto msgs lives has never.1)

  -- the streams of lives of plans are steady in a load with this barrier
  pub loaded_steady : (upto : Stamp) (msgs : List Msg) (plans : List (PlanValue N)) (lives after : List (NumberedLife N)) → AreLivesOf g plans lives → Each (HasSteadyStream g) plans → Contains (barriers msgs) upto → plans_in g after ≡ plans_from g msgs lives → specs_in g after ≡ specs_in g lives → HasSteadyStreams g upto after
  loaded_steady upto msgs plans lives after are steady has planned specs =
      subst (AllSteady g upto (plans_in g after)) (sym specs)
      (subst (λ (ps : List (List (Plan S))). AllSteady g upto ps (specs_in g lives)) (sym planned) (steady-lives upto msgs lives has (made-never plans lives are steady)))

  -- and stay so
  pub same_steady : (upto : Stamp) (lives after : List (NumberedLife N)) → plans_in g after ≡ plans_in g lives → specs_in g after ≡ specs_in g lives → HasSteadyStreams g upto lives → HasSteadyStreams g upto after
  same_steady upto lives after planned specs steady =
      subst (AllSteady g upto (plans_in g after)) (sym specs)
      (subst (λ (ps : List (List (Plan S))). AllSteady g upto ps (specs_in g lives)) (sym planned) steady)

behind-append : {N : Type 0} (upto : Stamp) (cells others : List (CellParts N)) → AreBehind upto cells → AreBehind upto others → AreBehind upto (cells ++ others)
behind-append upto [] others first behind = behind
behind-append upto (c ∷ cells) others first behind = (first.0, behind-append upto cells others first.1 behind)

-- a barrier is the last one of a life's cells and of the others'
pub behind_whole : {N : Type 0} (upto : Stamp) (lives : List (NumberedLife N)) (l : NumberedLife N) (others : List (NumberedLife N)) → lives ≡ l ∷ others → AreBehind upto l.life.cells → AreBehind upto (cells_in others) → AreBehind upto (cells_in lives)
behind_whole {N = N} upto lives l others is first behind = subst (λ (ls : List (NumberedLife N)). AreBehind upto (cells_in ls)) (sym is) (behind-append upto l.life.cells (cells_in others) first behind)

pub behind_parts : {N : Type 0} (upto : Stamp) (lives : List (NumberedLife N)) (l : NumberedLife N) (others : List (NumberedLife N)) → lives ≡ l ∷ others → AreBehind upto (cells_in lives) → AreBehind upto l.life.cells × AreBehind upto (cells_in others)
behind_parts {N = N} upto lives l others is all = behind-split upto l.life.cells (cells_in others) (subst (λ (ls : List (NumberedLife N)). AreBehind upto (cells_in ls)) is all)
