-- What a load makes of the nodes of a graph.
use Rattle.std.specs.Prelude.{◌≡◌, List, []}
use Rattle.kap_base.specs.declared.items.Effect.{Effect}
use Rattle.kap_base.specs.declared.items.Msg.{Msg}
use Rattle.node_core.specs.Meaning.{Input, Move}
use Rattle.task_run.specs.Active.{Active}
use Rattle.flow_life.specs.Streams.{IsStream, Plan, run_from}

module _ {P S : Type 0} (step : P → S → Input → Move S) where
  -- at a load with these messages this is what is planned of a node in its state
  pub record IsPlanOf (source : List Msg) (a : Active P S) (p : Plan S) : Type 0 where
    pub step_is : p.step ≡ step a.spec
    pub start_is : p.start ≡ a.state
    pub parents_are : p.parents ≡ a.parents
    pub source_is : p.parents ≡ [] → p.source ≡ source

module _ {P S : Type 0} where
  -- a node is in the state in which its run on its merged streams ends
  abbrev pub EndsIn : List (List Msg) → Plan S → Active P S → Type 0
  EndsIn streams p a =
      (stream : List Msg) (whole : IsStream streams p stream) → a.state ≡ (run_from p whole.merged).state

module _ {S : Type 0} where
  -- a node does this in its run on its merged streams
  abbrev pub Does : List (List Msg) → Plan S → List Effect → Type 0
  Does streams p effects =
      (stream : List Msg) (whole : IsStream streams p stream) → effects ≡ (run_from p whole.merged).effects
