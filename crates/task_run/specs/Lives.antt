-- The effects and the drops of lives that run side by side.
use Rattle.std.specs.Prelude.{ℕ, List, map, flat_map, length}
use Rattle.kap_base.specs.Points.{PointValue}
use Rattle.kap_base.specs.declared.items.Effect.{Effect}
use Rattle.node_core.specs.Meaning.{Given, Answer}
use Rattle.task_run.specs.Stamps.{of_effect, with_stamp}
use Rattle.task_run.specs.Merging.{stamps}
use Rattle.task_run.specs.Graphs.{Placed, graph_gives}

-- the effects with a stamp
abbrev pub effects_with : ℕ → List Effect → List Effect
effects_with stamp effects = with_stamp of_effect stamp effects

-- the effects with a stamp of nodes, by node, then by place
abbrev pub node_effects_with : ℕ → List Given → List Effect
node_effects_with stamp gives = flat_map (λ g. effects_with stamp g.effects) gives

module _ {P : Type 0} (answer : P → Answer) where
  -- the effects with a stamp of all lives, by life, then by node, then by place
  abbrev pub life_effects_with : ℕ → List (List (Placed P)) → List PointValue → List Effect
  life_effects_with stamp lives points =
      flat_map (λ nodes. node_effects_with stamp (graph_gives answer points nodes)) lives

  -- all effects of all lives: by stamp, then by life, then by node, then by place
  abbrev pub effects_of : List (List (Placed P)) → List PointValue → List Effect
  effects_of lives points = flat_map (λ s. life_effects_with s lives points) (stamps (length points))

  -- how many inputs each node of each life dropped and counted
  abbrev pub dropped_of : List (List (Placed P)) → List PointValue → List (List ℕ)
  dropped_of lives points = map (λ nodes. map (λ g. g.drops) (graph_gives answer points nodes)) lives
