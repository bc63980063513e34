-- The nodes of a task.
use Rattle.std.specs.Prelude.{◌≡◌, ℕ, ◌+◌, List, [], ◌∷◌, IsTrue, max}
use Rattle.kap_base.specs.Tree.{Tree}
use Rattle.task_graph.specs.Edges.{is_stream}
use Rattle.task_graph.specs.Graphs.{is_fit}
use Rattle.task_graph.specs.declared.spec.NodeSpec.{NodeSpec}
use Rattle.task_graph.specs.declared.spec.Spec.{Spec}
use Rattle.task_run.specs.Graphs.{Placed}

-- what a node is that a script makes: in a task of this id, in a life of it, and with a number there
abbrev pub Planned : Type 0 → Type 0
Planned P = List ℕ → ℕ → ℕ → NodeSpec Tree → P

module _ {P : Type 0} (planned : Planned P) where
  -- the node that a script's node is, and its parents
  abbrev pub placed : List ℕ → ℕ → ℕ → NodeSpec Tree → Placed P
  placed task life number node = record { spec = planned task life number node; parents = node.parents }

  -- the nodes that a script's nodes are, in a task of this id, in a life of it and numbered there from here on
  abbrev pub nodes_from : List ℕ → ℕ → ℕ → List (NodeSpec Tree) → List (Placed P)
  nodes_from task life number [] = []
  nodes_from task life number (node ∷ nodes) = placed task life number node ∷ nodes_from task life (number + 1) nodes

module _ {P : Type 0} (ports life_of number_of : P → ℕ) where
  -- The node of what a script hands to one with so many parents sits in this life with this number, and has a port for
  -- each of the parents, where it fits them; the stream has one.
  pub record Sits (life number parents : ℕ) (spec : Spec Tree) (at : P) : Type 0 where
    pub life_is : life_of at ≡ life
    pub number_is : number_of at ≡ number
    pub ports_are : IsTrue (is_fit parents spec) → ports at ≡ max 1 parents
    pub stream_port : IsTrue (is_stream spec) → ports at ≡ 1
