-- Nodes that were made for those of a script, one after the other.
use Rattle.std.specs.Prelude.{◌≡◌, ℕ, ◌+◌, ⊤, List, [], ◌∷◌, ◌++◌, map}
use Rattle.kap_base.specs.Tree.{Tree}
use Rattle.task_graph.specs.declared.spec.NodeSpec.{NodeSpec}
use Rattle.node_set.specs.Tasks.{Planned}

-- what is kept of the nodes that were made: they, the parents of each, and its name
pub record DraftValue (N : Type 0) : Type 0 where
  pub nodes : List N
  pub parents : List (List ℕ)
  pub names : List (List ℕ)

module _ {N P S : Type 0} (spec : N → P) (state : N → S) (first : P → S) (planned : Planned P) where
  -- the node is the one that a script makes, in a task of this id, in its first state
  pub record IsNodeOf (task : List ℕ) (life number : ℕ) (node : NodeSpec Tree) (n : N) : Type 0 where
    pub made : spec n ≡ planned task life number node
    pub begins : state n ≡ first (planned task life number node)

  -- and so are nodes, numbered from here on
  abbrev pub AreNodesOf : List ℕ → ℕ → ℕ → List (NodeSpec Tree) → List N → Type 0
  AreNodesOf task life number [] [] = ⊤
  AreNodesOf task life number [] (n ∷ ns) = ⊥
  AreNodesOf task life number (node ∷ nodes) [] = ⊥
  AreNodesOf task life number (node ∷ nodes) (n ∷ ns) =
      IsNodeOf task life number node n × AreNodesOf task life (number + 1) nodes ns

  -- the nodes of a script were added, numbered from here on
  pub record AddsNodes (task : List ℕ) (life number : ℕ) (nodes : List (NodeSpec Tree))
      (before after : DraftValue N) : Type 0 where
    pub added : List N
    pub are : AreNodesOf task life number nodes added
    pub nodes_are : after.nodes ≡ before.nodes ++ added
    pub parents_are : after.parents ≡ before.parents ++ map (λ n. n.parents) nodes
    pub names_are : after.names ≡ before.names ++ map (λ n. n.name) nodes
