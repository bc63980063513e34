-- What the nodes of a graph give for all points.
use Rattle.std.specs.Prelude.{ℕ, ◌+◌, List, [], ◌∷◌, ◌++◌, map, length, slice_index_or}
use Rattle.kap_base.specs.Points.{PointValue}
use Rattle.kap_base.specs.declared.items.Item.{Item}
use Rattle.kap_base.specs.declared.items.Body.TheVariants as bodies
use Rattle.node_core.specs.Meaning.{Given, Answer, given}
use Rattle.task_run.specs.Merging.{merged}

-- A node of a graph: what it is, and the numbers of the earlier nodes whose items it takes, port by port. The stream
-- has none.
pub record Placed (P : Type 0) : Type 0 where
  pub spec : P
  pub parents : List ℕ

-- points as items, stamped from here on
abbrev pub stamped_from : ℕ → List PointValue → List Item
stamped_from stamp [] = []
stamped_from stamp (p ∷ ps) =
    record { stamp = record { 0 = stamp }; body = bodies.Point p } ∷ stamped_from (stamp + 1) ps

-- what earlier nodes give out, node by node
abbrev pub outs_of : List Given → List (List Item)
outs_of gives = map (λ g. g.items) gives

-- the lists that a node takes: what its parents give out, and the points where it has no parents
abbrev pub lists_of : List Item → List (List Item) → List ℕ → List (List Item)
lists_of points outs [] = points ∷ []
lists_of points outs (p ∷ ps) = map (λ i. slice_index_or outs i []) (p ∷ ps)

module _ {P : Type 0} (answer : P → Answer) where
  -- what a node gives for the merged lists that it takes, where the earlier nodes give this
  abbrev pub node_gives : ℕ → List Item → List Given → Placed P → Given
  node_gives n points earlier node =
      given (answer node.spec) (merged n (lists_of points (outs_of earlier) node.parents))

  -- what nodes give that come behind earlier ones
  abbrev pub gives_behind : ℕ → List Item → List Given → List (Placed P) → List Given
  gives_behind n points earlier [] = []
  gives_behind n points earlier (node ∷ nodes) =
      let g = node_gives n points earlier node in g ∷ gives_behind n points (earlier ++ g ∷ []) nodes

  -- what each node of a graph gives for points that are stamped from 1 on
  abbrev pub graph_gives : List PointValue → List (Placed P) → List Given
  graph_gives points nodes = gives_behind (length points) (stamped_from 1 points) [] nodes
