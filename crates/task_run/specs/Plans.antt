-- What is planned of a life.
use Rattle.std.specs.Prelude.{◌≡◌, ℕ, ◌+◌, ◌<◌, ⊤, List, [], ◌∷◌, length, map, max, zip}
use Rattle.task_run.specs.Graphs.{Placed}

-- the number of a life, its nodes, and the parents of each
pub record PlanValue (N : Type 0) : Type 0 where
  pub life : ℕ
  pub nodes : List N
  pub parents : List (List ℕ)

-- each is below this number
abbrev pub AreBelow : ℕ → List ℕ → Type 0
AreBelow number [] = ⊤
AreBelow number (p ∷ ps) = (p < number) × AreBelow number ps

-- The node with this number in this life: it takes the items of earlier nodes, of one at least unless it is the stream,
-- and is made for as many ports.
pub record IsNodeAt (life number ports its_life its_number : ℕ) (parents : List ℕ) : Type 0 where
  pub life_is : its_life ≡ life
  pub number_is : its_number ≡ number
  pub earlier : AreBelow number parents
  pub some_parent : 0 < number → 0 < length parents
  pub ports_are : ports ≡ max 1 (length parents)

module _ {N P : Type 0} (spec : N → P) (ports life number : P → ℕ) where
  -- nodes of this life, numbered from here on
  abbrev pub AreNodesFrom : ℕ → ℕ → List N → List (List ℕ) → Type 0
  AreNodesFrom which at [] [] = ⊤
  AreNodesFrom which at [] (ps ∷ pss) = ⊥
  AreNodesFrom which at (n ∷ ns) [] = ⊥
  AreNodesFrom which at (n ∷ ns) (ps ∷ pss) =
      IsNodeAt which at (ports (spec n)) (life (spec n)) (number (spec n)) ps × AreNodesFrom which (at + 1) ns pss

  -- a stream and further nodes, each at its place
  pub record IsPlan (plan : PlanValue N) : Type 0 where
    pub some_node : 0 < length plan.nodes
    pub nodes : AreNodesFrom plan.life 0 plan.nodes plan.parents

module _ {N P : Type 0} (spec : N → P) where
  -- the graph that is planned: the nodes with their parents
  abbrev pub graph_of : PlanValue N → List (Placed P)
  graph_of plan = map (λ p. record { spec = spec p.0; parents = p.1 }) (zip plan.nodes plan.parents)

  module _ {S : Type 0} (state : N → S) (first : P → S) where
    -- each node is in its first state
    abbrev pub AreFirstNodes : List N → Type 0
    AreFirstNodes [] = ⊤
    AreFirstNodes (n ∷ ns) = (state n ≡ first (spec n)) × AreFirstNodes ns

    -- and so in all plans
    abbrev pub AreFirstStates : List (PlanValue N) → Type 0
    AreFirstStates [] = ⊤
    AreFirstStates (plan ∷ plans) = AreFirstNodes plan.nodes × AreFirstStates plans
