-- The nodes of a graph as they run: in their first states, and in those that their inputs so far make.
use Rattle.std.specs.Prelude.{◌≡◌, ℕ, ⊤, List, [], ◌∷◌, ◌++◌, length}
use Rattle.kap_base.specs.Points.{PointValue}
use Rattle.kap_base.specs.declared.items.Item.{Item}
use Rattle.node_core.specs.Meaning.{Given, Input, Answer, Move, fold}
use Rattle.task_run.specs.Merging.{merged}
use Rattle.task_run.specs.Graphs.{Placed, stamped_from, outs_of, lists_of, node_gives}

-- a node of a graph with its state
pub record Active (P S : Type 0) : Type 0 where
  pub spec : P
  pub state : S
  pub parents : List ℕ

-- without its state
abbrev pub placed : {P S : Type 0} → Active P S → Placed P
placed a = record { spec = a.spec; parents = a.parents }

-- each node is in its first state
abbrev pub AreFirst : {P S : Type 0} → (P → S) → List (Active P S) → Type 0
AreFirst first [] = ⊤
AreFirst first (a ∷ acts) = (a.state ≡ first a.spec) × AreFirst first acts

module _ {P S : Type 0} (answer : P → Answer) (first : P → S) (step : P → S → Input → Move S) where
  -- each node is in the state that its input so far makes, behind earlier nodes that give this
  abbrev pub AreAt : ℕ → List Item → List Given → List (Active P S) → Type 0
  AreAt n points earlier [] = ⊤
  AreAt n points earlier (a ∷ acts) =
      (a.state ≡ (fold (step a.spec) (first a.spec) (merged n (lists_of points (outs_of earlier) a.parents))).state)
      × AreAt n points (earlier ++ node_gives answer n points earlier (placed a) ∷ []) acts

  -- each node of a graph is in the state that these points make
  abbrev pub IsAt : List PointValue → List (Active P S) → Type 0
  IsAt points acts = AreAt (length points) (stamped_from 1 points) [] acts
