-- Lives that are made from plans.
use Rattle.std.specs.Prelude.{◌≡◌, ℕ, ◌+◌, ◌<◌, ◌≤◌, ⊤, List, [], ◌∷◌, ◌++◌, Some, length, slice_get}
use Rattle.std.specs.List.{AllByRecursion as Each, AllZip, remove}
use Rattle.merge_node.specs.declared.TheConstants.{PARENT_LIMIT}
use Rattle.node_core.specs.declared.node.Node.{Ghosts}
use Rattle.flow_cells.specs.Made.{HasNothing, one_or_more}
use Rattle.flow_life.specs.Making.{HasCarriedNothing, IsClean, nodes_of, passed_of}
use Rattle.flow_life.specs.Steps.{AreQuiet}
use Rattle.flow_life.specs.Wired.{parents_of}
use Rattle.task_run.specs.Plans.{PlanValue}
use Rattle.flow_core.specs.Nets.{IsSound, NumberedLife, numbers_of}

-- no node has more parents than a merge can have
abbrev pub HasFewParents : {N : Type 0} → PlanValue N → Type 0
HasFewParents plan = Each (λ (ps : List ℕ). length ps ≤ PARENT_LIMIT) plan.parents

-- a node that can be added behind so many cells, with these parents
pub record CanAdd (at ports : ℕ) (parents : List ℕ) : Type 0 where
  pub earlier : Each (λ (p : ℕ). p < at) parents
  pub few : length parents ≤ PARENT_LIMIT
  pub enough : one_or_more (length parents) ≤ ports

-- and so each of these nodes, one behind the other
abbrev pub CanAddAll : {N : Type 0} → (N → ℕ) → ℕ → List N → List (List ℕ) → Type 0
CanAddAll ports at [] [] = ⊤
CanAddAll ports at [] (ps ∷ pss) = ⊥
CanAddAll ports at (n ∷ nodes) [] = ⊥
CanAddAll ports at (n ∷ nodes) (ps ∷ pss) = CanAdd at (ports n) ps × CanAddAll ports (at + 1) nodes pss

module _ {N P S : Type 0} (g : Ghosts N P S) where
  -- A life of a plan, with its number, nodes and parents. It is at rest, no edge has carried a message, no item came to
  -- a cell since the last barrier that it passed, and this has this stamp.
  pub record IsLifeBehind (stamp : ℕ) (plan : PlanValue N) (l : NumberedLife N) : Type 0 where
    pub number : l.number ≡ plan.life
    pub nodes : nodes_of l.life.cells ≡ plan.nodes
    pub parents : parents_of l.life.cells ≡ plan.parents
    pub rest : AreQuiet l.life.cells
    pub empty : Each HasCarriedNothing l.life.cells
    pub nothing : Each HasNothing l.life.cells
    pub clean : Each IsClean l.life.cells
    pub passed : Each (λ b. b ≡ stamp) (passed_of l.life.cells)
    pub sound : IsSound l

  -- the same where the stamp is 0
  abbrev pub IsLifeOf : PlanValue N → NumberedLife N → Type 0
  IsLifeOf = IsLifeBehind 0

  -- a life of each plan, in their order, behind a barrier with this stamp
  abbrev pub AreLivesBehind : ℕ → List (PlanValue N) → List (NumberedLife N) → Type 0
  AreLivesBehind stamp plans lives = AllZip (IsLifeBehind stamp) plans lives

  -- the same where the stamp is 0
  abbrev pub AreLivesOf : List (PlanValue N) → List (NumberedLife N) → Type 0
  AreLivesOf plans lives = AllZip IsLifeOf plans lives

  -- a life of the plan, behind a barrier with this stamp, comes behind the others, and these stay
  pub record Begins (stamp : ℕ) (plan : PlanValue N) (lives lives' : List (NumberedLife N)) : Type 0 where
    pub life : NumberedLife N
    pub made : IsLifeBehind stamp plan life
    pub is : lives' ≡ lives ++ life ∷ []

-- the life at a place, which has this number, is gone, and the others stay
pub record Ends {N : Type 0} (number : ℕ) (lives lives' : List (NumberedLife N)) : Type 0 where
  pub place : ℕ
  pub within : place < length lives
  pub has : slice_get (numbers_of lives) place ≡ Some number
  pub is : lives' ≡ remove lives place
