-- Nets whose lives are where their points have brought them.
use Rattle.std.specs.Prelude.{◌≡◌, ◌≤◌, ◌+◌, ℕ, ⊤, false, List, [], ◌∷◌, map}
use Rattle.std.specs.List.{AllByRecursion as Each, AllZip}
use Rattle.node_core.specs.declared.node.Node.{Ghosts}
use Rattle.task_run.specs.Courses.{Course, IsWhere, end_of}
use Rattle.task_run.specs.EffectOrder.{NodesNumbered}
use Rattle.task_run.specs.Graphs.{Placed}
use Rattle.flow_core.specs.LifeLoads.{acts_of}
use Rattle.flow_core.specs.Nets.{IsResting, NetValue, NumberedLife, numbers_of}

-- the nodes of each life
abbrev pub nodes_in : {P : Type 0} → List (Course P) → List (List (Placed P))
nodes_in courses = map (λ c. c.nodes) courses

-- numbers that rise from here on
abbrev pub NumbersRise : ℕ → List ℕ → Type 0
NumbersRise low [] = ⊤
NumbersRise low (n ∷ numbers) = (low ≤ n) × NumbersRise (n + 1) numbers

module _ {N P S : Type 0} (g : Ghosts N P S) where
  -- the nodes of a life in a net are those of a course, where its points have brought them
  abbrev pub IsOnCourse : Course P → NumberedLife N → Type 0
  IsOnCourse c l = IsWhere g.answer g.first g.step c (acts_of g l.life.cells)

  -- the nodes of a course are those of the life with this number, each with its place
  abbrev pub IsNumbered : ℕ → Course P → Type 0
  IsNumbered which c = NodesNumbered g.life g.number which 0 c.nodes

  -- and so those of each
  abbrev pub AreNumberedBy : List ℕ → List (Course P) → Type 0
  AreNumberedBy numbers courses = AllZip IsNumbered numbers courses

  -- A net stands behind n points: it is at rest, all that its nodes did was collected, and its last barrier isn't above
  -- them. Its lives have seen the points up to there, and are where these have brought them. Their numbers rise, so
  -- that no two have the same one.
  pub record StandsAt (n : ℕ) (courses : List (Course P)) (net : NetValue N) : Type 0 where
    pub unspent : net.spent ≡ false
    pub rest : Each IsResting net.lives
    pub none : net.gathered ≡ []
    pub last : net.last.0 ≤ n
    pub ends : Each (λ c. end_of c ≡ n) courses
    pub lives : AllZip IsOnCourse courses net.lives
    pub numbered : AreNumberedBy (numbers_of net.lives) courses
    pub rise : NumbersRise 0 (numbers_of net.lives)
