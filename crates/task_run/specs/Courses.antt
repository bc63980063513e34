-- Lives that begin and end while points come, and what their nodes do.
use Rattle.std.specs.Prelude.{◌≡◌, ◌⊎◌, ℕ, zero, suc, ◌+◌, ◌≤◌, List, [], ◌++◌, flat_map, length, map}
use Rattle.kap_base.specs.Points.{PointValue}
use Rattle.kap_base.specs.declared.items.Effect.{Effect}
use Rattle.kap_base.specs.declared.items.Item.{Item}
use Rattle.node_core.specs.Meaning.{Answer, Given, Input, Move}
use Rattle.task_run.specs.Active.{Active, AreAt, placed}
use Rattle.task_run.specs.Graphs.{Placed, gives_behind, stamped_from}
use Rattle.task_run.specs.Lives.{node_effects_with}
use Rattle.task_run.specs.Merging.{stamps}

-- The course of a life so far: its nodes, how many points came before it began, and the points that it has seen since.
pub record Course (P : Type 0) : Type 0 where
  pub nodes : List (Placed P)
  pub base : ℕ
  pub points : List PointValue

-- what comes with the k stamps above n, stamp by stamp
abbrev pub laters : ℕ → ℕ → (ℕ → List Effect) → List Effect
laters n zero f = []
laters n (suc k) f = laters n k f ++ f (suc (n + k))

module _ {P : Type 0} where
  -- the stamp of the last point that it has seen
  abbrev pub end_of : Course P → ℕ
  end_of c = c.base + length c.points

  -- its points with their stamps
  abbrev pub items_of : Course P → List Item
  items_of c = stamped_from (c.base + 1) c.points

  -- a life of these nodes that begins behind so many points
  abbrev pub begun : ℕ → List (Placed P) → Course P
  begun n nodes = record { nodes = nodes; base = n; points = [] }

  -- lives of these nodes that begin at the first point, and have seen these
  abbrev pub from_first : List PointValue → List (List (Placed P)) → List (Course P)
  from_first points lives = map (λ nodes. record { nodes = nodes; base = 0; points = points }) lives

  -- the course, with more points
  abbrev pub grown : List PointValue → Course P → Course P
  grown new c = record { nodes = c.nodes; base = c.base; points = c.points ++ new }

  -- Behind n points new ones came: a life that is open has seen them; one that has ended hasn't, nor has one that
  -- begins later.
  abbrev pub Goes : ℕ → List PointValue → Course P → Course P → Type 0
  Goes n new c d = ((end_of c ≡ n) × (d ≡ grown new c)) ⊎ (((end_of c ≤ n) ⊎ (c.points ≡ [])) × (d ≡ c))

  module _ (answer : P → Answer) where
    -- what its nodes give
    abbrev pub course_gives : Course P → List Given
    course_gives c = gives_behind answer (end_of c) (items_of c) [] c.nodes

    -- the effects of lives with a stamp, by life, then by node, then by place
    abbrev pub course_effects_with : ℕ → List (Course P) → List Effect
    course_effects_with stamp courses = flat_map (λ c. node_effects_with stamp (course_gives c)) courses

    -- all effects of lives up to a stamp: by stamp, then by life, then by node, then by place
    abbrev pub course_effects : ℕ → List (Course P) → List Effect
    course_effects n courses = flat_map (λ s. course_effects_with s courses) (stamps n)

    -- those with the k stamps above n
    abbrev pub later_effects : ℕ → ℕ → List (Course P) → List Effect
    later_effects n k courses = laters n k (λ s. course_effects_with s courses)

    -- The nodes of a life are in the states that its points have made.
    pub record IsWhere {S : Type 0} (first : P → S) (step : P → S → Input → Move S) (c : Course P)
        (acts : List (Active P S)) : Type 0 where
      pub nodes : map placed acts ≡ c.nodes
      pub at : AreAt answer first step (end_of c) (items_of c) [] acts
