-- What the lives of a store have done.
use Rattle.std.specs.Prelude.{◌≡◌, ℕ, ◌+◌, ◌-◌, ◌≤◌, ◌<◌, if◌then◌else◌, List, [], ◌∷◌, length, drop, take, Option, None, Some, IfSome}
use Rattle.std.specs.List.{AllByRecursion as Each, list_any}
use Rattle.kap_base.specs.Points.{PointValue}
use Rattle.kap_base.specs.declared.items.Effect.{Effect}
use Rattle.node_core.specs.Meaning.{Answer}
use Rattle.task_run.specs.Graphs.{Placed}
use Rattle.task_run.specs.Courses.{Course, course_effects}
use Rattle.store_records.specs.Held.{is_open, is_open_of}
use Rattle.store_records.specs.declared.task.Life.{Life}

-- the points up to the last stamp of a life; all where it is open
abbrev pub up_to : Option ℕ → List PointValue → List PointValue
up_to None points = points
up_to (Some last) points = take last points

-- what a life has seen of all points
abbrev pub seen_by : Life → List PointValue → List PointValue
seen_by life points = drop (life.first - 1) (up_to life.last points)

-- A life behind n points begins behind some of them, and ends behind some, unless it is open.
pub record LifeFits (n : ℕ) (life : Life) : Type 0 where
  pub first : 0 < life.first
  pub began : life.first ≤ n + 1
  pub ended : IfSome life.last (λ last. last ≤ n)

-- Behind k points, where n more come: the life begins behind these, or is open all the way, or has ended before.
pub data Fares (k n : ℕ) (life : Life) : Type 0 where
  later : k + n < life.first → Fares k n life
  through : 0 < life.first → life.first ≤ k + 1 → IfSome life.last (λ last. k + n ≤ last) → Fares k n life
  before : 0 < life.first → life.first ≤ k + 1 → (last : ℕ) → life.last ≡ Some last → last ≤ k → Fares k n life

-- each does
abbrev pub LivesFit : ℕ → List Life → Type 0
LivesFit n lives = Each (LifeFits n) lives

module _ {P : Type 0} where
  -- the course of a life with these nodes, by all points
  abbrev pub course_of : Life → List (Placed P) → List PointValue → Course P
  course_of life nodes points = record { nodes = nodes; base = life.first - 1; points = seen_by life points }

  -- those of lives, each with its nodes
  abbrev pub courses_of : List Life → List (List (Placed P)) → List PointValue → List (Course P)
  courses_of [] graphs points = []
  courses_of (life ∷ lives) [] points = []
  courses_of (life ∷ lives) (nodes ∷ graphs) points = course_of life nodes points ∷ courses_of lives graphs points

  -- those of the open ones
  abbrev pub open_courses : List Life → List (List (Placed P)) → List PointValue → List (Course P)
  open_courses [] graphs points = []
  open_courses (life ∷ lives) [] points = []
  open_courses (life ∷ lives) (nodes ∷ graphs) points =
      if is_open life then course_of life nodes points ∷ open_courses lives graphs points
      else open_courses lives graphs points

  -- All that the lives have done on the points of their stamps: by stamp, then by life, then by node, then by place.
  abbrev pub stored_effects : (P → Answer) → List Life → List (List (Placed P)) → List PointValue → List Effect
  stored_effects answer lives graphs points = course_effects answer (length points) (courses_of lives graphs points)

-- The number of the life of a task that ends where the task is disabled or deleted, where the first life has this
-- number: the last one that is open.
abbrev pub ending_from : List ℕ → ℕ → List Life → Option ℕ
ending_from id n [] = None
ending_from id n (life ∷ lives) =
    if list_any (is_open_of id) lives then ending_from id (n + 1) lives
    else (if is_open_of id life then Some n else None)
