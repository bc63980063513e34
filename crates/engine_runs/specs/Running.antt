-- The lives of a store, run behind points.
use Rattle.std.specs.Prelude.{◌≡◌, ℕ, ◌<◌, ◌≤◌, true, false, Bool, List, [], ◌++◌, length, drop, map}
use Rattle.std.specs.List.{AllByRecursion as Each}
use Rattle.kap_base.specs.Points.{PointValue}
use Rattle.kap_base.specs.declared.items.Effect.{Effect}
use Rattle.kap_base.specs.Events.{EventValue}
use Rattle.kap_base.specs.declared.items.Stamp.{Stamp}
use Rattle.barrier_snapshot.specs.Resuming.{RestsBehind, StandsBehind}
use Rattle.effect_text.specs.Lines.{task_of, text_behind}
use Rattle.effect_text.specs.declared.names.TaskNames.{TaskNames}
use Rattle.edge_queue.specs.declared.TheConstants.{CAPACITY_LIMIT}
use Rattle.flow_core.specs.Making.{IsLifeBehind}
use Rattle.flow_core.specs.Nets.{IsResting, NetValue, NumberedLife, numbers_of}
use Rattle.life_effects.specs.Effects.{courses_of, stored_effects}
use Rattle.life_effects.specs.Times.{times_fit}
use Rattle.net_epochs.specs.Epochs.{StandsAt}
use Rattle.node_core.specs.declared.node.Node.{Ghosts}
use Rattle.node_set.specs.Tasks.{Planned}
use Rattle.store_records.specs.declared.task.Life.{Life}
use Rattle.task_run.specs.Courses.{Course}
use Rattle.task_run.specs.Plans.{PlanValue}
use Rattle.tick_compile.specs.declared.tasks.Task.{Task}
use Rattle.topic_core.specs.Topics.{StandsFor, Trans, TopicsValue, event_of}
use Rattle.topic_core.specs.declared.transition.Transition.{Transition}
use Rattle.engine_runs.specs.Scripts.{graphs_from, names_from}
use Rattle.engine_runs.specs.Spans.{AreThere, IsAway, numbers_from, picked}
use Rattle.engine_runs.specs.Whole.{events_on}

-- a net, the topics of all events, the names of the lives that have begun, by their numbers, how many points there
-- were, how many messages each edge of a net has room for, and whether a call failed in the middle
pub record RunValue (N : Type 0) : Type 0 where
  pub net : NetValue N
  pub topics : TopicsValue
  pub names : List TaskNames
  pub points : ℕ
  pub capacity : ℕ
  pub spent : Bool

module _ {N P S : Type 0} (g : Ghosts N P S) where
  -- a life rests behind a barrier: it began or was restored there, and nothing came since, or points brought it there
  pub data HasRested (upto : Stamp) (l : NumberedLife N) : Type 0 where
    was_made : (plan : PlanValue N) → IsLifeBehind g upto.0 plan l → HasRested upto l
    was_run : RestsBehind g upto l → HasRested upto l

  -- the lives of a net rest behind its last barrier, which each of their cells has passed, in states that inputs make
  pub record AreRested (net : NetValue N) : Type 0 where
    pub behind : Each (StandsBehind g net.last.0) net.lives
    pub rested : Each (HasRested net.last) net.lives

module _ {N P S : Type 0} (g : Ghosts N P S) (planned : Planned P) (lives : List Life) (tasks : List Task) where
  -- the courses of the lives, whose scripts are these tasks, on points
  abbrev pub courses_on : List PointValue → List (Course P)
  courses_on points = courses_of lives (graphs_from planned 1 lives tasks) points

  -- all their events on points
  abbrev pub life_events : List PointValue → List EventValue
  life_events points = events_on g.answer lives (graphs_from planned 1 lives tasks) points

  -- of the transitions on points those behind the first so many
  abbrev pub due_behind : ℕ → List PointValue → List Transition
  due_behind stored points = drop stored (Trans (life_events points))

  -- A net stands behind points, and names were put down for the first lives. Of these just those run in it, by their
  -- numbers, that are open all the way where n more points come; each is where the points have brought it, rests there,
  -- and has its names.
  pub record LivesRun (points : List PointValue) (n : ℕ) (names : List TaskNames) (net : NetValue N) : Type 0 where
    pub runs : List Bool
    pub long : length runs ≡ length names
    pub there : AreThere (length points) n runs lives
    pub numbers : numbers_of net.lives ≡ picked runs (numbers_from 1 lives)
    pub stands : StandsAt g (length points) (picked runs (courses_on points)) net
    pub rested : AreRested g net
    pub named : Each (λ number. task_of names number ≡ task_of (names_from lives tasks) number) (numbers_of net.lives)

  -- The lives have run on points, and none begins or ends at the next n: the topics are those of all their events, and
  -- the times of the transitions that these make may be stored.
  pub record HasRun (points : List PointValue) (n : ℕ) (r : RunValue N) : Type 0 where
    pub lives_run : LivesRun points n r.names r.net
    pub away : Each (IsAway (length points) n) (drop (length r.names) lives)
    pub topics : StandsFor (life_events points) r.topics
    pub times : times_fit (map event_of (Trans (life_events points))) ≡ true
    pub count : r.points ≡ length points

  -- Behind points the lives ran on more: the text of what they do with these was appended, by the names of all lives,
  -- and the transitions that these points make were put behind others.
  pub record Tells (points new : List PointValue) (text text_after : List ℕ)
      (told told_after : List Transition) : Type 0 where
    pub effects : List Effect
    pub more : stored_effects g.answer lives (graphs_from planned 1 lives tasks) (points ++ new)
        ≡ stored_effects g.answer lives (graphs_from planned 1 lives tasks) points ++ effects
    pub text_is : text_after ≡ text ++ text_behind (names_from lives tasks) (life_events points) effects
    pub told_is : (before : List Transition) → Trans (life_events points) ≡ before ++ told
        → Trans (life_events (points ++ new)) ≡ before ++ told_after

-- it can go on: its net is at rest, its last barrier stands behind the points, and nothing is left to collect
pub record CanGoOn {N : Type 0} (r : RunValue N) : Type 0 where
  pub unspent : r.net.spent ≡ false
  pub rest : Each IsResting r.net.lives
  pub none : r.net.gathered ≡ []
  pub last : r.net.last.0 ≡ r.points
  pub some : 0 < r.capacity
  pub limit : r.capacity ≤ CAPACITY_LIMIT
