-- A store that has the transitions of its points.
use Rattle.std.specs.Prelude.{◌≡◌, ℕ, List, ◌++◌, length}
use Rattle.kap_base.specs.Points.{PointValue}
use Rattle.kap_base.specs.Events.{EventValue}
use Rattle.barrier_snapshot.specs.Snapshots.{IsSnapshot}
use Rattle.effect_text.specs.Lines.{events_of}
use Rattle.life_effects.specs.Effects.{open_courses, stored_effects}
use Rattle.node_core.specs.Meaning.{Answer}
use Rattle.node_core.specs.declared.node.Node.{Ghosts}
use Rattle.store_records.specs.Held.{Held}
use Rattle.store_records.specs.Histories.{held}
use Rattle.store_records.specs.declared.rec.Rec.{Rec}
use Rattle.store_records.specs.declared.task.Life.{Life}
use Rattle.task_run.specs.Graphs.{Placed}
use Rattle.topic_core.specs.Topics.{Trans}
use Rattle.topic_core.specs.declared.transition.Transition.{Transition}
use Rattle.topic_store.specs.Snapshots.{LastSnap}

module _ {P : Type 0} (answer : P → Answer) where
  -- the events of lives, which have these nodes, on points
  abbrev pub events_on : List Life → List (List (Placed P)) → List PointValue → List EventValue
  events_on lives graphs points = events_of (stored_effects answer lives graphs points)

  -- the transitions that a store is to hold, whose lives have these nodes
  abbrev pub due_of : List (List (Placed P)) → Held → List Transition
  due_of graphs h = Trans (events_on h.lives graphs h.points)

module _ {N P S : Type 0} (g : Ghosts N P S) (graphs : List (List (Placed P))) where
  -- the states of a snapshot are those of the open lives, where the points so far have brought them, and its number of
  -- transitions is that of these points
  pub record IsSnapOf (h : Held) (trans : ℕ) (states : List ℕ) : Type 0 where
    pub states_are : IsSnapshot g (open_courses h.lives graphs h.points) states
    pub trans_are : trans ≡ length (due_of g.answer graphs h)

  -- A store with these records holds the first of its transitions, and its last snapshot, where there is one, is right.
  pub record IsConsistent (rs : List Rec) : Type 0 where
    pub others : List Transition
    pub prefix : due_of g.answer graphs (held rs) ≡ (held rs).transitions ++ others
    pub snap : (s : LastSnap rs) → IsSnapOf (held s.before) s.trans s.states

  -- it holds just these transitions
  pub record IsWhole (rs : List Rec) : Type 0 where
    pub consistent : IsConsistent rs
    pub all : due_of g.answer graphs (held rs) ≡ (held rs).transitions
