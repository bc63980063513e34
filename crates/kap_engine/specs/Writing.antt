-- What points that are written leave.
use Rattle.std.specs.Prelude.{◌≡◌, ◌⊎◌, ℕ, ◌+◌, ◌-◌, ◌<◌, ◌≤◌, List, [], ◌∷◌, ◌++◌, Option, Some, length}
use Rattle.std.specs.Option.{option_map_or}
use Rattle.kap_base.specs.Points.{PointValue}
use Rattle.kap_base.specs.declared.items.Effect.{Effect}
use Rattle.kap_io.specs.Disk.{Image}
use Rattle.barrier_snapshot.specs.Snapshots.{IsSnapshot}
use Rattle.effect_text.specs.Lines.{text_behind}
use Rattle.gate_log.specs.declared.log.TheConstants.{BODY_LIMIT}
use Rattle.life_effects.specs.Effects.{open_courses, stored_effects}
use Rattle.node_core.specs.declared.node.Node.{Ghosts}
use Rattle.node_set.specs.Tasks.{Planned}
use Rattle.store_records.specs.Held.{Held}
use Rattle.store_records.specs.Histories.{held}
use Rattle.store_records.specs.Records.{spell_record}
use Rattle.store_records.specs.declared.rec.Rec.{Rec}
use Rattle.store_records.specs.declared.rec.Rec.TheVariants as kinds
use Rattle.store_records.specs.declared.task.Snapshot.{Snapshot}
use Rattle.tick_compile.specs.declared.tasks.Task.{Task}
use Rattle.topic_core.specs.declared.transition.Transition.{Transition}
use Rattle.topic_store.specs.Stores.{IsOn, Stands, StoreState}
use Rattle.engine_runs.specs.Running.{life_events}
use Rattle.engine_runs.specs.Scripts.{names_from}
use Rattle.engine_store.specs.Good.{IsFull, IsGood, graphs_in}
use Rattle.kap_engine.specs.Engines.{EngineValue, IsEngine}
use Rattle.kap_engine.specs.declared.TheConstants.{SNAP_POINTS}

-- how many points stood before a snapshot; none where there is none
abbrev pub snapped_in : Option Snapshot → ℕ
snapped_in snap = option_map_or (λ (s : Snapshot). s.points) snap 0

-- how many stood before the last one of a store
abbrev pub snapped : Held → ℕ
snapped h = snapped_in h.snap

-- the snapshot of what a store holds behind records, with these states
abbrev pub snap_of : List Rec → List ℕ → Rec
snap_of rs states = kinds.Snap (length (held rs).points) (length (held rs).transitions) states

-- the last snapshot is one of all points
pub record IsSnapped (h : Held) : Type 0 where
  pub snap : Snapshot
  pub is : h.snap ≡ Some snap
  pub all : snap.points ≡ length h.points

-- a store holds these points more, and nothing else has changed but its transitions and its last snapshot
pub record HasPoints (new : List PointValue) (before after : Held) : Type 0 where
  pub tasks : after.tasks ≡ before.tasks
  pub lives : after.lives ≡ before.lives
  pub points : after.points ≡ before.points ++ new
  pub changes : after.changes ≡ before.changes + 1

-- a store holds no points more, and nothing else has changed
pub record HasNoPoints (before after : Held) : Type 0 where
  pub tasks : after.tasks ≡ before.tasks
  pub lives : after.lives ≡ before.lives
  pub points : after.points ≡ before.points
  pub changes : after.changes ≡ before.changes

-- a store holds these transitions more, and nothing else has changed but its last snapshot
pub record HasTransitions (more : List Transition) (before after : Held) : Type 0 where
  pub tasks : after.tasks ≡ before.tasks
  pub lives : after.lives ≡ before.lives
  pub points : after.points ≡ before.points
  pub transitions : after.transitions ≡ before.transitions ++ more
  pub changes : after.changes ≡ before.changes

-- a snapshot with these states is longer than a log takes
abbrev pub IsLong : List Rec → List ℕ → Type 0
IsLong rs states = BODY_LIMIT < length (spell_record (snap_of rs states))

-- the store has the snapshot with these states more, or that is longer than a log takes and it is as before
pub data HasSnap (rs : List Rec) (states : List ℕ) (seen : Image) (images : Image → Type 0) (store : StoreState)
    : Type 0 where
  with_snap : IsOn (rs ++ snap_of rs states ∷ []) seen images store → HasSnap rs states seen images store
  too_long : IsLong rs states → IsOn rs seen images store → HasSnap rs states seen images store

module _ {N P S : Type 0} (g : Ghosts N P S) (planned : Planned P) where
  -- A snapshot of what a store holds is longer than a log takes.
  pub record IsSnapLong (rs : List Rec) (tasks : List Task) : Type 0 where
    pub states : List ℕ
    pub are : IsSnapshot g (open_courses (held rs).lives (graphs_in g planned rs tasks) (held rs).points) states
    pub long : IsLong rs states

  -- Behind records a store keeps its last snapshot where it has few points behind it. Else it has a new one, of all
  -- points, unless that is too long.
  pub record HasSnapped (rs rs' : List Rec) (tasks : List Task) : Type 0 where
    pub few : length (held rs').points - snapped (held rs) < SNAP_POINTS → (held rs').snap ≡ (held rs).snap
    pub many : SNAP_POINTS ≤ length (held rs').points - snapped (held rs)
        → IsSnapped (held rs') ⊎ (((held rs').snap ≡ (held rs).snap) × IsSnapLong rs' tasks)

  -- Transitions were stored behind these records, and a snapshot where one was due: the store has all that are due.
  pub record HasStored (rs : List Rec) (tasks : List Task) (more : List Transition) (seen : Image)
      (images : Image → Type 0) (store : StoreState) : Type 0 where
    pub records : List Rec
    pub on : IsOn records seen images store
    pub full : IsFull g planned records
    pub same : full.good.tasks ≡ tasks
    pub holds : HasTransitions more (held rs) (held records)
    pub snapped_is : HasSnapped rs records tasks

  -- while they are, the files stand for a right store with some of them
  pub record StandsStoring (rs : List Rec) (files : Image) : Type 0 where
    pub records : List Rec
    pub stands : Stands records files
    pub good : IsGood g planned records
    pub some : List Transition
    pub holds : HasTransitions some (held rs) (held records)

  -- whatever stood there before
  abbrev pub stands_storing : List Rec → Image → Image → Type 0
  stands_storing rs old files = StandsStoring rs files

  -- The text tells of the effects that the lives of these tasks have on more points.
  pub record TellsOf (rs : List Rec) (tasks : List Task) (new : List PointValue) (text : List ℕ) : Type 0 where
    pub effects : List Effect
    pub more : stored_effects g.answer (held rs).lives (graphs_in g planned rs tasks) ((held rs).points ++ new)
        ≡ stored_effects g.answer (held rs).lives (graphs_in g planned rs tasks) (held rs).points ++ effects
    pub text_is : text ≡ text_behind (names_from (held rs).lives tasks)
        (life_events g planned (held rs).lives tasks (held rs).points) effects

  -- Points were written to an engine that stood over these records: it stands over others, which hold the points more
  -- and the transitions that these make, and a snapshot where one was due. The text tells what the lives did.
  pub record HasWritten (rs : List Rec) (tasks : List Task) (new : List PointValue) (seen : Image)
      (images : Image → Type 0) (e : EngineValue N) (text : List ℕ) : Type 0 where
    pub records : List Rec
    pub engine : IsEngine g planned records seen images e
    pub points : HasPoints new (held rs) (held records)
    pub transitions : (held records).transitions ≡ (held rs).transitions ++ e.stored
    pub snapped_is : HasSnapped rs records tasks
    pub tells : TellsOf rs tasks new text

  -- While points are written the files stand for a right store, with all of them or none, and with the transitions that
  -- it had and the first of those that its points make.
  pub record StandsWriting (rs : List Rec) (new : List PointValue) (files : Image) : Type 0 where
    pub records : List Rec
    pub stands : Stands records files
    pub good : IsGood g planned records
    pub some : List Transition
    pub transitions : (held records).transitions ≡ (held rs).transitions ++ some
    pub none_or_all : HasNoPoints (held rs) (held records) ⊎ HasPoints new (held rs) (held records)

  -- whatever stood there before
  abbrev pub stands_writing : List Rec → List PointValue → Image → Image → Type 0
  stands_writing rs new old files = StandsWriting rs new files
