-- What a store holds behind its records, and which record may follow.
use Rattle.std.specs.Prelude.{◌≡◌, ℕ, ◌+◌, Bool, true, false, not, ◌&&◌, ◌==◌, if◌then◌else◌, List, [], ◌∷◌, ◌++◌, length, map, Option, Some, None, is_some, IsTrue, bytes_eq, nat_le, nat_lt}
use Rattle.std.specs.List.{find, insert, list_all, list_any, position_or_len, remove}
use Rattle.std.specs.Option.{option_map_or}
use Rattle.std.specs.Ordering.{is_lt}
use Rattle.kap_base.specs.Maps.{byte_order}
use Rattle.kap_base.specs.Texts.{is_task_id}
use Rattle.kap_base.specs.Points.{PointValue, is_time}
use Rattle.kap_base.specs.declared.items.Level.{Level}
use Rattle.kap_base.specs.declared.items.Level.TheVariants.{Fine}
use Rattle.kap_base.specs.Levels.{same_level}
use Rattle.topic_core.specs.Topics.{event_of, last_level}
use Rattle.topic_core.specs.declared.transition.Transition.{Transition}
use Rattle.store_records.specs.Lines.{are_lines, is_of}
use Rattle.store_records.specs.States.{AreStates}
use Rattle.kap_base.specs.declared.limits.TheConstants.{SCRIPT_LIMIT, TASK_LIMIT}
use Rattle.store_records.specs.declared.rec.Rec.{Rec}
use Rattle.store_records.specs.declared.rec.Rec.TheVariants as kinds
use Rattle.store_records.specs.declared.task.Life.{Life}
use Rattle.store_records.specs.declared.task.Snapshot.{Snapshot}
use Rattle.store_records.specs.declared.task.StoredTask.{StoredTask}

-- ---- tasks

-- the task has this id
abbrev pub is_called : List ℕ → StoredTask → Bool
is_called id task = bytes_eq task.id id

-- some task has this id
abbrev pub has_task : List ℕ → List StoredTask → Bool
has_task id tasks = list_any (is_called id) tasks

-- the task of this id
abbrev pub task_of : List ℕ → List StoredTask → Option StoredTask
task_of id tasks = find (is_called id) tasks

-- the task of this id is there and enabled
abbrev pub is_enabled : List ℕ → List StoredTask → Bool
is_enabled id tasks = option_map_or (λ task. task.enabled) (task_of id tasks) false

-- with one more task, before the first whose id is greater
abbrev pub put_task : StoredTask → List StoredTask → List StoredTask
put_task task tasks = insert tasks (position_or_len (λ other. is_lt (byte_order task.id other.id)) tasks) task

-- without the task of this id
abbrev pub remove_task : List ℕ → List StoredTask → List StoredTask
remove_task id tasks = remove tasks (position_or_len (is_called id) tasks)

-- where the task of this id is enabled or isn't
abbrev pub set_enabled : List ℕ → Bool → List StoredTask → List StoredTask
set_enabled id enabled [] = []
set_enabled id enabled (task ∷ tasks) =
    if is_called id task then record task { enabled = enabled } ∷ tasks else task ∷ set_enabled id enabled tasks

-- the task that the record, whose gate stands at this offset, defines
abbrev pub defined : ℕ → Rec → List StoredTask
defined at (kinds.Define id script enabled) =
    record { id = id; script = script; enabled = enabled; define_at = at } ∷ []
defined at r = []

-- the tasks behind the record
abbrev pub tasks_after : ℕ → Rec → List StoredTask → List StoredTask
tasks_after at (kinds.Define id script enabled) tasks =
    put_task (record { id = id; script = script; enabled = enabled; define_at = at }) tasks
tasks_after at (kinds.Enable id) tasks = set_enabled id true tasks
tasks_after at (kinds.Disable id) tasks = set_enabled id false tasks
tasks_after at (kinds.Delete id) tasks = remove_task id tasks
tasks_after at r tasks = tasks

-- ---- lives

-- a life of the task that begins behind n points
abbrev pub life_from : ℕ → StoredTask → Life
life_from n task =
    record { task = task.id; script = task.script; first = n + 1; last = None; define_at = task.define_at }

-- the life that begins where the task is enabled, unless it was so before
abbrev pub life_of : ℕ → Option StoredTask → List Life
life_of n None = []
life_of n (Some task) = if task.enabled then [] else life_from n task ∷ []

-- the life that the record begins: that of a task which it enables, or defines as enabled
abbrev pub begun : ℕ → ℕ → Rec → List StoredTask → List Life
begun n at (kinds.Define id script enabled) tasks =
    if enabled then life_from n (record { id = id; script = script; enabled = enabled; define_at = at }) ∷ [] else []
begun n at (kinds.Enable id) tasks = life_of n (task_of id tasks)
begun n at r tasks = []

-- it has not ended
abbrev pub is_open : Life → Bool
is_open life = not (is_some life.last)

-- an open life of the task of this id
abbrev pub is_open_of : List ℕ → Life → Bool
is_open_of id life = bytes_eq life.task id && is_open life

-- where the open life of the task ends behind n points: the last one that began
abbrev pub end_life : List ℕ → ℕ → List Life → List Life
end_life id n [] = []
end_life id n (life ∷ lives) =
    if list_any (is_open_of id) lives then life ∷ end_life id n lives
    else (if is_open_of id life then record life { last = Some n } else life) ∷ lives

-- where the life of a task ends that the record disables or deletes, and that was enabled
abbrev pub ended : ℕ → Rec → List StoredTask → List Life → List Life
ended n (kinds.Disable id) tasks lives = if is_enabled id tasks then end_life id n lives else lives
ended n (kinds.Delete id) tasks lives = if is_enabled id tasks then end_life id n lives else lives
ended n r tasks lives = lives

-- the numbers of the open lives, the first of which has the number n
abbrev pub open_from : ℕ → List Life → List ℕ
open_from n [] = []
open_from n (life ∷ lives) = if is_open life then n ∷ open_from (n + 1) lives else open_from (n + 1) lives

-- ---- transitions

-- the level of a topic and id behind these transitions, OK where it had none
abbrev pub level_of : List ℕ → List ℕ → List Transition → Level
level_of topic id before = last_level topic id Fine (map event_of before)

-- The transition goes on from so many others, where this is the level of its topic and id: its number is the next one,
-- its old level is that level, its new level another one, and its time lies in the range of times.
abbrev pub goes_on : ℕ → Level → Transition → Bool
goes_on count level t =
    (t.number == count + 1)
    && (same_level t.old_level level && (not (same_level t.old_level t.new_level) && is_time t.time))

-- it goes on from these
abbrev pub is_next : List Transition → Transition → Bool
is_next before t = goes_on (length before) (level_of t.topic t.id before) t

-- each goes on from those before it
abbrev pub are_next : List Transition → List Transition → Bool
are_next before [] = true
are_next before (t ∷ ts) = is_next before t && are_next (before ++ t ∷ []) ts

-- ---- what a store holds

-- Its tasks in byte order of their ids, the lives in the order of their enabling, all points and transitions, the last
-- snapshot, and how many records there are of the kinds that clients ask for: all but transitions and snapshots.
pub record Held : Type 0 where
  pub tasks : List StoredTask
  pub lives : List Life
  pub points : List PointValue
  pub transitions : List Transition
  pub snap : Option Snapshot
  pub changes : ℕ

-- a new store
abbrev pub nothing : Held
nothing = record { tasks = []; lives = []; points = []; transitions = []; snap = None; changes = 0 }

-- the points that a record stores
abbrev pub points_in : Rec → List PointValue
points_in (kinds.Batch db rp points) = points
points_in r = []

-- the transitions that a record stores
abbrev pub transitions_in : Rec → List Transition
transitions_in (kinds.Trans transitions) = transitions
transitions_in r = []

-- the snapshot that the record is
abbrev pub snap_in : ℕ → Rec → List Life → Option Snapshot
snap_in at (kinds.Snap points trans states) lives =
    Some (record { at = at; points = points; transitions = trans; lives = open_from 1 lives })
snap_in at r lives = None

-- the later of two snapshots, if there is a later one
abbrev pub later_of : Option Snapshot → Option Snapshot → Option Snapshot
later_of None old = old
later_of (Some new) old = Some new

-- whether the record is one that clients ask for
abbrev pub is_change : Rec → Bool
is_change (kinds.Trans transitions) = false
is_change (kinds.Snap points trans states) = false
is_change r = true

-- what it holds behind one more record, whose gate stands at this offset
abbrev pub after : Held → ℕ → Rec → Held
after h at r = record {
  tasks = tasks_after at r h.tasks;
  lives = ended (length h.points) r h.tasks h.lives ++ begun (length h.points) at r h.tasks;
  points = h.points ++ points_in r;
  transitions = h.transitions ++ transitions_in r;
  snap = later_of (snap_in at r h.lives) h.snap;
  changes = h.changes + (if is_change r then 1 else 0);
}

-- ---- which record may follow

-- a task may be defined: its id is free and valid, there is room, and the script isn't too long
abbrev pub may_define : List ℕ → List ℕ → List StoredTask → Bool
may_define id script tasks =
    is_task_id id
    && (not (has_task id tasks) && (nat_lt (length tasks) TASK_LIMIT && nat_le (length script) SCRIPT_LIMIT))

-- a snapshot of what is stored
pub record IsSnap (h : Held) (points trans : ℕ) (states : List ℕ) : Type 0 where
  pub points_are : points ≡ length h.points
  pub trans_are : trans ≡ length h.transitions
  pub states_are : AreStates states

-- The record may follow where a store holds this.
abbrev pub MayFollow : Held → Rec → Type 0
MayFollow h (kinds.Define id script enabled) = IsTrue (may_define id script h.tasks)
MayFollow h (kinds.Enable id) = IsTrue (has_task id h.tasks)
MayFollow h (kinds.Disable id) = IsTrue (has_task id h.tasks)
MayFollow h (kinds.Delete id) = IsTrue (has_task id h.tasks)
MayFollow h (kinds.Batch db rp points) = IsTrue (are_lines (db, rp)) × IsTrue (list_all (is_of db rp) points)
MayFollow h (kinds.Trans transitions) = IsTrue (are_next h.transitions transitions)
MayFollow h (kinds.Snap points trans states) = IsSnap h points trans states
