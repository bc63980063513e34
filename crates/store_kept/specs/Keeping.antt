-- What a store keeps of its records, and what it stands for.
use Rattle.std.specs.Prelude.{◌≡◌, ℕ, List, [], ◌∷◌, ◌++◌, length, Option, None, ⊤}
use Rattle.store_records.specs.Held.{Held}
use Rattle.store_records.specs.Histories.{end_of, held}
use Rattle.store_records.specs.Orders.{AreValidLives, AreValidTasks}
use Rattle.store_records.specs.declared.rec.Rec.{Rec}
use Rattle.store_records.specs.declared.task.Life.{Life}
use Rattle.store_records.specs.declared.task.Snapshot.{Snapshot}
use Rattle.store_records.specs.declared.task.StoredTask.{StoredTask}
use Rattle.store_kept.specs.declared.kept.Kept.{Kept}
use Rattle.store_kept.specs.declared.kept.Mark.{Mark}

-- what is kept, as lists
pub record KeptValue : Type 0 where
  pub tasks : List StoredTask
  pub lives : List Life
  pub points : ℕ
  pub transitions : ℕ
  pub changes : ℕ
  pub snap : Option Snapshot
  pub marks : List Mark

-- what is kept, seen as lists
abbrev pub kept_of : Kept → KeptValue
kept_of k = record {
  tasks = k.tasks.items;
  lives = k.lives.items;
  points = k.points;
  transitions = k.transitions;
  changes = k.changes;
  snap = k.snap;
  marks = k.marks.items;
}

-- what is kept of a store without records
abbrev pub kept_nothing : KeptValue
kept_nothing = record { tasks = []; lives = []; points = 0; transitions = 0; changes = 0; snap = None; marks = [] }

-- At the mark stands the gate behind some of the records, and so many points and transitions are stored before it.
pub record IsMark (rs : List Rec) (m : Mark) : Type 0 where
  pub before : List Rec
  pub later : List Rec
  pub split : rs ≡ before ++ later
  pub gate : m.gate ≡ end_of before
  pub points : m.points ≡ length (held before).points
  pub transitions : m.transitions ≡ length (held before).transitions

-- each is a mark of these records
abbrev pub AreMarks : List Rec → List Mark → Type 0
AreMarks rs [] = ⊤
AreMarks rs (m ∷ marks) = IsMark rs m × AreMarks rs marks

-- each task and each life that is kept has a valid id, and a script that isn't too long
pub record AreValid (k : KeptValue) : Type 0 where
  pub tasks : AreValidTasks k.tasks
  pub lives : AreValidLives k.lives

-- What is kept is of a store that holds this: its tasks, lives and last snapshot, and how many points, transitions and
-- changes it has.
pub record Keeps (h : Held) (k : KeptValue) : Type 0 where
  pub tasks : k.tasks ≡ h.tasks
  pub lives : k.lives ≡ h.lives
  pub points : k.points ≡ length h.points
  pub transitions : k.transitions ≡ length h.transitions
  pub changes : k.changes ≡ h.changes
  pub snap : k.snap ≡ h.snap

-- it is of a store with these records
pub record KeepsRecords (rs : List Rec) (k : KeptValue) : Type 0 where
  pub keeps : Keeps (held rs) k
  pub marks : AreMarks rs k.marks
