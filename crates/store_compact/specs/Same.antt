-- Two stores that hold the same, wherever their records stand.
use Rattle.std.specs.Prelude.{◌≡◌, ℕ, List, [], ◌∷◌, ◌++◌, map, Option, Some, None, option_map}
use Rattle.store_records.specs.Held.{Held}
use Rattle.store_records.specs.Histories.{held}
use Rattle.store_records.specs.declared.rec.Rec.{Rec}
use Rattle.store_records.specs.declared.rec.Rec.TheVariants as kinds
use Rattle.store_records.specs.declared.task.Life.{Life}
use Rattle.store_records.specs.declared.task.Snapshot.{Snapshot}
use Rattle.store_records.specs.declared.task.StoredTask.{StoredTask}

-- a task, a life and a snapshot without the place of the record
abbrev pub unplaced : StoredTask → StoredTask
unplaced task = record task { define_at = 0 }

abbrev pub unplaced_life : Life → Life
unplaced_life life = record life { define_at = 0 }

abbrev pub unplaced_snap : Snapshot → Snapshot
unplaced_snap snap = record snap { at = 0 }

-- They hold the same: all but the places of records, and the number of changes.
pub record HoldSame (a b : Held) : Type 0 where
  pub tasks : map unplaced a.tasks ≡ map unplaced b.tasks
  pub lives : map unplaced_life a.lives ≡ map unplaced_life b.lives
  pub points : a.points ≡ b.points
  pub transitions : a.transitions ≡ b.transitions
  pub snap : option_map unplaced_snap a.snap ≡ option_map unplaced_snap b.snap

-- the later of two records, if there is a later one
abbrev pub later_rec : Option Rec → Option Rec → Option Rec
later_rec None old = old
later_rec (Some new) old = Some new

-- the record where it is a snapshot
abbrev pub if_snap : Rec → Option Rec
if_snap (kinds.Snap points trans states) = Some (kinds.Snap points trans states)
if_snap r = None

-- the last of the records that is a snapshot, with its states
abbrev pub last_snap : List Rec → Option Rec
last_snap [] = None
last_snap (r ∷ rs) = later_rec (last_snap rs) (if_snap r)

-- The last snapshot among these records is this one, behind records of a store that had the same lives, points and transitions as here.
pub record HasLastSnap (h : Held) (points trans : ℕ) (states : List ℕ) (rs : List Rec) : Type 0 where
  pub before : List Rec
  pub behind : List Rec
  pub split : rs ≡ before ++ kinds.Snap points trans states ∷ behind
  pub none_behind : last_snap behind ≡ None
  pub lives : map unplaced_life (held before).lives ≡ map unplaced_life h.lives
  pub points_are : (held before).points ≡ h.points
  pub transitions : (held before).transitions ≡ h.transitions
