-- Which records of a store stay where it is compacted. Left out are records that changed nothing, Snap records but the last, and Define
-- and Delete of tasks that never had a life and are deleted; all others keep their order.
use Rattle.std.specs.Prelude.{ℕ, Bool, true, false, not, ◌&&◌, ◌||◌, ◌==◌, if◌then◌else◌, List, [], ◌∷◌, ◌++◌, Option}
use Rattle.std.specs.List.{list_any}
use Rattle.std.specs.Option.{option_map_or}
use Rattle.store_records.specs.Held.{Held, after, is_called, is_enabled, nothing, task_of}
use Rattle.store_records.specs.Histories.{first_gate, held, next_gate}
use Rattle.store_records.specs.declared.rec.Rec.{Rec}
use Rattle.store_records.specs.declared.rec.Rec.TheVariants as kinds
use Rattle.store_records.specs.declared.task.Life.{Life}
use Rattle.store_records.specs.declared.task.Snapshot.{Snapshot}
use Rattle.store_records.specs.declared.task.StoredTask.{StoredTask}

-- among these tasks is the one of this id that the record at this offset defined
abbrev pub is_there : List ℕ → ℕ → List StoredTask → Bool
is_there id at tasks = list_any (λ task. is_called id task && (task.define_at == at)) tasks

-- among these lives is one of the task that the record at this offset defined
abbrev pub has_lived : ℕ → List Life → Bool
has_lived at lives = list_any (λ life. life.define_at == at) lives

-- the snapshot's record stands at this offset
abbrev pub is_snap_at : ℕ → Option Snapshot → Bool
is_snap_at at snap = option_map_or (λ s. s.at == at) snap false

-- Whether the record stays, whose gate stands at this offset, of a store that holds `h` before it and `all` behind its last record: an
-- Enable where the task wasn't enabled, a Disable where it was; a Define of a task that is there in the end, or that had a life, and a
-- Delete of a task that had a life; the last Snap; each Batch and Trans.
abbrev pub stays : Held → Held → ℕ → Rec → Bool
stays all h at (kinds.Define id script enabled) = is_there id at all.tasks || has_lived at all.lives
stays all h at (kinds.Enable id) = not (is_enabled id h.tasks)
stays all h at (kinds.Disable id) = is_enabled id h.tasks
stays all h at (kinds.Delete id) = option_map_or (λ task. has_lived task.define_at all.lives) (task_of id h.tasks) false
stays all h at (kinds.Batch db rp points) = true
stays all h at (kinds.Trans transitions) = true
stays all h at (kinds.Snap points trans states) = is_snap_at at all.snap

-- the record, or none
abbrev pub if_stays : Bool → Rec → List Rec
if_stays stay r = if stay then r ∷ [] else []

-- those of the records that stay, the first of whose gates stands at this offset, behind records of a store that holds `h`
abbrev pub staying_from : Held → Held → ℕ → List Rec → List Rec
staying_from all h at [] = []
staying_from all h at (r ∷ rs) = if_stays (stays all h at r) r ++ staying_from all (after h at r) (next_gate at r) rs

-- those of a store's first records that stay, of all its records
abbrev pub staying_of : List Rec → List Rec → List Rec
staying_of rs before = staying_from (held rs) nothing first_gate before

-- the records that stay of a store with these records
abbrev pub staying : List Rec → List Rec
staying rs = staying_of rs rs
