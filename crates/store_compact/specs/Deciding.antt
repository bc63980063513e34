-- Whether a record stays, by what is kept of all records and of those that stay so far.
use Rattle.std.specs.Prelude.{ℕ, Bool, true, not, ◌||◌}
use Rattle.store_records.specs.Held.{has_task, is_enabled}
use Rattle.store_records.specs.declared.rec.Rec.{Rec}
use Rattle.store_records.specs.declared.rec.Rec.TheVariants as kinds
use Rattle.store_kept.specs.Keeping.{KeptValue}
use Rattle.store_compact.specs.Staying.{has_lived, is_snap_at, is_there}

-- The record, whose gate stands at this offset: its task's Define stays where the task is there in the end or had a life; then its Delete
-- stays, and each Enable and Disable that changes something.
abbrev pub is_kept : KeptValue → KeptValue → ℕ → Rec → Bool
is_kept all k at (kinds.Define id script enabled) = is_there id at all.tasks || has_lived at all.lives
is_kept all k at (kinds.Enable id) = not (is_enabled id k.tasks)
is_kept all k at (kinds.Disable id) = is_enabled id k.tasks
is_kept all k at (kinds.Delete id) = has_task id k.tasks
is_kept all k at (kinds.Batch db rp points) = true
is_kept all k at (kinds.Trans transitions) = true
is_kept all k at (kinds.Snap points trans states) = is_snap_at at all.snap
