-- What is kept behind one more record.
use Rattle.std.specs.Prelude.{◌≡◌, ℕ, ◌+◌, ◌<◌, ◌++◌, length, Option, if◌then◌else◌, IfSome, vec_capacity, vec_len}
use Rattle.std.specs.Option.{option_to_list}
use Rattle.store_records.specs.Held.{begun, defined, ended, is_change, later_of, points_in, snap_in, tasks_after, transitions_in}
use Rattle.store_records.specs.declared.rec.Rec.{Rec}
use Rattle.store_kept.specs.Keeping.{KeptValue}
use Rattle.store_kept.specs.declared.kept.Kept.{Kept}
use Rattle.store_kept.specs.declared.kept.Mark.{Mark}
use Rattle.store_kept.specs.declared.parts.Parts.{Parts}

-- there is room for one more of each
pub record HasRoom (k : Kept) : Type 0 where
  pub tasks : vec_len k.tasks < vec_capacity k.tasks
  pub lives : vec_len k.lives < vec_capacity k.lives
  pub marks : vec_len k.marks < vec_capacity k.marks

-- what is kept behind the record, whose gate stands at this offset, with this mark
abbrev pub kept_with : ℕ → Rec → Option Mark → KeptValue → KeptValue
kept_with at r mark k = record {
  tasks = tasks_after at r k.tasks;
  lives = ended k.points r k.tasks k.lives ++ begun k.points at r k.tasks;
  points = k.points + length (points_in r);
  transitions = k.transitions + length (transitions_in r);
  changes = k.changes + (if is_change r then 1 else 0);
  snap = later_of (snap_in at r k.lives) k.snap;
  marks = k.marks ++ option_to_list mark;
}

-- the mark is that of the record whose gate stands at this offset
abbrev pub IsMarkAt : ℕ → KeptValue → Mark → Type 0
IsMarkAt at k m = m ≡ record { gate = at; points = k.points; transitions = k.transitions }

-- These are the parts that the record adds, whose gate stands at this offset.
pub record ArePartsFor (at : ℕ) (r : Rec) (k : KeptValue) (parts : Parts) : Type 0 where
  pub task : option_to_list parts.task ≡ defined at r
  pub life : option_to_list parts.life ≡ begun k.points at r k.tasks
  pub snap : parts.snap ≡ snap_in at r k.lives
  pub mark : IfSome parts.mark (IsMarkAt at k)
  pub points : parts.points ≡ k.points + length (points_in r)
  pub transitions : parts.transitions ≡ k.transitions + length (transitions_in r)
  pub changes : parts.changes ≡ k.changes + (if is_change r then 1 else 0)
