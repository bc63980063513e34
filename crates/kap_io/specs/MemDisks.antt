-- A disk in memory: what its calls did, what its files hold, which calls fail, and what a crash may leave.
use Rattle.std.specs.Prelude.{◌≡◌, ◌⊎◌, ℕ, ◌≤◌, Bool, true, false, ◌&&◌, List, [], ◌∷◌, length, map, reverse, replicate, Option, Some, None}
use Rattle.std.specs.List.{filter}
use Rattle.kap_io.specs.CallRecords.{CallRecord}
use Rattle.kap_io.specs.Disk.{Image, Elapses, OnlyIn, Stretched, Torn, overwritten, resized}
use Rattle.kap_io.specs.FileBytes.{FileBytes, file_of, same_part}
use Rattle.kap_io.specs.declared.disk.Part.{Part}
use Rattle.kap_io.specs.declared.disk_work.DiskCall.{DiskCall}
use Rattle.kap_io.specs.declared.disk_work.DiskWork.{DiskWork}
use Rattle.kap_io.specs.declared.disk_work.DiskWork.TheVariants.{Size, Read, Write, Cut, Sync}
use Rattle.kap_io.specs.declared.pick.Pick.{Pick}
use Rattle.kap_io.specs.declared.pick.Pick.TheVariants.{Old, New, Fill}

-- a file after this was done to it
abbrev pub changed : DiskWork → List ℕ → List ℕ
changed Size file = file
changed (Read at count) file = file
changed (Write at piece) file = overwritten at piece file
changed (Cut size) file = resized size file
changed Sync file = file

-- what a file holds after all this, the newest first
abbrev pub content : List ℕ → List DiskWork → List ℕ
content start [] = start
content start (work ∷ works) = changed work (content start works)

-- what a crash may make of a file while this is done to it, where a read gave `file` before
abbrev pub Becomes : DiskWork → List ℕ → List ℕ → List ℕ → Type 0
Becomes Size file old new = new ≡ old
Becomes (Read at count) file old new = new ≡ old
Becomes (Write at piece) file old new = Torn at (length piece) old new
Becomes (Cut size) file old new = Stretched size old new
Becomes Sync file old new = new ≡ file

-- what a crash may leave of a file after all this, the newest first
abbrev pub Leaves : List ℕ → List DiskWork → List ℕ → Type 0
Leaves start [] file = file ≡ start
Leaves start (work ∷ works) file = (old : List ℕ) × Leaves start works old × Becomes work (content start works) old file

-- the call was done, on this file
abbrev pub was_on : Part → DiskCall → Bool
was_on part call = call.done && same_part part call.part

-- what was done to a file
abbrev pub works : Part → List DiskCall → List DiskWork
works part calls = map (λ (call : DiskCall). call.work) (filter (was_on part) calls)

-- the calls, the newest first
abbrev pub newest_first : List DiskCall → List DiskCall
newest_first calls = reverse calls

-- what the files hold after these calls, the newest first
abbrev pub contents : FileBytes → List DiskCall → Image
contents start calls part = content (file_of start part) (works part calls)

-- what a crash may leave after these calls: each file by itself
abbrev pub MayLeave : FileBytes → List DiskCall → Image → Type 0
MayLeave start calls c = (part : Part) → Leaves (file_of start part) (works part calls) (c part)

-- what a crash may have left from the moment on when there were t calls
abbrev pub LeftSince : FileBytes → ℕ → List DiskCall → Image → Type 0
LeftSince start t [] c = MayLeave start [] c
LeftSince start t (call ∷ calls) c = MayLeave start (call ∷ calls) c ⊎ ((t ≤ length calls) × LeftSince start t calls c)

-- a disk in memory: what its files held when it was made, and the record of its calls
pub record MemDiskState : Type 0 where
  pub start : FileBytes
  pub calls : CallRecord

-- what a read gives
abbrev pub holds : MemDiskState → Image
holds disk = contents disk.start (newest_first disk.calls.noted)

-- the images that a crash may leave now
abbrev pub leaves : MemDiskState → Image → Type 0
leaves disk c = MayLeave disk.start (newest_first disk.calls.noted) c

-- the moment: how many calls are on the record
abbrev pub moment_of : MemDiskState → ℕ
moment_of disk = length (newest_first disk.calls.noted)

-- the images that a crash from that moment on may have left
abbrev pub left_from : MemDiskState → ℕ → Image → Type 0
left_from disk t c = LeftSince disk.start t (newest_first disk.calls.noted) c

-- time that a call takes on a disk in memory
abbrev pub Passes : MemDiskState → MemDiskState → Type 0
Passes old new = Elapses (moment_of old) (moment_of new) (left_from old) (left_from new) (leaves new)

-- it is a sync
abbrev pub is_sync : DiskWork → Bool
is_sync Sync = true
is_sync _ = false

-- what was done up to the last sync
abbrev pub synced : List DiskWork → List DiskWork
synced [] = []
synced (Sync ∷ works) = Sync ∷ works
synced (work ∷ works) = synced works

-- what was done since
abbrev pub unsynced : List DiskWork → List DiskWork
unsynced [] = []
unsynced (Sync ∷ works) = []
unsynced (work ∷ works) = work ∷ unsynced works

-- the same, with this byte in place of each that it writes, if there is one
abbrev pub refilled : Option ℕ → DiskWork → DiskWork
refilled (Some byte) (Write at piece) = Write at (replicate (length piece) byte)
refilled (Some byte) work = work
refilled None work = work

-- What a crash leaves of a file by a pick: what it held at its last sync, what a read gives, or what a read gives with
-- each byte replaced that was written since the last sync.
abbrev pub picked : Pick → List ℕ → List DiskWork → List ℕ
picked Old start works = content start (synced works)
picked New start works = content start works
picked (Fill byte) start works = content (content start (synced works)) (map (refilled (Some byte)) (unsynced works))

-- A disk as it was made of files: no call was made, none fails, and nothing is pending.
pub record IsSettled (disk : MemDiskState) : Type 0 where
  pub no_calls : (disk.calls.noted ≡ []) × (disk.calls.count ≡ 0)
  pub no_fails : (disk.calls.fails ≡ []) × (disk.calls.stop ≡ None)
  pub no_faults : disk.calls.faults ≡ 0
  pub nothing_pending : (part : Part) → OnlyIn part (holds disk part) (leaves disk)
