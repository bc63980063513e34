-- What stands after a store was compacted.
use Rattle.std.specs.Prelude.{◌⊎◌, ⊤, ℕ, List}
use Rattle.kap_base.specs.Words.{HasRisen}
use Rattle.kap_io.specs.Disk.{Image}
use Rattle.kap_io.specs.Moments.{Moments}
use Rattle.node_core.specs.declared.node.Node.{Ghosts}
use Rattle.node_set.specs.Tasks.{Planned}
use Rattle.store_compact.specs.Same.{HoldSame}
use Rattle.store_compact.specs.Staying.{staying}
use Rattle.store_records.specs.Histories.{held}
use Rattle.store_records.specs.declared.rec.Rec.{Rec}
use Rattle.topic_core.specs.declared.transition.Transition.{Transition}
use Rattle.topic_store.specs.Stores.{Stands}
use Rattle.engine_store.specs.Adding.{HasAdded}
use Rattle.engine_store.specs.Faults.{IsNoGood}
use Rattle.engine_store.specs.Good.{IsFull, stays_or_good}
use Rattle.kap_server.specs.declared.status.Status.{Status}
use Rattle.kap_server.specs.declared.status.Status.TheVariants.{Ok, NotStore, NoMemory, DiskFault}
use Rattle.kap_server.specs.Listing.{AreAsked, AreOthers}

-- how a compaction can end, on any disk
abbrev pub EndsCompaction : Status → Type 0
EndsCompaction Ok = ⊤
EndsCompaction (NotStore part offset) = ⊤
EndsCompaction NoMemory = ⊤
EndsCompaction DiskFault = ⊤
EndsCompaction other = ⊥

module _ {N P S : Type 0} (g : Ghosts N P S) (planned : Planned P) where
  -- The files, and each image that a crash may leave, stand for those of the records that stay of a right store: one that
  -- holds what these records do, and all transitions that are due. What stays holds the same as all of them, but for the
  -- places of the records.
  pub record LeavesCompacted (rs : List Rec) (seen : Image) (images : Image → Type 0) : Type 0 where
    pub records : List Rec
    pub more : List Transition
    pub added : HasAdded rs more records
    pub same : HoldSame (held records) (held (staying records))
    pub full : IsFull g planned (staying records)
    pub reads : Stands (staying records) seen
    pub leaves : (files : Image) → images files → Stands (staying records) files

  -- the files stand for these
  pub record StandsCompacted (rs : List Rec) (files : Image) : Type 0 where
    pub records : List Rec
    pub more : List Transition
    pub added : HasAdded rs more records
    pub same : HoldSame (held records) (held (staying records))
    pub full : IsFull g planned (staying records)
    pub stands : Stands (staying records) files

  -- An image is as it was, or stands for the right store with a few of the transitions that are due more, or with all
  -- and just the records that stay.
  abbrev pub stays_or_compacted : List Rec → Image → Image → Type 0
  stays_or_compacted rs old files = stays_or_good g planned rs old files ⊎ StandsCompacted rs files

  -- By the status, behind records of a right store: at Ok those that stay are there; a place is told only where a pattern
  -- was refused, whose count is before and after.
  abbrev pub CompactedTo : List Rec → ℕ → ℕ → Image → (Image → Type 0) → Status → Type 0
  CompactedTo rs before after seen images Ok = LeavesCompacted rs seen images
  CompactedTo rs before after seen images (NotStore part offset) = HasRisen before after
  CompactedTo rs before after seen images NoMemory = ⊤
  CompactedTo rs before after seen images DiskFault = ⊤
  CompactedTo rs before after seen images other = ⊥

  module _ {D : Type 0} (seen : D → Image) (moment : D → ℕ) (may_leave : D → Image → Type 0)
      (left_since : D → ℕ → Image → Type 0) where
    -- a right store was compacted, as the status says, and so each image at each moment
    pub record Compacts (rs : List Rec) (before after : ℕ) (old new : D) (result : Status) : Type 0 where
      pub ends : CompactedTo rs before after (seen new) (may_leave new) result
      pub any_moment : Moments moment may_leave left_since old new (stays_or_compacted rs)

  -- By the status, of the files that were opened to be compacted: a place is told where they are no store whose scripts
  -- are those of tasks, and then nothing changed, or no right one: somebody else wrote it.
  abbrev pub OpensToCompact : ℕ → ℕ → List ℕ → Type 0 → Image → Status → Type 0
  OpensToCompact before after refused still files Ok = AreAsked g planned files
  OpensToCompact before after refused still files (NotStore part offset) =
      (IsNoGood g planned before after refused files part offset × still) ⊎ AreOthers g planned files
  OpensToCompact before after refused still files NoMemory = ⊤
  OpensToCompact before after refused still files DiskFault = ⊤
  OpensToCompact before after refused still files other = ⊥
