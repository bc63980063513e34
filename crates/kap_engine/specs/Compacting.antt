-- What the compaction of a store leaves.
use Rattle.std.specs.Prelude.{◌⊎◌, List}
use Rattle.kap_io.specs.Disk.{Image}
use Rattle.node_core.specs.declared.node.Node.{Ghosts}
use Rattle.node_set.specs.Tasks.{Planned}
use Rattle.store_compact.specs.Staying.{staying}
use Rattle.store_records.specs.declared.rec.Rec.{Rec}
use Rattle.kap_engine.specs.Changing.{StandsFull}

module _ {N P S : Type 0} (g : Ghosts N P S) (planned : Planned P) where
  -- the files stand for these records, or for those of them that stay
  abbrev pub stands_full_old_or_new : List Rec → Image → Image → Type 0
  stands_full_old_or_new rs old files = StandsFull g planned rs files ⊎ StandsFull g planned (staying rs) files
