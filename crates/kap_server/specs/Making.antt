-- What stands after `init`.
use Rattle.std.specs.Prelude.{◌≡◌, Bool, true, false, List, ℕ, take, Result, Ok, Err, ⊤}
use Rattle.kap_io.specs.Disk.{Image}
use Rattle.kap_io.specs.declared.disk.Part.TheVariants.{Head}
use Rattle.gate_log.specs.Head.{HasNoHead, head_magic}
use Rattle.topic_store.specs.Making.{IsMade}
use Rattle.kap_server.specs.declared.status.Status.{Status}
use Rattle.kap_server.specs.declared.status.Status.TheVariants as statuses

-- a head stands there: its first eight bytes are those of one
abbrev pub HasHead : List ℕ → Type 0
HasHead file = take 8 file ≡ head_magic

-- whether a head stands there, as it was found; or the disk failed
abbrev pub HeadOrNot : {E : Type 0} → List ℕ → Result Bool E → Type 0
HeadOrNot file (Ok true) = HasHead file
HeadOrNot file (Ok false) = HasNoHead file
HeadOrNot file (Err _) = ⊤

-- By the status, where the files read as `old` before and as `new` behind, and a crash leaves these images then: at Ok
-- no head stood there, and the files and each image stand for a store of no records; at Exists a head stood there; else
-- the disk failed or memory ran out. `told` says that the disk tells its files.
abbrev pub Made : Type 0 → Status → Image → Image → (Image → Type 0) → Type 0
Made told statuses.Ok old new images = told → HasNoHead (old Head) × IsMade new images
Made told statuses.Exists old new images = told → HasHead (old Head)
Made told statuses.NoMemory old new images = ⊤
Made told statuses.DiskFault old new images = ⊤
Made told other old new images = ⊥
