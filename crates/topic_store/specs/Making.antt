-- Making a store.
use Rattle.std.specs.Prelude.{◌≡◌, ℕ, ◌≤◌, [], Result, Ok, Err}
use Rattle.kap_base.specs.Words.{HasRisen}
use Rattle.kap_io.specs.Disk.{Image, OnlyIn}
use Rattle.kap_io.specs.declared.disk.Part.TheVariants.{Head, Left, Right}
use Rattle.gate_log.specs.Bodies.{IsLog}
use Rattle.gate_log.specs.Head.{HasNoHead, IsHead}
use Rattle.topic_store.specs.Stores.{Stands}
use Rattle.topic_store.specs.declared.fault.StoreFault.{StoreFault}
use Rattle.topic_store.specs.declared.fault.StoreFault.TheVariants.{DiskFault}

-- both logs are empty ones, in what is read and in each image
pub record AreEmptyLogs (seen : Image) (images : Image → Type 0) : Type 0 where
  pub left : IsLog [] (seen Left)
  pub right : IsLog [] (seen Right)
  pub left_durable : OnlyIn Left (seen Left) images
  pub right_durable : OnlyIn Right (seen Right) images

-- where no head stood, an image with a head stands for the store of no records
abbrev pub HeadComesLast : Image → Image → Type 0
HeadComesLast old files = HasNoHead (old Head) → (run : ℕ) → IsHead run (files Head) → Stands [] files

-- the head is as it was
abbrev pub SameHead : Image → Image → Type 0
SameHead old files = files Head ≡ old Head

-- The files stand for a store of no records, and so does each image; and both logs are empty ones.
pub record IsMade (seen : Image) (images : Image → Type 0) : Type 0 where
  pub stands : Stands [] seen
  pub logs : AreEmptyLogs seen images
  pub durable : (c : Image) → images c → Stands [] c

-- a fault of the disk, only where its count rose
abbrev pub MakeCause : {T : Type 0} → ℕ → ℕ → Result T StoreFault → Type 0
MakeCause before now (Ok x) = before ≤ now
MakeCause before now (Err DiskFault) = HasRisen before now
MakeCause before now (Err fault) = ⊥
