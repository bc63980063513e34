-- A log on a disk.
use Rattle.std.specs.Prelude.{◌≡◌, ℕ, ◌<◌, ◌^◌, Bool, List, [], ◌∷◌, ◌++◌, length, Result}
use Rattle.std.specs.declared.result.Result.TheVariants.{Ok, Err}
use Rattle.kap_io.specs.Disk.{Image, OnlyIn}
use Rattle.kap_io.specs.declared.disk.Part.{Part}
use Rattle.gate_log.specs.Bodies.{IsHeaderless, IsLog, IsTorn, bytes_of, size_bytes}
use Rattle.gate_log.specs.declared.fault.LogFault.{LogFault}
use Rattle.gate_log.specs.declared.fault.LogFault.TheVariants.{Header, Torn, DiskFault, Long, NoMemory}

-- a log: its file, the offset of the closed gate, and whether a call on it failed in the middle
pub record LogState : Type 0 where
  pub part : Part
  pub end : ℕ
  pub spent : Bool

-- a file has these bodies, and a crash leaves what is read of it
pub record IsAdded (bodies : List (List ℕ)) (part : Part) (seen : Image) (images : Image → Type 0) : Type 0 where
  pub bytes : IsLog bodies (seen part)
  pub durable : OnlyIn part (seen part) images

-- a file to which a record is to be added: its closed gate, and what goes behind it
pub record IsReady (bodies : List (List ℕ)) (body : List ℕ) (part : Part) (gate : ℕ) (piece : List ℕ) (seen : Image)
    (images : Image → Type 0) : Type 0 where
  pub file : IsAdded bodies part seen images
  pub at_end : gate ≡ length (bytes_of bodies)
  pub is_record : piece ≡ size_bytes (length body) ++ body ++ 0 ∷ []
  pub fits : length body < 2 ^ 32

-- The log has these bodies, and a crash leaves them and no others. So it is on the disk on which it was made or opened,
-- where since then only calls on it changed its file.
pub record Rests (bodies : List (List ℕ)) (seen : Image) (images : Image → Type 0) (log : LogState) : Type 0 where
  pub file : IsAdded bodies log.part seen images
  pub end : log.end ≡ length (bytes_of bodies)

-- what opening a file as a log finds
abbrev pub Finds : Image → (Image → Type 0) → Part → Result LogState LogFault → Type 0
Finds seen images part (Ok log) = (bodies : List (List ℕ)) × Rests bodies seen images log
Finds seen images part (Err Header) = IsHeaderless (seen part)
Finds seen images part (Err (Torn offset)) = IsTorn offset (seen part)
Finds seen images part (Err DiskFault) = Unit {0}
Finds seen images part (Err NoMemory) = Unit {0}
Finds seen images part (Err Long) = ⊥

-- a log of these bodies is opened, unless the disk failed or memory ran out
abbrev pub Opens : List (List ℕ) → Image → (Image → Type 0) → Result LogState LogFault → Type 0
Opens bodies seen images (Ok log) = Rests bodies seen images log
Opens bodies seen images (Err DiskFault) = Unit {0}
Opens bodies seen images (Err NoMemory) = Unit {0}
Opens bodies seen images (Err _) = ⊥

-- it is refused so, unless the disk failed or memory ran out
abbrev pub Refuses : {T : Type 0} → LogFault → Result T LogFault → Type 0
Refuses fault (Ok _) = ⊥
Refuses fault (Err DiskFault) = Unit {0}
Refuses fault (Err NoMemory) = Unit {0}
Refuses fault (Err other) = other ≡ fault
