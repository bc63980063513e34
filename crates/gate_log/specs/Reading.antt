-- What is read of a log's file.
use Rattle.std.specs.Prelude.{◌≡◌, ◌⊎◌, ℕ, ◌+◌, ◌-◌, ◌<◌, ◌≤◌, ◌^◌, min, max, List, [], ◌∷◌, ◌++◌, length, take, drop, Option, Result}
use Rattle.gate_log.specs.Bodies.{magic, bytes_of, record_of, size_bytes, Fit, IsLog, IsHeaderless, IsTorn}
use Rattle.gate_log.specs.Marks.{IsClosed}
use Rattle.std.specs.declared.result.Result.TheVariants.{Ok, Err}
use Rattle.std.specs.declared.option.Option.TheVariants.{Some, None}
use Rattle.gate_log.specs.declared.fault.LogFault.{LogFault}
use Rattle.gate_log.specs.declared.fault.LogFault.TheVariants.{Header, Torn, DiskFault, Long, NoMemory}
use Rattle.gate_log.specs.declared.log.TheConstants.{BODY_LIMIT}

-- the next bytes of a file, as many as there are or as have room
pub record Fills (at : ℕ) (file buf : List ℕ) (count : ℕ) : Type 0 where
  pub placed : take count buf ≡ take count (drop at file)
  pub full : count ≡ min (length buf) (length file - at)

-- more bytes of a file, behind those that are placed
pub record ReadsOn (at : ℕ) (file : List ℕ) (count : ℕ) (old new : List ℕ) (more : ℕ) : Type 0 where
  pub placed : take (count + more) new ≡ take count old ++ take more (drop (at + count) file)
  pub within : at + count + more ≤ max (at + count) (length file)
  pub ends : more ≡ 0 → length file ≤ at + count

-- so far
pub record Placed (at : ℕ) (file buf : List ℕ) (count : ℕ) : Type 0 where
  pub placed : take count buf ≡ take count (drop at file)
  pub within : at + count ≤ max at (length file)

-- a record behind an open gate, and the next gate
pub record IsRecord (gate next : ℕ) (file : List ℕ) : Type 0 where
  pub body : List ℕ
  pub fits : length body < 2 ^ 32
  pub is : drop gate file ≡ record_of body ++ drop next file
  pub is_next : next ≡ gate + (5 + length body)
  pub within : next < length file

-- a record, or the gate behind it, that runs past the end
pub record IsCutOff (gate : ℕ) (file : List ℕ) : Type 0 where
  pub rest : List ℕ
  pub is : drop gate file ≡ 165 ∷ rest
  pub short : (length rest < 4) ⊎ ((n : ℕ) × (n < 2 ^ 32) × (take 4 rest ≡ size_bytes n) × (length rest ≤ 4 + n))

-- what stands at a gate, as it was found
abbrev pub StandsAt : ℕ → List ℕ → Result (Option ℕ) LogFault → Type 0
StandsAt gate file (Ok None) = IsClosed (drop gate file)
StandsAt gate file (Ok (Some next)) = IsRecord gate next file
StandsAt gate file (Err (Torn offset)) = (offset ≡ gate) × IsCutOff gate file
StandsAt gate file (Err DiskFault) = Unit {0}
StandsAt gate file (Err NoMemory) = Unit {0}
StandsAt gate file (Err _) = ⊥

-- the closed gate of a log, or the record that runs past the end
abbrev pub EndsAt : List ℕ → Result ℕ LogFault → Type 0
EndsAt file (Ok end) = (bodies : List (List ℕ)) × IsLog bodies file × (end ≡ length (bytes_of bodies))
EndsAt file (Err (Torn offset)) = IsTorn offset file
EndsAt file (Err Header) = ⊥
EndsAt file (Err _) = Unit {0}

-- a file that begins as a log does, and its size
abbrev pub StartsAs : List ℕ → Result ℕ LogFault → Type 0
StartsAs file (Ok size) = (size ≡ length file) × (take 8 file ≡ magic)
StartsAs file (Err Header) = IsHeaderless file
StartsAs file (Err (Torn offset)) = ⊥
StartsAs file (Err _) = Unit {0}

-- a gate that was reached over records behind open gates
pub record Reached (gate : ℕ) (file : List ℕ) : Type 0 where
  pub bodies : List (List ℕ)
  pub front : file ≡ bytes_of bodies ++ drop gate file
  pub at : gate ≡ length (bytes_of bodies)
  pub fit : Fit bodies

-- those bytes of a file
abbrev pub Fetched : ℕ → ℕ → List ℕ → Result (List ℕ) LogFault → Type 0
Fetched at count file (Ok bytes) = bytes ≡ take count (drop at file)
Fetched at count file (Err (Torn offset)) = ⊥
Fetched at count file (Err Header) = ⊥
Fetched at count file (Err _) = Unit {0}

-- the body behind a gate and the next gate, as they were found
abbrev pub RecordAt : ℕ → List ℕ → Result (Option (List ℕ × ℕ)) LogFault → Type 0
RecordAt gate file (Ok None) = IsClosed (drop gate file)
RecordAt gate file (Ok (Some found)) = (is : IsRecord gate found.1 file) × (found.0 ≡ is.body)
RecordAt gate file (Err (Torn offset)) = (offset ≡ gate) × IsCutOff gate file
RecordAt gate file (Err DiskFault) = Unit {0}
RecordAt gate file (Err NoMemory) = Unit {0}
RecordAt gate file (Err _) = ⊥

-- a record behind an open gate whose body has more bytes than a log takes
pub record IsLongRecord (gate : ℕ) (file : List ℕ) : Type 0 where
  pub next : ℕ
  pub there : IsRecord gate next file
  pub long : BODY_LIMIT < length there.body

-- the same as `RecordAt`, where a body that is too long isn't read
abbrev pub ShortRecordAt : ℕ → List ℕ → Result (Option (List ℕ × ℕ)) LogFault → Type 0
ShortRecordAt gate file (Ok None) = IsClosed (drop gate file)
ShortRecordAt gate file (Ok (Some found)) = (is : IsRecord gate found.1 file) × (found.0 ≡ is.body)
ShortRecordAt gate file (Err (Torn offset)) = (offset ≡ gate) × IsCutOff gate file
ShortRecordAt gate file (Err Long) = IsLongRecord gate file
ShortRecordAt gate file (Err DiskFault) = Unit {0}
ShortRecordAt gate file (Err NoMemory) = Unit {0}
ShortRecordAt gate file (Err Header) = ⊥

-- the first of the bodies from a gate on, and the next gate; none at the closed gate
abbrev pub BodyAt : Result (Option (List ℕ × ℕ)) LogFault → List (List ℕ) → ℕ → Type 0
BodyAt (Ok None) bodies at = bodies ≡ []
BodyAt (Ok (Some found)) [] at = ⊥
BodyAt (Ok (Some found)) (body ∷ bodies) at = (found.0 ≡ body) × (found.1 ≡ at + (5 + length body))
BodyAt (Err DiskFault) bodies at = Unit {0}
BodyAt (Err NoMemory) bodies at = Unit {0}
BodyAt (Err _) bodies at = ⊥
