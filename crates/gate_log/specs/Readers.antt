-- A log that is read from its first record on.
use Rattle.std.specs.Prelude.{◌≡◌, ℕ, ◌<◌, false, List, [], ◌∷◌, ◌++◌, length, Option, Result}
use Rattle.std.specs.declared.option.Option.TheVariants.{Some, None}
use Rattle.std.specs.declared.result.Result.TheVariants.{Ok, Err}
use Rattle.kap_io.specs.Disk.{Image, OnlyIn}
use Rattle.kap_io.specs.declared.disk.Part.{Part}
use Rattle.gate_log.specs.Bodies.{Fit, IsHeaderless, IsTorn, bytes_of}
use Rattle.gate_log.specs.Logs.{LogState, Rests}
use Rattle.gate_log.specs.declared.fault.LogFault.{LogFault}
use Rattle.gate_log.specs.declared.log.TheConstants.{BODY_LIMIT}
use Rattle.gate_log.specs.declared.fault.LogFault.TheVariants.{Header, Torn, DiskFault, Long, NoMemory}

-- the bytes begin as those of a log do, with these bodies behind open gates; anything may stand behind them
pub record BeginsWith (bodies : List (List ℕ)) (bytes : List ℕ) : Type 0 where
  pub rest : List ℕ
  pub is : bytes ≡ bytes_of bodies ++ rest
  pub fit : Fit bodies

-- the record behind these bodies, or the gate behind it, runs past the end
abbrev pub IsTornBehind : List (List ℕ) → ℕ → List ℕ → Type 0
IsTornBehind bodies offset bytes = (torn : IsTorn offset bytes) × (torn.bodies ≡ bodies)

-- the record behind these bodies has one with more bytes than a log takes
pub record IsLongBehind (bodies : List (List ℕ)) (bytes : List ℕ) : Type 0 where
  pub body : List ℕ
  pub begins : BeginsWith (bodies ++ body ∷ []) bytes
  pub long : BODY_LIMIT < length body

-- a reader of a log: its file, the length of that, and the offset of the gate that comes next
pub record ReaderState : Type 0 where
  pub part : Part
  pub size : ℕ
  pub gate : ℕ

-- These bodies were read, and a crash leaves what is read of the file. So it is on the disk on which it was made, where
-- since then nothing changed its file.
pub record HasRead (bodies : List (List ℕ)) (seen : Image) (images : Image → Type 0) (r : ReaderState) : Type 0 where
  pub file : BeginsWith bodies (seen r.part)
  pub durable : OnlyIn r.part (seen r.part) images
  pub whole : r.size ≡ length (seen r.part)
  pub at : r.gate ≡ length (bytes_of bodies)
  pub within : r.gate < r.size

-- the log that was read to its closed gate
abbrev pub log_at : ReaderState → LogState
log_at r = record { part = r.part; end = r.gate; spent = false }

-- what beginning to read a file as a log finds
abbrev pub Begins : Image → (Image → Type 0) → Part → Result ReaderState LogFault → Type 0
Begins seen images part (Ok r) = HasRead [] seen images r
Begins seen images part (Err Header) = IsHeaderless (seen part)
Begins seen images part (Err DiskFault) = Unit {0}
Begins seen images part (Err NoMemory) = Unit {0}
Begins seen images part (Err _) = ⊥

-- what stands behind these bodies: one more, or the closed gate of the log that they are, or a record that runs past
-- the end or is too long
abbrev pub ReadsNext : List (List ℕ) → Image → (Image → Type 0) → ReaderState → ReaderState
    → Result (Option (ℕ × List ℕ)) LogFault → Type 0
ReadsNext bodies seen images old new (Ok None) = Rests bodies seen images (log_at old)
ReadsNext bodies seen images old new (Ok (Some found)) = HasRead (bodies ++ found.1 ∷ []) seen images new
ReadsNext bodies seen images old new (Err (Torn offset)) = IsTornBehind bodies offset (seen old.part)
ReadsNext bodies seen images old new (Err Long) = IsLongBehind bodies (seen old.part)
ReadsNext bodies seen images old new (Err DiskFault) = Unit {0}
ReadsNext bodies seen images old new (Err NoMemory) = Unit {0}
ReadsNext bodies seen images old new (Err Header) = ⊥

-- it goes on in its file, from this gate
pub record Advances (old new : ReaderState) (gate : ℕ) : Type 0 where
  pub at : gate ≡ old.gate
  pub part : new.part ≡ old.part
  pub size : new.size ≡ old.size
  pub rises : old.gate < new.gate
  pub within : new.gate < new.size

-- it goes on where it gives a body, with that body's gate, and else stays
abbrev pub GoesOn : {F : Type 0} → ReaderState → ReaderState → Result (Option (ℕ × List ℕ)) F → Type 0
GoesOn old new (Ok None) = new ≡ old
GoesOn old new (Ok (Some found)) = Advances old new found.0
GoesOn old new (Err fault) = new ≡ old
