-- Why a service ends.
use Rattle.std.specs.Prelude.{◌≡◌, ◌⊎◌, ℕ, Option, Some, None}
use Rattle.kap_base.specs.Words.{HasRisen}
use Rattle.kap_io.specs.declared.disk.Part.{Part}
use Rattle.conn_loop.specs.declared.single.SingleEnd.{SingleEnd}
use Rattle.conn_loop.specs.declared.single.SingleEnd.TheVariants as ends
use Rattle.kap_service.specs.Stores.{HasRead}
use Rattle.kap_service.specs.Values.{Engines, Stores}
use Rattle.kap_service.specs.declared.fault.ShareFault.{ShareFault}
use Rattle.kap_service.specs.declared.fault.ShareFault.TheVariants as shares
use Rattle.serve_words.specs.declared.fault.ServeFault.{ServeFault}
use Rattle.serve_words.specs.declared.fault.ServeFault.TheVariants as faults

-- what a service says of an engine that can't be shared
abbrev pub fault_of : ShareFault → ServeFault
fault_of (shares.NotStore part offset) = faults.NotStore part offset
fault_of shares.DiskFault = faults.DiskFault
fault_of shares.NoMemory = faults.NoMemory

-- what one thread says of its end, and nothing where no more links come
abbrev pub fault_at : SingleEnd → Option ServeFault
fault_at ends.Closed = None
fault_at ends.Spent = None
fault_at ends.ReadyFailed = Some faults.ReadyFault
fault_at ends.DoorFailed = Some faults.DoorFault
fault_at ends.NoMemory = Some faults.NoMemory

-- it ends the service of seats, each in a thread: a fault of the door, or want of memory
abbrev pub EndsSeats : ServeFault → Type 0
EndsSeats fault = (fault ≡ faults.DoorFault) ⊎ (fault ≡ faults.NoMemory)

-- it ends the service of one thread: the same, or that this isn't told which links may go on
abbrev pub EndsThread : ServeFault → Type 0
EndsThread fault = EndsSeats fault ⊎ (fault ≡ faults.ReadyFault)

-- An engine came back, since it can't be shared for this cause: nothing that it keeps has changed. DiskFault comes only
-- where its disk's count rose, and NotStore never where it was right.
pub record IsUnshared {E : Type 0} (value : E → Engines) (right : E → Type 0) (leaves : E → Stores → Type 0)
    (engine : E) (cause : ShareFault) (back : E) : Type 0 where
  pub same : HasRead value right leaves engine back
  pub disk : cause ≡ shares.DiskFault → HasRisen (value engine).faults.disk (value back).faults.disk
  pub store : right engine → (part : Part) (offset : ℕ) → cause ≡ shares.NotStore part offset → ⊥

-- A service ended by this fault. Where its engine came back, that can't be shared, as the fault says; else the engine was
-- shared, and the fault is one that ends such a service.
abbrev pub EndsSo : {E : Type 0} → (E → Engines) → (E → Type 0) → (E → Stores → Type 0) → (ServeFault → Type 0) → E
    → ServeFault → Option E → Type 0
EndsSo value right leaves ending engine fault (Some back) =
    (cause : ShareFault) × (fault ≡ fault_of cause) × IsUnshared value right leaves engine cause back
EndsSo value right leaves ending engine fault None = ending fault
