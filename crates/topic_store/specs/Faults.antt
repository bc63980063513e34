-- What a fault of a log is for the store, and which place a fault of a store tells.
use Rattle.std.specs.Prelude.{◌≡◌, ◌⊎◌, ℕ, ◌≤◌, ⊤}
use Rattle.gate_log.specs.Readers.{ReaderState}
use Rattle.kap_io.specs.declared.disk.Part.{Part}
use Rattle.kap_io.specs.declared.disk.Part.TheVariants.{Head}
use Rattle.gate_log.specs.declared.fault.LogFault.{LogFault}
use Rattle.gate_log.specs.declared.fault.LogFault.TheVariants as log
use Rattle.topic_store.specs.declared.fault.StoreFault.{StoreFault}
use Rattle.topic_store.specs.declared.fault.StoreFault.TheVariants.{NotStore, DiskFault, Long, NoMemory}

-- a file that doesn't begin as a head or a log does is none at offset 0, and a record that runs past the end at its
-- gate
abbrev pub fault_in : Part → LogFault → StoreFault
fault_in part log.Header = NotStore part 0
fault_in part (log.Torn offset) = NotStore part offset
fault_in part log.DiskFault = DiskFault
fault_in part log.Long = Long
fault_in part log.NoMemory = NoMemory

-- the same of a fault of a log's reader: a record that is too long is none of a store, at its gate
abbrev pub fault_at : ReaderState → LogFault → StoreFault
fault_at r log.Header = NotStore r.part 0
fault_at r (log.Torn offset) = NotStore r.part offset
fault_at r log.DiskFault = DiskFault
fault_at r log.Long = NotStore r.part r.gate
fault_at r log.NoMemory = NoMemory

-- where no record stands, it is told in this log, at this gate
abbrev pub IsPlacedAt : Part → ℕ → StoreFault → Type 0
IsPlacedAt part gate (NotStore there offset) = (there ≡ part) × (offset ≡ gate)
IsPlacedAt part gate fault = ⊤

-- the same, at this gate or behind it
abbrev pub IsPlacedFrom : Part → ℕ → StoreFault → Type 0
IsPlacedFrom part gate (NotStore there offset) = (there ≡ part) × (gate ≤ offset)
IsPlacedFrom part gate fault = ⊤

-- the same, at any offset
abbrev pub IsPlacedIn : Part → StoreFault → Type 0
IsPlacedIn part (NotStore there offset) = there ≡ part
IsPlacedIn part fault = ⊤

-- the head is told, at its offset 0, or this log, at the gate of its first record or behind it
abbrev pub IsPlacedInHeadOr : Part → StoreFault → Type 0
IsPlacedInHeadOr part (NotStore there offset) = ((there ≡ Head) × (offset ≡ 0)) ⊎ ((there ≡ part) × (8 ≤ offset))
IsPlacedInHeadOr part fault = ⊤
