-- A fault of the disk where the head is read.
use Rattle.std.proofs.Common.{ℕ, Err}
use Rattle.kap_io.specs.declared.disk.Part.{Part}
use Rattle.kap_io.specs.declared.disk.Part.TheVariants.{Head}
use Rattle.gate_log.specs.Causes.{HeadCause}
use Rattle.gate_log.specs.declared.fault.LogFault.{LogFault}
use Rattle.gate_log.specs.declared.fault.LogFault.TheVariants as log
use Rattle.topic_store.specs.Faults.{fault_in}
use Rattle.topic_store.specs.Opening.{StoreCause}

-- the count rose, or there is no head
pub head_cause : (before now : ℕ) (fault : LogFault) → HeadCause {T = ℕ} before now (Err fault) → StoreCause {T = Part} before now (Err (fault_in Head fault))
head_cause before now log.Header later = record { later = later; failed = λ e. absurd cc; not_long = λ e. absurd cc }
head_cause before now (log.Torn offset) none = absurd none
head_cause before now log.DiskFault rose = record { later = rose.0; failed = λ e. rose.1; not_long = λ e. absurd cc }
head_cause before now log.Long none = absurd none
head_cause before now log.NoMemory none = absurd none
