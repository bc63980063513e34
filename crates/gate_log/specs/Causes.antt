-- When each refusal of a log comes.
use Rattle.std.specs.Prelude.{◌≡◌, ℕ, ◌≤◌, Result, IsTrue, IsErrOf}
use Rattle.std.specs.declared.result.Result.TheVariants.{Ok, Err}
use Rattle.kap_base.specs.Words.{HasRisen}
use Rattle.gate_log.specs.declared.fault.LogFault.{LogFault}
use Rattle.gate_log.specs.declared.fault.LogFault.TheVariants.{Header, Torn, DiskFault, Long, NoMemory}
use Rattle.gate_log.specs.Logs.{LogState}

-- Want of memory and a long body change nothing. A fault of the disk spends the log, and comes only where the count
-- rose.
abbrev pub AppendFault : {D : Type 0} → Result (Unit {0}) LogFault → D → D → LogState → LogState → Type 0 → Type 0
AppendFault (Ok _) before after old new rose = Unit {0}
AppendFault (Err DiskFault) before after old new rose = IsTrue new.spent × rose
AppendFault (Err Long) before after old new rose = (after ≡ before) × (new ≡ old)
AppendFault (Err NoMemory) before after old new rose = (after ≡ before) × (new ≡ old)
AppendFault (Err Header) before after old new rose = ⊥
AppendFault (Err (Torn offset)) before after old new rose = ⊥

-- what a call that reads answers: a fault of the disk only where its count rose, and never `Long`
pub record LogCause {T : Type 0} (before now : ℕ) (result : Result T LogFault) : Type 0 where
  pub later : before ≤ now
  pub failed : IsErrOf result DiskFault → HasRisen before now
  pub not_long : IsErrOf result Long → ⊥

-- the same of a call that reads records again, which never answers `Header`
pub record BodyCause {T : Type 0} (before now : ℕ) (result : Result T LogFault) : Type 0 where
  pub later : before ≤ now
  pub failed : IsErrOf result DiskFault → HasRisen before now
  pub not_long : IsErrOf result Long → ⊥
  pub not_header : IsErrOf result Header → ⊥

-- the same of a call that reads a record for the first time, which may find it too long
pub record NextCause {T : Type 0} (before now : ℕ) (result : Result T LogFault) : Type 0 where
  pub later : before ≤ now
  pub failed : IsErrOf result DiskFault → HasRisen before now
  pub not_header : IsErrOf result Header → ⊥

-- a record that isn't there is told at its gate
abbrev pub IsTornAt : ℕ → LogFault → Type 0
IsTornAt gate (Torn offset) = offset ≡ gate
IsTornAt gate _ = Unit {0}

-- what a call that reads a head answers: a fault of the disk only where its count rose, or that there is none
abbrev pub HeadCause : {T : Type 0} → ℕ → ℕ → Result T LogFault → Type 0
HeadCause before now (Ok _) = before ≤ now
HeadCause before now (Err DiskFault) = (before ≤ now) × HasRisen before now
HeadCause before now (Err Header) = before ≤ now
HeadCause before now (Err _) = ⊥

-- what a call that only writes answers: a fault of the disk, only where its count rose
abbrev pub WriteCause : {T : Type 0} → ℕ → ℕ → Result T LogFault → Type 0
WriteCause before now (Ok _) = before ≤ now
WriteCause before now (Err DiskFault) = (before ≤ now) × HasRisen before now
WriteCause before now (Err _) = ⊥

-- Want of memory changes nothing. A fault of the disk comes only where the count rose.
abbrev pub SwitchFault : {D : Type 0} → Result (Unit {0}) LogFault → D → D → Type 0 → Type 0
SwitchFault (Ok _) before after rose = Unit {0}
SwitchFault (Err DiskFault) before after rose = rose
SwitchFault (Err NoMemory) before after rose = after ≡ before
SwitchFault (Err _) before after rose = ⊥
