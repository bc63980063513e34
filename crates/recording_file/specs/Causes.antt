-- When a reader answers a read fault.
use Rattle.std.specs.Prelude.{◌≡◌, ℕ, ◌≤◌, Result, Err}
use Rattle.kap_base.specs.Words.{HasRisen}
use Rattle.recording_file.specs.declared.fault.RecFault.{RecFault}
use Rattle.recording_file.specs.declared.fault.RecFault.TheVariants.{ReadFault}

-- the count of faults doesn't fall, and a read fault comes only where it rose
pub record HasReadCause {T : Type 0} (before now : ℕ) (result : Result T RecFault) : Type 0 where
  pub later : before ≤ now
  pub rose : result ≡ Err ReadFault → HasRisen before now
