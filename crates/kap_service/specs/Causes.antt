-- Counts of faults, and what they cause.
use Rattle.std.specs.Prelude.{◌≡◌, ◌⊎◌, ℕ, ◌+◌, ◌-◌, ◌^◌, ◌≤◌, min}
use Rattle.kap_base.specs.Words.{HasRisen}
use Rattle.kap_service.specs.Values.{Faults}

-- no count has fallen
pub record AreLater (old new : Faults) : Type 0 where
  pub disk : old.disk ≤ new.disk
  pub patterns : old.patterns ≤ new.patterns

-- the disk has failed, or a pattern was refused
abbrev pub HasFailed : Faults → Faults → Type 0
HasFailed old new = HasRisen old.disk new.disk ⊎ HasRisen old.patterns new.patterns

-- So many replies are due to counts that have risen since, each of them by one at least, up to the ends of their types.
pub record AreCaused (before now : Faults) (replies : ℕ) : Type 0 where
  pub by_disk : ℕ
  pub by_patterns : ℕ
  pub all : replies ≡ by_disk + by_patterns
  pub disk : min (before.disk + by_disk) (2 ^ 64 - 1) ≤ now.disk
  pub patterns : min (before.patterns + by_patterns) (2 ^ 64 - 1) ≤ now.patterns
