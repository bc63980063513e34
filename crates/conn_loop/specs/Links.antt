-- What a link tells, as functions of it.
use Rattle.std.specs.Prelude.{ℕ, List, Option}

-- the bytes still to come, those taken, and the counts of failed reads, failed writes and waits
pub record Telling (L : Type 0) : Type 0 where
  pub left : L → Option (List ℕ)
  pub written : L → Option (List ℕ)
  pub read_faults : L → ℕ
  pub write_faults : L → ℕ
  pub waits : L → ℕ

abbrev pub telling : {L : Type 0} → (L → Option (List ℕ)) → (L → Option (List ℕ)) → (L → ℕ) → (L → ℕ) → (L → ℕ)
    → Telling L
telling left written read_faults write_faults waits = record {
  left = left;
  written = written;
  read_faults = read_faults;
  write_faults = write_faults;
  waits = waits;
}
