-- Lines that are written in pieces.
use Rattle.std.specs.Prelude.{◌≡◌, ℕ, ◌≤◌, List, ◌++◌, Option, Result, Ok, Err, IsErrOf}
use Rattle.std.specs.Io.KnownBytes.{Appends}
use Rattle.kap_base.specs.Words.{HasRisen}
use Rattle.kap_io.specs.Pieces.{AppendsPrefix}
use Rattle.store_lists.specs.declared.fault.ListFault.{ListFault}
use Rattle.store_lists.specs.declared.fault.ListFault.TheVariants.{NotStore, DiskFault, WriteFault, NoMemory}

-- ---- on the way

-- of a text a front was written, and the rest is due
pub record HasWritten (text due : List ℕ) (w v : Option (List ℕ)) : Type 0 where
  pub front : List ℕ
  pub written : Appends w v front
  pub split : text ≡ front ++ due

-- Lines come behind the text that is due: of both a front was written, and the rest is due then; where the output
-- failed or memory ran out, a prefix of both was written.
abbrev pub PutsLines : {T : Type 0} → Result T ListFault → List ℕ → List ℕ → List ℕ → Option (List ℕ)
    → Option (List ℕ) → Type 0
PutsLines (Ok done) lines due due_after w v = HasWritten (due ++ lines) due_after w v
PutsLines (Err WriteFault) lines due due_after w v = AppendsPrefix w v (due ++ lines)
PutsLines (Err NoMemory) lines due due_after w v = AppendsPrefix w v (due ++ lines)
PutsLines (Err fault) lines due due_after w v = ⊥

-- ---- a whole list

-- By the answer, where w and v are what was written before and after: at Ok the text was appended; where a device
-- failed or memory ran out, a prefix of it.
abbrev pub Lists : {T : Type 0} → Result T ListFault → List ℕ → Option (List ℕ) → Option (List ℕ) → Type 0
Lists (Ok done) text w v = Appends w v text
Lists (Err (NotStore part offset)) text w v = ⊥
Lists (Err DiskFault) text w v = AppendsPrefix w v text
Lists (Err WriteFault) text w v = AppendsPrefix w v text
Lists (Err NoMemory) text w v = AppendsPrefix w v text

-- a fault of the output comes only where its count rose, and none of a disk does
pub record WriteCause {T : Type 0} (before now : ℕ) (result : Result T ListFault) : Type 0 where
  pub later : before ≤ now
  pub failed : IsErrOf result WriteFault → HasRisen before now
  pub no_disk : IsErrOf result DiskFault → ⊥

-- a fault of the output, or of the disk, comes only where its count rose
pub record ListCause {T : Type 0} (before now disk_before disk_now : ℕ) (result : Result T ListFault) : Type 0 where
  pub later : before ≤ now
  pub failed : IsErrOf result WriteFault → HasRisen before now
  pub disk_later : disk_before ≤ disk_now
  pub disk_failed : IsErrOf result DiskFault → HasRisen disk_before disk_now
