-- Rewriting a store into its other log.
use Rattle.std.specs.Prelude.{◌≡◌, ◌⊎◌, ℕ, ◌≤◌, true, List, [], ◌∷◌, ◌++◌, map, Option, Some, None, Result, Ok, Err, ⊤}
use Rattle.kap_base.specs.Words.{HasRisen}
use Rattle.kap_io.specs.Disk.{Image}
use Rattle.kap_io.specs.declared.disk.Part.{Part}
use Rattle.kap_io.specs.declared.disk.Part.TheVariants.{Head, Left, Right}
use Rattle.gate_log.specs.Logs.{LogState, Rests}
use Rattle.store_records.specs.Histories.{end_of}
use Rattle.store_records.specs.Records.{spell_record}
use Rattle.store_records.specs.declared.rec.Rec.{Rec}
use Rattle.store_kept.specs.Keeping.{KeepsRecords, KeptValue}
use Rattle.store_compact.specs.Staying.{staying, staying_of}
use Rattle.topic_store.specs.Stores.{AreStored, IsOn, Stands, StoreState}
use Rattle.topic_store.specs.declared.fault.StoreFault.{StoreFault}
use Rattle.topic_store.specs.declared.fault.StoreFault.TheVariants.{DiskFault, Long, NoMemory}

-- the other one of the two logs
abbrev pub other_log : Part → Part
other_log Left = Right
other_log Right = Left
other_log Head = Left

-- the files stand for the old records, or for those of them that stay
abbrev pub stands_old_or_new : List Rec → Image → Image → Type 0
stands_old_or_new rs old files = Stands rs files ⊎ Stands (staying rs) files

-- the disk failed, or memory ran out
abbrev pub IsFailure : StoreFault → Type 0
IsFailure DiskFault = ⊤
IsFailure NoMemory = ⊤
IsFailure fault = ⊥

-- the store has those of the records that stay, unless the disk failed or memory ran out
abbrev pub RewritesOrNot : {T : Type 0} → (T → Type 0) → Result T StoreFault → Type 0
RewritesOrNot IsNew (Ok x) = IsNew x
RewritesOrNot IsNew (Err fault) = IsFailure fault

-- Each fault spends the store. A fault of the disk comes only where its count rose, and a body is never too long.
abbrev pub RewriteFault : Result (Unit {0}) StoreFault → StoreState → Type 0 → Type 0
RewriteFault (Ok x) new rose = ⊤
RewriteFault (Err DiskFault) new rose = (new.log.spent ≡ true) × rose
RewriteFault (Err Long) new rose = ⊥
RewriteFault (Err fault) new rose = new.log.spent ≡ true

-- ---- records that are copied one after the other

-- a record is put behind a log: a fault of the disk only where its count rose, or want of memory
abbrev pub PutCause : {T : Type 0} → ℕ → ℕ → Result T StoreFault → Type 0
PutCause before now (Ok x) = before ≤ now
PutCause before now (Err DiskFault) = (before ≤ now) × HasRisen before now
PutCause before now (Err NoMemory) = before ≤ now
PutCause before now (Err fault) = ⊥

-- the log has these records, and they are those of which this is kept
pub record HasPut (ks : List Rec) (seen : Image) (images : Image → Type 0) (log : LogState) (k : KeptValue) : Type 0 where
  pub rests : Rests (map spell_record ks) seen images log
  pub keeps : KeepsRecords ks k

-- the old log, of whose records all this is kept
pub record IsSource (rs : List Rec) (seen : Image) (images : Image → Type 0) (old : LogState) (all : KeptValue) : Type 0 where
  pub stored : AreStored rs
  pub rests : Rests (map spell_record rs) seen images old
  pub keeps : KeepsRecords rs all

-- the body of the first of the records behind these, that record, and the gate behind it; none at the closed gate
abbrev pub StoredOrNot : Result (Option (List ℕ × Rec × ℕ)) StoreFault → List Rec → List Rec → Type 0
StoredOrNot (Ok None) before behind = behind ≡ []
StoredOrNot (Ok (Some found)) before [] = ⊥
StoredOrNot (Ok (Some found)) before (r ∷ behind) = (found.0 ≡ spell_record r) × (found.1 ≡ r) × (found.2 ≡ end_of (before ++ r ∷ []))
StoredOrNot (Err fault) before behind = IsFailure fault

-- Of the records those before this gate were copied, as far as they stay, from the old log into another one.
pub record IsCopying (rs : List Rec) (gate : ℕ) (seen : Image) (images : Image → Type 0) (old : LogState) (all : KeptValue) (log : LogState)
    (k : KeptValue) : Type 0 where
  pub before : List Rec
  pub behind : List Rec
  pub split : rs ≡ before ++ behind
  pub at_gate : gate ≡ end_of before
  pub source : IsSource rs seen images old all
  pub apart : old.part ≡ log.part → ⊥
  pub put : HasPut (staying_of rs before) seen images log k

-- one more was copied, or left out; or there are no more
abbrev pub CopiesOrNot : List Rec → Image → (Image → Type 0) → LogState → KeptValue → LogState → KeptValue → Result (Option ℕ) StoreFault → Type 0
CopiesOrNot rs seen images old all log k (Ok None) = HasPut (staying rs) seen images log k
CopiesOrNot rs seen images old all log k (Ok (Some next)) = IsCopying rs next seen images old all log k
CopiesOrNot rs seen images old all log k (Err fault) = IsFailure fault

-- ---- the switch

-- the run of the head is found, unless the disk failed or memory ran out
abbrev pub RunOrNot : ℕ → Result ℕ StoreFault → Type 0
RunOrNot run (Ok found) = found ≡ run
RunOrNot run (Err fault) = IsFailure fault

-- The store is on its log as before, and the other one is that of the records that stay.
pub record IsWritten (rs : List Rec) (seen : Image) (images : Image → Type 0) (old : StoreState) (log : LogState) (k : KeptValue) : Type 0 where
  pub on : IsOn rs seen images old
  pub put : HasPut (staying rs) seen images log k
