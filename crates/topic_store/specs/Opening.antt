-- What opening a store finds.
use Rattle.std.specs.Prelude.{◌≡◌, ◌⊎◌, ℕ, ◌≤◌, Bool, true, false, List, [], ◌∷◌, ◌++◌, length, map, Option, Some, None, Result, Ok, Err, IsErrOf, ⊤}
use Rattle.kap_base.specs.Words.{HasRisen}
use Rattle.kap_io.specs.Disk.{Image}
use Rattle.kap_io.specs.declared.disk.Part.{Part}
use Rattle.kap_io.specs.declared.disk.Part.TheVariants.{Head}
use Rattle.gate_log.specs.Head.{HasNoHead}
use Rattle.gate_log.specs.Logs.{LogState, Rests}
use Rattle.gate_log.specs.Bodies.{bytes_of}
use Rattle.gate_log.specs.Readers.{HasRead, IsLongBehind, IsTornBehind, ReaderState, log_at}
use Rattle.gate_log.specs.declared.log.TheConstants.{BODY_LIMIT}
use Rattle.topic_core.specs.Topics.{StandsFor, TopicsValue, event_of}
use Rattle.store_records.specs.Histories.{held}
use Rattle.store_records.specs.Records.{spell_record}
use Rattle.store_records.specs.declared.rec.Rec.{Rec}
use Rattle.store_kept.specs.Keeping.{KeptValue, kept_of}
use Rattle.store_kept.specs.Taking.{Holds, Takes}
use Rattle.topic_store.specs.Stores.{AreShort, IsNamed, IsNext, IsNoLog, IsNoStore, IsOn, StoreState}
use Rattle.topic_store.specs.declared.fault.StoreFault.{StoreFault}
use Rattle.topic_store.specs.declared.fault.StoreFault.TheVariants.{NotStore, DiskFault, Long, NoMemory}
use Rattle.topic_store.specs.declared.opening.Reached.{Reached}

-- what a call that reads answers: a fault of the disk only where its count rose, and never `Long`
pub record StoreCause {T : Type 0} (before now : ℕ) (result : Result T StoreFault) : Type 0 where
  pub later : before ≤ now
  pub failed : IsErrOf result DiskFault → HasRisen before now
  pub not_long : IsErrOf result Long → ⊥

-- ---- the head

-- the part that a head names; or there is no head, told at the head's offset 0; or the disk failed or memory ran out
abbrev pub NamesOrNot : Image → Result Part StoreFault → Type 0
NamesOrNot files (Ok part) = IsNamed files part
NamesOrNot files (Err (NotStore there offset)) = (there ≡ Head) × (offset ≡ 0) × HasNoHead (files Head)
NamesOrNot files (Err DiskFault) = ⊤
NamesOrNot files (Err NoMemory) = ⊤
NamesOrNot files (Err Long) = ⊥

-- ---- the records of a log

-- the record behind these bodies, with its gate at this offset, runs past the end or is too long
abbrev pub IsNoNext : List (List ℕ) → ℕ → List ℕ → Type 0
IsNoNext bodies offset file =
    IsTornBehind bodies offset file ⊎ ((offset ≡ length (bytes_of bodies)) × IsLongBehind bodies file)

-- what stands behind these bodies: one more, or the closed gate of the log that they are, or none that may be read
abbrev pub NextOrNot : List (List ℕ) → Image → (Image → Type 0) → ReaderState → ReaderState
    → Result (Option (ℕ × List ℕ)) StoreFault → Type 0
NextOrNot bodies seen images old new (Ok None) = Rests bodies seen images (log_at old)
NextOrNot bodies seen images old new (Ok (Some found)) = HasRead (bodies ++ found.1 ∷ []) seen images new
NextOrNot bodies seen images old new (Err (NotStore there offset)) =
    (there ≡ old.part) × IsNoNext bodies offset (seen old.part)
NextOrNot bodies seen images old new (Err DiskFault) = ⊤
NextOrNot bodies seen images old new (Err NoMemory) = ⊤
NextOrNot bodies seen images old new (Err Long) = ⊥

-- the body is that of a record that may stand behind these, which is taken in
abbrev pub AddsOrNot : List Rec → List ℕ → KeptValue → TopicsValue → Bool → Type 0
AddsOrNot rs body k topics true = Takes rs body k topics × (length body ≤ BODY_LIMIT)
AddsOrNot rs body k topics false = (r : Rec) → IsNext rs body r → ⊥

-- these records were read so far
pub record SoFar (seen : Image) (images : Image → Type 0) (reader : ReaderState) (k : KeptValue)
    (topics : TopicsValue) : Type 0 where
  pub records : List Rec
  pub read : HasRead (map spell_record records) seen images reader
  pub short : AreShort records
  pub holds : Holds records k topics

-- the log is that of these records
pub record AreRead (seen : Image) (images : Image → Type 0) (log : LogState) (k : KeptValue)
    (topics : TopicsValue) : Type 0 where
  pub records : List Rec
  pub log_rests : Rests (map spell_record records) seen images log
  pub short : AreShort records
  pub holds : Holds records k topics

-- the records of a log are read; or the part is no log of records, told at its first faulty place; or the disk failed
abbrev pub ReadsOrNot : Part → Image → (Image → Type 0) → Result Reached StoreFault → Type 0
ReadsOrNot part seen images (Ok reached) = AreRead seen images reached.log (kept_of reached.kept) reached.topics
ReadsOrNot part seen images (Err (NotStore there offset)) = (there ≡ part) × IsNoLog offset (seen part)
ReadsOrNot part seen images (Err DiskFault) = ⊤
ReadsOrNot part seen images (Err NoMemory) = ⊤
ReadsOrNot part seen images (Err Long) = ⊥

-- ---- the store

-- a store of these records, and the topics of its transitions
abbrev pub IsOnWith : Image → (Image → Type 0) → List Rec → StoreState × TopicsValue → Type 0
IsOnWith seen images rs opened = IsOn rs seen images opened.0 × StandsFor (map event_of (held rs).transitions) opened.1

-- what opening finds: a store of some records, or the place at which the files are no store's
abbrev pub Finds : {T : Type 0} → (List Rec → T → Type 0) → Image → Result T StoreFault → Type 0
Finds IsOf files (Ok opened) = (rs : List Rec) × IsOf rs opened
Finds IsOf files (Err (NotStore part offset)) = IsNoStore files part offset
Finds IsOf files (Err DiskFault) = ⊤
Finds IsOf files (Err NoMemory) = ⊤
Finds IsOf files (Err Long) = ⊥

-- the store of these records is opened, unless the disk failed or memory ran out
abbrev pub Opens : {T : Type 0} → (T → Type 0) → Result T StoreFault → Type 0
Opens IsOf (Ok opened) = IsOf opened
Opens IsOf (Err DiskFault) = ⊤
Opens IsOf (Err NoMemory) = ⊤
Opens IsOf (Err fault) = ⊥

-- it is refused at this place, unless the disk failed or memory ran out
abbrev pub Refuses : {T : Type 0} → Part → ℕ → Result T StoreFault → Type 0
Refuses part offset (Ok opened) = ⊥
Refuses part offset (Err (NotStore there place)) = (there ≡ part) × (place ≡ offset)
Refuses part offset (Err DiskFault) = ⊤
Refuses part offset (Err NoMemory) = ⊤
Refuses part offset (Err Long) = ⊥
