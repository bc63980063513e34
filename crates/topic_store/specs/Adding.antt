-- Adding a record to a store.
use Rattle.std.specs.Prelude.{◌≡◌, ◌⊎◌, ◌<◌, List, [], ◌∷◌, ◌++◌, length, true, Result, Ok, Err, ⊤}
use Rattle.kap_io.specs.Disk.{Image}
use Rattle.gate_log.specs.declared.log.TheConstants.{BODY_LIMIT}
use Rattle.store_records.specs.Records.{spell_record}
use Rattle.store_records.specs.declared.rec.Rec.{Rec}
use Rattle.topic_store.specs.Stores.{Stands, StoreState}
use Rattle.topic_store.specs.declared.fault.StoreFault.{StoreFault}
use Rattle.topic_store.specs.declared.fault.StoreFault.TheVariants.{NotStore, DiskFault, Long, NoMemory}

-- the files stand for the records, with one more or without it
abbrev pub stands_before_or_after : List Rec → Rec → Image → Image → Type 0
stands_before_or_after rs r old files = Stands rs files ⊎ Stands (rs ++ r ∷ []) files

-- Want of memory and a long body change nothing. A fault of the disk spends the store, and comes only where the count
-- rose.
abbrev pub AddFault : {D : Type 0} → Result (Unit {0}) StoreFault → D → D → StoreState → StoreState → Type 0 → Type 0
AddFault (Ok _) before after old new rose = ⊤
AddFault (Err DiskFault) before after old new rose = (new.log.spent ≡ true) × rose
AddFault (Err Long) before after old new rose = (after ≡ before) × (new ≡ old)
AddFault (Err NoMemory) before after old new rose = (after ≡ before) × (new ≡ old)
AddFault (Err (NotStore part offset)) before after old new rose = ⊥

-- it is refused as too long exactly where its body has more bytes than a log takes, unless memory ran out
abbrev pub IsLongOrNot : Rec → Result (Unit {0}) StoreFault → Type 0
IsLongOrNot r (Err Long) = BODY_LIMIT < length (spell_record r)
IsLongOrNot r (Err NoMemory) = ⊤
IsLongOrNot r result = BODY_LIMIT < length (spell_record r) → ⊥
