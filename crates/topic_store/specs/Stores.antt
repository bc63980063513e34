-- A store on a disk: what its files stand for.
use Rattle.std.specs.Prelude.{◌≡◌, ℕ, ◌%◌, ◌≤◌, ◌==◌, if◌then◌else◌, List, [], ◌∷◌, ◌++◌, length, map, ⊤}
use Rattle.kap_io.specs.Disk.{Image, OnlyIn}
use Rattle.kap_io.specs.declared.disk.Part.{Part}
use Rattle.kap_io.specs.declared.disk.Part.TheVariants.{Head, Left, Right}
use Rattle.gate_log.specs.Bodies.{IsHeaderless, IsLog}
use Rattle.gate_log.specs.Head.{HasNoHead, IsHead}
use Rattle.gate_log.specs.Logs.{LogState, Rests}
use Rattle.gate_log.specs.Readers.{BeginsWith, IsTornBehind}
use Rattle.gate_log.specs.declared.log.TheConstants.{BODY_LIMIT}
use Rattle.store_records.specs.Held.{MayFollow}
use Rattle.store_records.specs.Histories.{Follow, end_of, held}
use Rattle.store_records.specs.Records.{IsBodyOf, spell_record}
use Rattle.store_records.specs.declared.rec.Rec.{Rec}
use Rattle.store_records.specs.declared.task.Snapshot.{Snapshot}
use Rattle.store_kept.specs.Keeping.{KeepsRecords, KeptValue}

-- the log that a head with so many open gates names: the left one where the number is even
abbrev pub current : ℕ → Part
current run = if run % 2 == 0 then Left else Right

-- no record has a longer body than a log takes
abbrev pub AreShort : List Rec → Type 0
AreShort [] = ⊤
AreShort (r ∷ rs) = (length (spell_record r) ≤ BODY_LIMIT) × AreShort rs

-- The records are those of a store: each may follow those before it, and none is too long.
pub record AreStored (rs : List Rec) : Type 0 where
  pub follow : Follow rs
  pub short : AreShort rs

-- The files stand for the store with these records: the head names the log of their bodies.
pub record Stands (rs : List Rec) (files : Image) : Type 0 where
  pub run : ℕ
  pub head : IsHead run (files Head)
  pub log : IsLog (map spell_record rs) (files (current run))
  pub stored : AreStored rs

-- a store: its log, and what is kept of the records
pub record StoreState : Type 0 where
  pub log : LogState
  pub kept : KeptValue

-- the store of a log and of what is kept of its records
abbrev pub store_of : LogState → KeptValue → StoreState
store_of log kept = record { log = log; kept = kept }

-- how many points and transitions were stored before a snapshot
abbrev pub numbers_of : Snapshot → ℕ × ℕ
numbers_of snap = (snap.points, snap.transitions)

-- The store has these records on its disk, and a crash leaves them and no others. So the disk is the one on which it
-- was made or opened, where since then only calls on it changed its files.
pub record IsOn (rs : List Rec) (seen : Image) (images : Image → Type 0) (store : StoreState) : Type 0 where
  pub run : ℕ
  pub head : IsHead run (seen Head)
  pub durable : OnlyIn Head (seen Head) images
  pub part : store.log.part ≡ current run
  pub log : Rests (map spell_record rs) seen images store.log
  pub stored : AreStored rs
  pub kept : KeepsRecords rs store.kept

-- ---- what stands for no store

-- the body is that of this record, which may stand behind these
pub record IsNext (rs : List Rec) (body : List ℕ) (r : Rec) : Type 0 where
  pub of : IsBodyOf r body
  pub may : MayFollow (held rs) r
  pub short : length body ≤ BODY_LIMIT

-- Behind these records stands an open gate, whose record runs past the end of the file, or has a body that is none of a
-- record which may stand there.
pub data FailsBehind (rs : List Rec) (offset : ℕ) (file : List ℕ) : Type 0 where
  torn : IsTornBehind (map spell_record rs) offset file → FailsBehind rs offset file
  bad : (body : List ℕ) → BeginsWith (map spell_record rs ++ body ∷ []) file → offset ≡ end_of rs
      → ((r : Rec) → IsNext rs body r → ⊥)
      → FailsBehind rs offset file

-- The file is no log of a store: it doesn't begin as a log does, or behind records of a store, up to this offset,
-- stands one that fails.
pub data IsNoLog (offset : ℕ) (file : List ℕ) : Type 0 where
  headerless : offset ≡ 0 → IsHeaderless file → IsNoLog offset file
  fails : (rs : List Rec) → AreStored rs → FailsBehind rs offset file → IsNoLog offset file

-- the log that a head names
pub record IsNamed (files : Image) (part : Part) : Type 0 where
  pub run : ℕ
  pub head : IsHead run (files Head)
  pub is : part ≡ current run

-- The files stand for no store: the head is none, or the log that it names is none at this offset.
pub data IsNoStore (files : Image) (part : Part) (offset : ℕ) : Type 0 where
  no_head : part ≡ Head → offset ≡ 0 → HasNoHead (files Head) → IsNoStore files part offset
  no_log : IsNamed files part → IsNoLog offset (files part) → IsNoStore files part offset
