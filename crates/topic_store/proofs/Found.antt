-- What is found as a store is opened.
use Rattle.std.proofs.Common.{◌≡◌, ℕ, List, map, refl, sym, ◌∙◌, subst, Ok, Err}
use Rattle.std.specs.Prelude.{Result}
use Rattle.kap_io.specs.Disk.{Image, OnlyIn}
use Rattle.kap_io.specs.declared.disk.Part.{Part}
use Rattle.kap_io.specs.declared.disk.Part.TheVariants.{Head}
use Rattle.gate_log.specs.Bodies.{IsLog}
use Rattle.gate_log.specs.Logs.{LogState}
use Rattle.gate_log.specs.Readers.{Begins}
use Rattle.gate_log.specs.declared.fault.LogFault.{LogFault}
use Rattle.gate_log.specs.declared.fault.LogFault.TheVariants as log
use Rattle.topic_core.specs.Topics.{TopicsValue}
use Rattle.store_records.specs.Records.{spell_record}
use Rattle.store_records.specs.declared.rec.Rec.{Rec}
use Rattle.store_kept.specs.Keeping.{KeptValue}
use Rattle.topic_store.specs.Faults.{fault_in}
use Rattle.topic_store.specs.Opening.{AreRead, Finds, IsOnWith, NamesOrNot, Opens, ReadsOrNot, Refuses}
use Rattle.topic_store.specs.Stores.{IsNamed, IsNoLog, IsNoStore, IsOn, Stands, StoreState, headerless, no_head, no_log, store_of}
use Rattle.topic_store.proofs.Apart.{no_store_apart, no_store_unique, stands_unique}
use Rattle.topic_store.specs.declared.fault.StoreFault.{StoreFault}
use Rattle.topic_store.specs.declared.fault.StoreFault.TheVariants.{NotStore, DiskFault, Long, NoMemory}

-- a file is no log
pub log_refused : (part : Part) (seen : Image) (images left : Image → Type 0) (fault : LogFault) → Begins seen images part (Err fault)
    → ReadsOrNot part seen left (Err (fault_in part fault))
log_refused part seen images left log.Header found = (refl, headerless refl found)
log_refused part seen images left (log.Torn offset) found = absurd found
log_refused part seen images left log.DiskFault found = tt
log_refused part seen images left log.Long found = found
log_refused part seen images left log.NoMemory found = tt

module _ {T : Type 0} (IsOf : List Rec → T → Type 0) (seen : Image) where
  pub head_refused : (fault : StoreFault) → NamesOrNot seen (Err fault) → Finds IsOf seen (Err fault)
  head_refused (NotStore part offset) none = no_head none.0 none.1 none.2
  head_refused DiskFault none = tt
  head_refused Long none = none
  head_refused NoMemory none = tt

  pub part_refused : (part : Part) (left : Image → Type 0) (fault : StoreFault) → IsNamed seen part → ReadsOrNot part seen left (Err fault)
      → Finds IsOf seen (Err fault)
  part_refused part left (NotStore there offset) named none =
      no_log (subst (IsNamed seen) (sym none.0) named) (subst (λ (p : Part). IsNoLog offset (seen p)) (sym none.0) none.1)
  part_refused part left DiskFault named none = tt
  part_refused part left Long named none = none
  part_refused part left NoMemory named none = tt

  -- where the files stand for records, the store of these is opened
  pub opens_as : (rs : List Rec) (result : Result T StoreFault) → ((one : List Rec) (opened : T) → IsOf one opened → Stands one seen) → Stands rs seen
      → Finds IsOf seen result → Opens (IsOf rs) result
  opens_as rs (Ok opened) of stands found =
      subst (λ (l : List Rec). IsOf l opened) (stands_unique seen found.0 rs (of found.0 opened found.1) stands) found.1
  opens_as rs (Err (NotStore part offset)) of stands found = no_store_apart seen part offset rs found stands
  opens_as rs (Err DiskFault) of stands found = tt
  opens_as rs (Err Long) of stands found = found
  opens_as rs (Err NoMemory) of stands found = tt

  -- where they fail, this is told
  pub refuses_at : (part : Part) (offset : ℕ) (result : Result T StoreFault) → ((one : List Rec) (opened : T) → IsOf one opened → Stands one seen)
      → IsNoStore seen part offset → Finds IsOf seen result → Refuses part offset result
  refuses_at part offset (Ok opened) of none found = no_store_apart seen part offset found.0 none (of found.0 opened found.1)
  refuses_at part offset (Err (NotStore there place)) of none found = no_store_unique seen there part place offset found none
  refuses_at part offset (Err DiskFault) of none found = tt
  refuses_at part offset (Err Long) of none found = absurd found
  refuses_at part offset (Err NoMemory) of none found = tt

-- all records were read
pub opened : (seen : Image) (images : Image → Type 0) (part : Part) (log : LogState) (kept : KeptValue) (topics : TopicsValue) → IsNamed seen part
    → OnlyIn Head (seen Head) images → log.part ≡ part → AreRead seen images log kept topics
    → (rs : List Rec) × IsOnWith seen images rs (store_of log kept, topics)
opened seen images part log kept topics named durable is_part read = (
  read.records,
  (
    record {
      run = named.run;
      head = named.head;
      durable = durable;
      part = is_part ∙ named.is;
      log = read.log_rests;
      stored = record { follow = read.holds.follow; short = read.short };
      kept = read.holds.kept;
    },
    read.holds.topics_are,
  ),
)

-- what is read of a store's files stands for its records
pub seen_stands : (seen : Image) (images : Image → Type 0) (rs : List Rec) (store : StoreState) → IsOn rs seen images store → Stands rs seen
seen_stands seen images rs store on = record {
  run = on.run;
  head = on.head;
  log = subst (λ (p : Part). IsLog (map spell_record rs) (seen p)) on.part on.log.file.bytes;
  stored = on.stored;
}

-- a store without its topics
pub without_topics : (seen : Image) (images : Image → Type 0) (fault : StoreFault) → Finds (IsOnWith seen images) seen (Err fault)
    → Finds (λ rs store. IsOn rs seen images store) seen (Err fault)
without_topics seen images (NotStore part offset) found = found
without_topics seen images DiskFault found = tt
without_topics seen images Long found = found
without_topics seen images NoMemory found = tt
