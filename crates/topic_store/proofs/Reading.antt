-- Records that are read one after the other.
use Rattle.std.proofs.Common.{◌≡◌, inl, inr, ⊎_elim, ℕ, ◌≤◌, arith, List, [], ◌∷◌, ◌++◌, length, map, refl, sym, ap, ◌∙◌, subst, Ok, Err}
use Rattle.std.proofs.lemmas.List.{map-append}
use Rattle.std.specs.Prelude.{Bool, true, false, IfOk, None, Option, Result, Some}
use Rattle.kap_base.specs.declared.memory.NoMemory.{NoMemory as Want}
use Rattle.kap_io.specs.Disk.{Image}
use Rattle.kap_io.specs.declared.disk.Part.{Part}
use Rattle.gate_log.specs.Bodies.{bytes_of}
use Rattle.gate_log.specs.Logs.{Rests}
use Rattle.gate_log.specs.Readers.{BeginsWith, GoesOn, HasRead, ReaderState, ReadsNext, log_at}
use Rattle.gate_log.specs.declared.fault.LogFault.{LogFault}
use Rattle.gate_log.specs.declared.fault.LogFault.TheVariants as log
use Rattle.gate_log.specs.declared.log.TheConstants.{BODY_LIMIT}
use Rattle.topic_core.specs.Topics.{StandsFor, TopicsValue}
use Rattle.store_records.specs.Histories.{end_of}
use Rattle.store_records.specs.Records.{spell_record}
use Rattle.store_records.specs.declared.rec.Rec.{Rec}
use Rattle.store_kept.specs.Keeping.{KeepsRecords, KeptValue, kept_nothing}
use Rattle.store_kept.specs.Taking.{Takes, TakesOrNot}
use Rattle.topic_store.specs.Faults.{fault_at}
use Rattle.topic_store.specs.Opening.{AddsOrNot, AreRead, IsNoNext, NextOrNot, ReadsOrNot, SoFar}
use Rattle.topic_store.specs.Stores.{AreShort, AreStored, FailsBehind, IsNext, IsNoLog, bad, fails, torn}
use Rattle.topic_store.specs.declared.fault.StoreFault.{StoreFault}
use Rattle.topic_store.specs.declared.fault.StoreFault.TheVariants.{NotStore, DiskFault, Long, NoMemory}
use Rattle.topic_store.proofs.Apart.{gate_is}

-- a fault of the log's reader
pub next_refused : (bodies : List (List ℕ)) (seen : Image) (images : Image → Type 0) (old new : ReaderState) (fault : LogFault)
    → new ≡ old → old.gate ≡ length (bytes_of bodies) → ReadsNext bodies seen images old new (Err fault)
    → NextOrNot bodies seen images old new (Err (fault_at new fault))
next_refused bodies seen images old new log.Header is at found = absurd found
next_refused bodies seen images old new (log.Torn offset) is at found = (ap (λ (r : ReaderState). r.part) is, inl found)
next_refused bodies seen images old new log.DiskFault is at found = tt
next_refused bodies seen images old new log.Long is at found =
    (ap (λ (r : ReaderState). r.part) is, inr (ap (λ (r : ReaderState). r.gate) is ∙ at, found))
next_refused bodies seen images old new log.NoMemory is at found = tt

pub next_found : (bodies : List (List ℕ)) (seen : Image) (images : Image → Type 0) (old new : ReaderState) (found : Option (ℕ × List ℕ))
    → ReadsNext bodies seen images old new (Ok found) → NextOrNot bodies seen images old new (Ok found)
next_found bodies seen images old new None is = is
next_found bodies seen images old new (Some body) is = is

pub moves_found : (old new : ReaderState) (found : Option (ℕ × List ℕ)) → GoesOn {F = LogFault} old new (Ok found) → GoesOn {F = StoreFault} old new (Ok found)
moves_found old new None is = is
moves_found old new (Some body) is = is

pub short_push : (rs : List Rec) (r : Rec) → AreShort rs → length (spell_record r) ≤ BODY_LIMIT → AreShort (rs ++ r ∷ [])
short_push [] r short fits = (fits, tt)
short_push (q ∷ rs) r short fits = (short.0, short_push rs r short.1 fits)

-- a body that isn't too long is taken in, or is none of a record that may stand there
pub adds : (rs : List Rec) (body : List ℕ) (k : KeptValue) (topics : TopicsValue) (result : Result Bool Want) → length body ≤ BODY_LIMIT
    → IfOk result (TakesOrNot rs body k topics) → IfOk result (AddsOrNot rs body k topics)
adds rs body k topics (Ok true) short took = (took, short)
adds rs body k topics (Ok false) short none = λ r next. none r next.of next.may
adds rs body k topics (Err want) short took = tt

-- ---- the loop

pub started : (seen : Image) (images : Image → Type 0) (reader : ReaderState) (k : KeptValue) (topics : TopicsValue) → HasRead [] seen images reader
    → k ≡ kept_nothing → StandsFor [] topics → SoFar seen images reader k topics
started seen images reader k topics read is stands = record {
  records = [];
  read = read;
  short = tt;
  holds = record {
    follow = tt;
    kept = subst (KeepsRecords []) (sym is) (record { keeps = record { tasks = refl; lives = refl; points = refl; transitions = refl; changes = refl; snap = refl }; marks = tt });
    topics_are = stands;
  };
}

module _ (seen later : Image) (images left : Image → Type 0) (reader : ReaderState) (k : KeptValue) (topics : TopicsValue)
    (so_far : SoFar seen images reader k topics) where
  -- the gate of the next record
  pub gate_there : (gate : ℕ) → gate ≡ reader.gate → gate ≡ end_of so_far.records
  gate_there gate is = is ∙ so_far.read.at ∙ gate_is so_far.records

  -- one record further
  pub goes_on : (new : ReaderState) (body : List ℕ) (kept : KeptValue) (more : TopicsValue) → HasRead (map spell_record so_far.records ++ body ∷ []) later left new
      → Takes so_far.records body kept more × (length body ≤ BODY_LIMIT) → SoFar later left new kept more
  goes_on new body kept more read takes =
      let is : body ≡ spell_record takes.0.next = takes.0.body_of.is in
      let bodies : map spell_record so_far.records ++ body ∷ [] ≡ map spell_record (so_far.records ++ takes.0.next ∷ []) =
      ap (λ (b : List ℕ). map spell_record so_far.records ++ b ∷ []) is ∙ sym (map-append spell_record so_far.records (takes.0.next ∷ [])) in
      record {
        records = so_far.records ++ takes.0.next ∷ [];
        read = subst (λ (b : List (List ℕ)). HasRead b later left new) bodies read;
        short = short_push so_far.records takes.0.next so_far.short (subst (λ (b : List ℕ). length b ≤ BODY_LIMIT) is takes.1);
        holds = takes.0.holds;
      }

  stored : AreStored so_far.records
  stored = record { follow = so_far.holds.follow; short = so_far.short }

  -- the next body is that of no record that may stand there
  pub stops : (new : ReaderState) (body : List ℕ) (gate : ℕ) → HasRead (map spell_record so_far.records ++ body ∷ []) later left new → new.part ≡ reader.part
      → gate ≡ reader.gate → ((r : Rec) → IsNext so_far.records body r → ⊥) → IsNoLog gate (later reader.part)
  stops new body gate read same at none =
      fails so_far.records stored
      (bad body (subst (λ (p : Part). BeginsWith (map spell_record so_far.records ++ body ∷ []) (later p)) same read.file) (gate_there gate at) none)

  -- the same in the file as it was at first
  pub stops_in : (first : Image) (part : Part) → later ≡ first → reader.part ≡ part → (new : ReaderState) (body : List ℕ) (gate : ℕ)
      → HasRead (map spell_record so_far.records ++ body ∷ []) later left new → new.part ≡ reader.part → gate ≡ reader.gate
      → ((r : Rec) → IsNext so_far.records body r → ⊥) → IsNoLog gate (first part)
  stops_in first part reads is_part new body gate read same at none =
      subst (λ (i : Image). IsNoLog gate (i part)) reads (subst (λ (p : Part). IsNoLog gate (later p)) is_part (stops new body gate read same at none))

  -- the next record runs past the end or is too long
  no_next : (offset : ℕ) (file : List ℕ) → IsNoNext (map spell_record so_far.records) offset file → FailsBehind so_far.records offset file
  no_next offset file none = ⊎_elim (λ short. torn short)
      (λ long. bad long.1.body long.1.begins (long.0 ∙ gate_is so_far.records) (λ r next. omega (arith, next.short, long.1.long))) none

  -- or isn't read
  pub next_fault : (first : Image) (part : Part) → seen ≡ first → reader.part ≡ part → (new : ReaderState) (fault : StoreFault)
      → NextOrNot (map spell_record so_far.records) later left reader new (Err fault) → later ≡ seen → ReadsOrNot part first left (Err fault)
  next_fault first part reads is_part new (NotStore there offset) next quiet = (
    next.0 ∙ is_part,
    subst (λ (i : Image). IsNoLog offset (i part)) (quiet ∙ reads)
        (subst (λ (p : Part). IsNoLog offset (later p)) is_part (fails so_far.records stored (no_next offset _ next.1))),
  )
  next_fault first part reads is_part new DiskFault next quiet = tt
  next_fault first part reads is_part new Long next quiet = next
  next_fault first part reads is_part new NoMemory next quiet = tt

  -- all were read
  pub all_read : Rests (map spell_record so_far.records) later left (log_at reader) → AreRead later left (log_at reader) k topics
  all_read rests = record { records = so_far.records; log_rests = rests; short = so_far.short; holds = so_far.holds }
