-- What the faults of a store that adds a record are for an engine.
use Rattle.std.proofs.Common.{◌≡◌, ◌⊎◌, ◌<◌, inl, inr, ℕ, length, Bool, true, false, Err, List, refl, sym, ap, subst, ◌∙◌, true≢false}
use Rattle.kap_io.specs.declared.disk.Part.{Part}
use Rattle.gate_log.specs.declared.log.TheConstants.{BODY_LIMIT}
use Rattle.store_records.specs.Records.{spell_record}
use Rattle.store_records.specs.declared.rec.Rec.{Rec}
use Rattle.topic_core.specs.declared.transition.Transition.{Transition}
use Rattle.topic_store.specs.Adding.{AddFault, IsLongOrNot}
use Rattle.topic_store.specs.Stores.{StoreState}
use Rattle.topic_store.specs.declared.fault.StoreFault.{StoreFault}
use Rattle.topic_store.specs.declared.fault.StoreFault.TheVariants as stores
use Rattle.engine_runs.specs.Running.{RunValue}
use Rattle.engine_store.specs.Faults.{store_fault}
use Rattle.engine_store.specs.declared.fault.EngineFault.{EngineFault}
use Rattle.engine_store.specs.declared.fault.EngineFault.TheVariants.{DiskFault, NoMemory}
use Rattle.kap_engine.specs.Engines.{EngineValue}

-- one that tells no place is the disk's, or want of memory
pub fault_of : (e : StoreFault) (f : EngineFault) → f ≡ store_fault e → ((part : Part) (offset : ℕ) → e ≡ stores.NotStore part offset → ⊥) → (f ≡ DiskFault) ⊎ (f ≡ NoMemory)
fault_of (stores.NotStore part offset) f is none = absurd (none part offset refl)
fault_of stores.DiskFault f is none = inl is
fault_of stores.Long f is none = inr is
fault_of stores.NoMemory f is none = inr is

module _ {D : Type 0} (e : StoreFault) (old now : D) (was store : StoreState) (rose : Type 0) (fault : AddFault (Err e) old now was store rose) where
  -- a record that is added has none that tells a place
  pub none_placed : (part : Part) (offset : ℕ) → e ≡ stores.NotStore part offset → ⊥
  none_placed part offset same = subst (λ (x : StoreFault). AddFault (Err x) old now was store rose) same fault

  -- the disk's comes where its count rose
  pub disk_rose : e ≡ stores.DiskFault → rose
  disk_rose same = (subst (λ (x : StoreFault). AddFault (Err x) old now was store rose) same fault).1

abbrev value_of : {N : Type 0} → StoreState → RunValue N → List Transition → Bool → EngineValue N
value_of store run stored spent = record { store = store; run = run; stored = stored; spent = spent }

-- where the store isn't spent, nothing has changed: neither the engine, which was as `v`, nor the disk
pub still_of : {D N : Type 0} (e : StoreFault) (old now : D) (was store : StoreState) (rose : Type 0) (run : RunValue N) (stored : List Transition) (before spent : Bool) (v : EngineValue N)
    → AddFault (Err e) old now was store rose → spent ≡ store.log.spent → value_of was run stored before ≡ v → v.spent ≡ false → spent ≡ false → (value_of store run stored spent ≡ v) × (now ≡ old)
still_of {D = D} {N = N} e old now was store rose run stored before spent v fault is view unspent apart = by e fault
  where
    same : (now ≡ old) × (store ≡ was) → (value_of store run stored spent ≡ v) × (now ≡ old)
    same kept =
        let as_before : spent ≡ before = apart ∙ sym (ap (λ (x : EngineValue N). x.spent) view ∙ unspent) in
        (ap (λ (s : StoreState). value_of s run stored spent) kept.1 ∙ ap (value_of was run stored) as_before ∙ view, kept.0)

    by : (e : StoreFault) → AddFault (Err e) old now was store rose → (value_of store run stored spent ≡ v) × (now ≡ old)
    by (stores.NotStore part offset) fault = absurd fault
    by stores.DiskFault fault = absurd (true≢false (sym fault.0 ∙ sym is ∙ apart))
    by stores.Long fault = same fault
    by stores.NoMemory fault = same fault

-- where the disk failed, it is spent
pub spent_of : {D : Type 0} (e : StoreFault) (f : EngineFault) (old now : D) (was store : StoreState) (rose : Type 0) (spent : Bool) → f ≡ store_fault e → AddFault (Err e) old now was store rose → spent ≡ store.log.spent → f ≡ DiskFault → spent ≡ true
spent_of (stores.NotStore part offset) f old now was store rose spent is fault same disk = absurd fault
spent_of stores.DiskFault f old now was store rose spent is fault same disk = same ∙ fault.0
spent_of stores.Long f old now was store rose spent is fault same disk = absurd (cc (is, disk))
spent_of stores.NoMemory f old now was store rose spent is fault same disk = absurd (cc (is, disk))

-- a record that is too long has a longer body than a log takes
pub long_of : (r : Rec) (e : StoreFault) → e ≡ stores.Long → IsLongOrNot r (Err e) → BODY_LIMIT < length (spell_record r)
long_of r e is long = subst (λ (x : StoreFault). IsLongOrNot r (Err x)) is long

-- and changes nothing
pub same_of : {D : Type 0} (e : StoreFault) (old now : D) (was store : StoreState) (rose : Type 0) → e ≡ stores.Long → AddFault (Err e) old now was store rose → (now ≡ old) × (store ≡ was)
same_of e old now was store rose is fault = subst (λ (x : StoreFault). AddFault (Err x) old now was store rose) is fault
