-- What the faults of a store and of its lives are for an engine.
use Rattle.std.proofs.Common.{◌≡◌, inl, inr, ℕ, ◌+◌, ◌-◌, ◌^◌, ◌≤◌, Err, Ok, List, min, refl, sym, ap, subst, ◌∙◌, arith}
use Rattle.std.specs.Prelude.{IsErrOf, Result}
use Rattle.kap_base.specs.Words.{HasRisen}
use Rattle.kap_io.specs.declared.disk.Part.{Part}
use Rattle.node_core.specs.declared.node.Node.{Ghosts}
use Rattle.node_set.specs.Tasks.{Planned}
use Rattle.store_records.specs.Histories.{held}
use Rattle.store_records.specs.declared.rec.Rec.{Rec}
use Rattle.store_records.specs.declared.task.Life.{Life}
use Rattle.store_records.specs.declared.task.StoredTask.{StoredTask}
use Rattle.topic_store.specs.Opening.{StoreCause}
use Rattle.topic_store.specs.declared.fault.StoreFault.{StoreFault}
use Rattle.topic_store.specs.declared.fault.StoreFault.TheVariants as stores
use Rattle.engine_runs.specs.Faults.{IsRefusedOne, IsWhyOne}
use Rattle.engine_runs.specs.declared.fault.RunFault.{RunFault}
use Rattle.engine_runs.specs.declared.fault.RunFault.TheVariants as runs
use Rattle.engine_store.specs.Asking.{AreScripts, IsFirstRefused, IsWhyFirst}
use Rattle.engine_store.specs.Faults.{EngineCause, HasOtherStates, IsOfOpening, IsWhyNone, run_fault, store_fault}
use Rattle.engine_store.specs.declared.fault.EngineFault.{EngineFault}
use Rattle.engine_store.specs.declared.fault.EngineFault.TheVariants.{DiskFault, NotStore}
use Rattle.engine_store.proofs.WhyLaws.{first_of_one}

-- ---- causes

pub risen_later : (old mid new : ℕ) → old ≤ mid → HasRisen mid new → HasRisen old new
risen_later old mid new le rose = let r : min (mid + 1) (2 ^ 64 - 1) ≤ new = rose in omega (arith, le, r)

-- the disk failed in the later of two steps
pub cause_later : {T : Type 0} (old mid new : ℕ) (result : Result T EngineFault) → old ≤ mid → EngineCause mid new result → EngineCause old new result
cause_later old mid new result le c = let more : mid ≤ new = c.later in record { later = omega (arith, le, more); failed = λ e. risen_later old mid new le (c.failed e) }

-- a fault of the store
pub cause_of : {U : Type 0} (old new : ℕ) (e : StoreFault) (f : EngineFault) → f ≡ store_fault e → old ≤ new → (e ≡ stores.DiskFault → HasRisen old new) → EngineCause {T = U} old new (Err f)
cause_of {U = U} old new e f is le rose = subst (λ (x : EngineFault). EngineCause {T = U} old new (Err x)) (sym is) (by e rose)
  where
    by : (e : StoreFault) → (e ≡ stores.DiskFault → HasRisen old new) → EngineCause {T = U} old new (Err (store_fault e))
    by (stores.NotStore part offset) rose = record { later = le; failed = λ e. absurd cc }
    by stores.DiskFault rose = record { later = le; failed = λ e. rose refl }
    by stores.Long rose = record { later = le; failed = λ e. absurd cc }
    by stores.NoMemory rose = record { later = le; failed = λ e. absurd cc }

pub cause_store : {T U : Type 0} (old new : ℕ) (e : StoreFault) (f : EngineFault) → f ≡ store_fault e → StoreCause {T = T} old new (Err e) → EngineCause {T = U} old new (Err f)
cause_store old new e f is c = cause_of old new e f is c.later (λ same. c.failed (ap (λ (x : StoreFault). Err x) same))

-- the same fault is a fault of another result
pub same_fault : {T : Type 0} (r : Result T EngineFault) (a b : EngineFault) → r ≡ Err a → r ≡ Err b → a ≡ b
same_fault r a b x y = cc

pub cause_same : {T U : Type 0} (old new : ℕ) (r : Result U EngineFault) (e f : EngineFault) → r ≡ Err f → f ≡ e → EngineCause {T = T} old new (Err e) → EngineCause old new r
cause_same {T = T} old new r e f is same c = record {
  later = c.later;
  failed = λ told. c.failed (ap (λ (x : EngineFault). Err x) (sym same ∙ same_fault r f DiskFault is told));
}

-- none at all
pub cause_none : {T : Type 0} (old new : ℕ) (x : T) → old ≤ new → EngineCause old new (Ok x)
cause_none old new x le = record { later = le; failed = λ e. absurd cc }

-- a fault that isn't the disk's
pub cause_other : {T : Type 0} (old new : ℕ) (f : EngineFault) → old ≤ new → (f ≡ DiskFault → ⊥) → EngineCause {T = T} old new (Err f)
cause_other old new f le other = record { later = le; failed = λ e. absurd (other (same f DiskFault e)) }
  where
    same : {T : Type 0} (a b : EngineFault) → IsErrOf {T = T} (Err a) b → a ≡ b
    same a b e = cc

-- a fault of its lives isn't
pub run_no_disk : (part : Part) (snap : ℕ) (fault : RunFault) → run_fault part snap fault ≡ DiskFault → ⊥
run_no_disk part snap (runs.Script at) e = absurd cc
run_no_disk part snap runs.States e = absurd cc
run_no_disk part snap runs.NoMemory e = absurd cc

-- ---- places

-- a fault of the store that tells no place is no place for an engine
pub no_place : {T : Type 0} (e : StoreFault) (f : EngineFault) → f ≡ store_fault e → ((part : Part) (offset : ℕ) → e ≡ stores.NotStore part offset → ⊥) → (part : Part) (offset : ℕ) → IsErrOf {T = T} (Err f) (NotStore part offset) → ⊥
no_place (stores.NotStore there at) f is none part offset e = none there at refl
no_place stores.DiskFault f is none part offset e = absurd (cc (is, e))
no_place stores.Long f is none part offset e = absurd (cc (is, e))
no_place stores.NoMemory f is none part offset e = absurd (cc (is, e))

-- nor is one of which such a place is ruled out
pub no_place_by : {T : Type 0} (Or : StoreFault → Type 0) → ((part : Part) (offset : ℕ) → Or (stores.NotStore part offset) → ⊥) → (e : StoreFault) (f : EngineFault) → f ≡ store_fault e → Or e
    → (part : Part) (offset : ℕ) → IsErrOf {T = T} (Err f) (NotStore part offset) → ⊥
no_place_by Or bad e f is or = no_place e f is (λ part offset same. bad part offset (subst Or same or))

module _ {N P S : Type 0} (g : Ghosts N P S) (planned : Planned P) (before after : ℕ) (refused : List ℕ) (rs : List Rec) where
  -- where asking tells one
  pub why_asked : {T : Type 0} (there : Part) (snap : ℕ) (fault : RunFault) (f : EngineFault) (tasks : List StoredTask) (lives : List Life) → f ≡ run_fault there snap fault
      → tasks ≡ (held rs).tasks → lives ≡ (held rs).lives → IsWhyFirst before after refused tasks lives fault
      → (part : Part) (offset : ℕ) → IsErrOf {T = T} (Err f) (NotStore part offset) → (part ≡ there) × IsWhyNone g planned before after refused rs offset
  why_asked there snap (runs.Script at) f tasks lives is a b why part offset e =
      let part_is : part ≡ there = cc in
      let offset_is : at ≡ offset = cc in
      let first = subst (λ (ts : List StoredTask). IsFirstRefused before after refused ts (held rs).lives at) a
      (subst (λ (ls : List Life). IsFirstRefused before after refused tasks ls at) b why) in
      (part_is, inl (subst (IsFirstRefused before after refused (held rs).tasks (held rs).lives) offset_is first))
  why_asked there snap runs.States f tasks lives is a b why part offset e = absurd why
  why_asked there snap runs.NoMemory f tasks lives is a b why part offset e = absurd (cc (is, e))

  -- where running does, once all scripts were asked
  pub why_run : {T : Type 0} (there : Part) (snap : ℕ) (fault : RunFault) (f : EngineFault) (mid : ℕ) (lives : List Life) → f ≡ run_fault there snap fault
      → AreScripts (held rs).tasks (held rs).lives → mid ≡ before → lives ≡ (held rs).lives → IsWhyOne mid after refused lives fault
      → (part : Part) (offset : ℕ) → IsErrOf {T = T} (Err f) (NotStore part offset) → (part ≡ there) × IsWhyNone g planned before after refused rs offset
  why_run there snap (runs.Script at) f mid lives is all kept same why part offset e =
      let part_is : part ≡ there = cc in
      let offset_is : at ≡ offset = cc in
      let one = subst (λ (n : ℕ). IsRefusedOne n after refused (held rs).lives at) kept
      (subst (λ (ls : List Life). IsRefusedOne mid after refused ls at) same why) in
      (part_is, inl (subst (IsFirstRefused before after refused (held rs).tasks (held rs).lives) offset_is (first_of_one before after refused (held rs).tasks (held rs).lives at all one)))
  why_run there snap runs.States f mid lives is all kept same why part offset e = absurd why
  why_run there snap runs.NoMemory f mid lives is all kept same why part offset e = absurd (cc (is, e))

  -- where restoring does
  pub why_restored : {T : Type 0} (there : Part) (snap : ℕ) (fault : RunFault) (f : EngineFault) (lives : List Life) → f ≡ run_fault there snap fault
      → AreScripts (held rs).tasks (held rs).lives → lives ≡ (held rs).lives → (fault ≡ runs.States → HasOtherStates g planned rs snap)
      → ((fault ≡ runs.States → ⊥) → IsWhyOne before after refused lives fault)
      → (part : Part) (offset : ℕ) → IsErrOf {T = T} (Err f) (NotStore part offset) → (part ≡ there) × IsWhyNone g planned before after refused rs offset
  why_restored there snap (runs.Script at) f lives is all same others why part offset e =
      why_run there snap (runs.Script at) f before lives is all refl same (why (λ other. absurd cc)) part offset e
  why_restored there snap runs.States f lives is all same others why part offset e =
      let part_is : part ≡ there = cc in
      let offset_is : snap ≡ offset = cc in
      (part_is, inr (subst (HasOtherStates g planned rs) offset_is (others refl)))
  why_restored there snap runs.NoMemory f lives is all same others why part offset e = absurd (cc (is, e))

  -- a later count began as this one
  pub why_later : (there part : Part) (mid offset : ℕ) → mid ≡ before → (part ≡ there) × IsWhyNone g planned mid after refused rs offset → (part ≡ there) × IsWhyNone g planned before after refused rs offset
  why_later there part mid offset kept why = (why.0, subst (λ (n : ℕ). IsWhyNone g planned n after refused rs offset) kept why.1)

-- ---- the faults of an opening

pub store_of_opening : (e : StoreFault) → IsOfOpening (store_fault e)
store_of_opening (stores.NotStore part offset) = tt
store_of_opening stores.DiskFault = tt
store_of_opening stores.Long = tt
store_of_opening stores.NoMemory = tt

pub run_of_opening : (part : Part) (snap : ℕ) (fault : RunFault) → IsOfOpening (run_fault part snap fault)
run_of_opening part snap (runs.Script at) = tt
run_of_opening part snap runs.States = tt
run_of_opening part snap runs.NoMemory = tt

-- a fault that is one of the store
pub opening_of : (e : StoreFault) (f : EngineFault) → f ≡ store_fault e → IsOfOpening f
opening_of e f is = subst IsOfOpening (sym is) (store_of_opening e)
