-- What is made of a right store.
use Rattle.std.proofs.Common.{◌≡◌, ℕ, ◌+◌, ◌<◌, ◌^◌, false, inl, inr, List, [], ◌∷◌, ◌++◌, length, map, refl, sym, ap, subst, ◌∙◌, length-append, arith}
use Rattle.std.specs.Prelude.{Err, IsErrOf, IsTrue}
use Rattle.kap_io.specs.Disk.{Image}
use Rattle.kap_io.specs.Moments.{Moments, Quiet, then_run, weaker}
use Rattle.kap_io.specs.declared.disk.Part.{Part}
use Rattle.node_core.specs.declared.node.Node.{Ghosts}
use Rattle.node_set.specs.Tasks.{Planned}
use Rattle.store_records.specs.Held.{are_next}
use Rattle.store_records.specs.Histories.{held}
use Rattle.store_records.specs.declared.rec.Rec.{Rec}
use Rattle.store_records.specs.declared.task.Life.{Life}
use Rattle.kap_base.specs.Events.{EventValue}
use Rattle.topic_core.specs.Topics.{Trans, event_of}
use Rattle.topic_core.specs.declared.transition.Transition.{Transition}
use Rattle.topic_store.specs.Opening.{Finds, Opens}
use Rattle.topic_store.specs.Stores.{IsNamed, IsNoStore, IsOn, StoreState}
use Rattle.topic_store.specs.declared.fault.StoreFault.{StoreFault}
use Rattle.topic_store.specs.declared.fault.StoreFault.TheVariants as stores
use Rattle.engine_runs.specs.Running.{RunValue}
use Rattle.engine_store.specs.Adding.{IsOnBehind, stands_with_some}
use Rattle.kap_engine.specs.Engines.{IsEngineBehind}
use Rattle.engine_store.specs.Faults.{store_fault}
use Rattle.engine_store.specs.Good.{IsFull, IsGood, stays_or_good}
use Rattle.engine_store.specs.Opening.{HasRunAll}
use Rattle.engine_store.specs.declared.fault.EngineFault.{EngineFault}
use Rattle.engine_store.specs.declared.fault.EngineFault.TheVariants.{NotStore}
use Rattle.engine_store.proofs.GoodLaws.{full_added, runs_added, some_good}
use Rattle.engine_store.proofs.OpenLaws.{due_are, due_next}

none-more : (xs ys : List Transition) → xs ≡ xs ++ ys → ys ≡ []
none-more xs [] e = refl
none-more xs (y ∷ ys) e = let long : length xs ≡ length xs + length (y ∷ ys) = ap length e ∙ length-append xs (y ∷ ys) in absurd (omega (arith, long))

module _ {N P S : Type 0} (g : Ghosts N P S) (planned : Planned P) (rs : List Rec) (good : IsGood g planned rs) (r : RunValue N) (due : List Transition) (h : HasRunAll g planned rs good.tasks 1 r due) where
  -- the missing transitions may be stored
  pub may_store : (again : (events : List EventValue) → Trans (map event_of (Trans events)) ≡ Trans events) (seen : Image) (images : Image → Type 0) (store : StoreState) → IsOn rs seen images store → store.kept.transitions + length due < 2 ^ 64 → IsTrue (are_next (held rs).transitions due)
  may_store again seen images store on few =
      let count : store.kept.transitions ≡ length (held rs).transitions = on.kept.keeps.transitions in
      due_next g planned rs good.tasks good.consistent 1 r due h again (omega (arith, count, few))

  -- and where they are, an engine is made
  pub made_behind : (seen : Image) (images : Image → Type 0) (store : StoreState) (stored : List Transition) → length r.names ≡ length (held rs).lives → IsOnBehind rs due seen images store
      → IsEngineBehind g planned rs seen images (record { store = store; run = r; stored = stored; spent = false })
  made_behind seen images store stored named b = record {
    records = b.records;
    more = due;
    added = b.added;
    engine = record {
      on = b.on;
      full = full_added g planned rs b.records due good b.added (due_are g planned rs good.tasks good.consistent 1 r due h);
      runs = runs_added g planned rs b.records due good.tasks r b.added h.runs;
      numbered = named ∙ ap (λ (ls : List Life). length ls) (sym b.added.lives);
    };
  }

  -- at each moment until then each image is as it was, or stands for a right store
  pub good_moments : {D : Type 0} (seen : D → Image) (moment : D → ℕ) (may_leave : D → Image → Type 0) (left_since : D → ℕ → Image → Type 0) (old mid new : D)
      → Quiet seen moment may_leave left_since old mid → Moments moment may_leave left_since mid new (stands_with_some rs due)
      → Moments moment may_leave left_since old new (stays_or_good g planned rs)
  good_moments seen moment may_leave left_since old mid new quiet adds =
      then_run moment may_leave left_since old mid new _ _ _ quiet.moments adds
      (λ a b was same. inl same)
      (λ a b c was first still s. inr (some_good g planned rs due c good (due_are g planned rs good.tasks good.consistent 1 r due h) s))

-- none is missing where the store has all
pub none_missing : {N P S : Type 0} (g : Ghosts N P S) (planned : Planned P) (rs : List Rec) (full : IsFull g planned rs) (r : RunValue N) (due : List Transition) → HasRunAll g planned rs full.good.tasks 1 r due → due ≡ []
none_missing g planned rs full r due h = none-more (held rs).transitions due (sym full.all ∙ due_are g planned rs full.good.tasks full.good.consistent 1 r due h)

-- calls that change nothing leave each image as it was
pub quiet_good : {N P S : Type 0} (g : Ghosts N P S) (planned : Planned P) (rs : List Rec) {D : Type 0} (seen : D → Image) (moment : D → ℕ) (may_leave : D → Image → Type 0) (left_since : D → ℕ → Image → Type 0) (old new : D)
    → Quiet seen moment may_leave left_since old new → Moments moment may_leave left_since old new (stays_or_good g planned rs)
quiet_good g planned rs seen moment may_leave left_since old new quiet =
    weaker moment may_leave left_since old new _ _ quiet.moments (λ a b was same. inl same)

-- where nothing follows calls that change nothing
pub quiet_still : {D : Type 0} (seen : D → Image) (moment : D → ℕ) (may_leave : D → Image → Type 0) (left_since : D → ℕ → Image → Type 0) (old mid new : D)
    → Quiet seen moment may_leave left_since old mid → new ≡ mid → Quiet seen moment may_leave left_since old new
quiet_still seen moment may_leave left_since old mid new quiet same = subst (λ d. Quiet seen moment may_leave left_since old d) (sym same) quiet

-- the log of a store is the one that the head names
pub named_by : (seen : Image) (images : Image → Type 0) (rs : List Rec) (store : StoreState) (part : Part) → IsOn rs seen images store → part ≡ store.log.part → IsNamed seen part
named_by seen images rs store part on is = record { run = on.run; head = on.head; is = is ∙ on.part }

-- a store is on its disk where what is read is as before
pub on_seen : (seen now : Image) (images : Image → Type 0) (rs : List Rec) (store : StoreState) → now ≡ seen → IsOn rs seen images store → IsOn rs now images store
on_seen seen now images rs store reads on = subst (λ (i : Image). IsOn rs i images store) (sym reads) on

-- ---- where the files are none of a store

-- they are none at the place that is told
pub found_fault : {T U : Type 0} (IsOf : List Rec → T → Type 0) (files : Image) (e : StoreFault) (f : EngineFault) (part : Part) (offset : ℕ) → f ≡ store_fault e → IsErrOf {T = U} (Err f) (NotStore part offset)
    → Finds IsOf files (Err e) → IsNoStore files part offset
found_fault IsOf files (stores.NotStore there at) f part offset is told found =
    let part_is : there ≡ part = cc in
    let offset_is : at ≡ offset = cc in
    subst (λ (p : Part). IsNoStore files p offset) part_is (subst (IsNoStore files there) offset_is found)
found_fault IsOf files stores.DiskFault f part offset is told found = absurd (cc (is, told))
found_fault IsOf files stores.Long f part offset is told found = absurd found
found_fault IsOf files stores.NoMemory f part offset is told found = absurd (cc (is, told))

-- and none is told where they stand for one
pub opened_fault : {T U : Type 0} (IsOf : T → Type 0) (e : StoreFault) (f : EngineFault) (part : Part) (offset : ℕ) → f ≡ store_fault e → IsErrOf {T = U} (Err f) (NotStore part offset)
    → Opens IsOf (Err e) → ⊥
opened_fault IsOf (stores.NotStore there at) f part offset is told opens = opens
opened_fault IsOf stores.DiskFault f part offset is told opens = absurd (cc (is, told))
opened_fault IsOf stores.Long f part offset is told opens = opens
opened_fault IsOf stores.NoMemory f part offset is told opens = absurd (cc (is, told))
