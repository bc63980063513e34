-- What stands after a store was compacted.
use Rattle.std.proofs.Common.{◌≡◌, ◌⊎◌, ℕ, List, Err, None, Some, inl, inr, refl, ◌∙◌}
use Rattle.std.specs.Prelude.{IsErrOf, Option}
use Rattle.kap_base.specs.Words.{HasRisen}
use Rattle.kap_io.specs.Disk.{Image}
use Rattle.kap_io.specs.Moments.{Moments, then_run, weaker}
use Rattle.kap_io.specs.declared.disk.Part.{Part}
use Rattle.node_core.specs.declared.node.Node.{Ghosts}
use Rattle.node_set.specs.Tasks.{Planned}
use Rattle.store_compact.specs.Staying.{staying}
use Rattle.store_compact.proofs.Total.{same_held}
use Rattle.store_records.specs.declared.rec.Rec.{Rec}
use Rattle.topic_store.proofs.Adding.{image_stands}
use Rattle.topic_store.proofs.Found.{seen_stands}
use Rattle.engine_store.specs.Faults.{IsNoGood, IsOfOpening}
use Rattle.engine_store.specs.Good.{IsGood, stays_or_good}
use Rattle.engine_store.specs.declared.fault.EngineFault.{EngineFault}
use Rattle.engine_store.specs.declared.fault.EngineFault.TheVariants as engines
use Rattle.kap_engine.specs.Changing.{IsFailure, StandsFull}
use Rattle.kap_engine.specs.Compacting.{stands_full_old_or_new}
use Rattle.kap_engine.specs.Engines.{EngineValue, IsEngine, IsEngineBehind}
use Rattle.kap_server.specs.declared.status.Status.{Status}
use Rattle.kap_server.specs.declared.status.Status.TheVariants as statuses
use Rattle.kap_server.specs.Changing.{EndsChange}
use Rattle.kap_server.specs.Command.{AsksForTooMany, IsToldRefused, IsUnlessDiskFailed}
use Rattle.kap_server.specs.Compacting.{CompactedTo, EndsCompaction, LeavesCompacted, OpensToCompact, stays_or_compacted}
use Rattle.kap_server.specs.Listing.{AreAsked}
use Rattle.kap_server.specs.Statuses.{status_of_engine}
use Rattle.kap_server.specs.Words.{Compact, Request, request_in}
use Rattle.kap_server.proofs.ListLaws.{of_opening}

-- ---- what is left

module _ {N P S : Type 0} (g : Ghosts N P S) (planned : Planned P) (rs : List Rec) where
  module _ {D : Type 0} (seen : D → Image) (moment : D → ℕ) (may_leave : D → Image → Type 0) (left_since : D → ℕ → Image → Type 0) (old mid new : D) (engine : EngineValue N) (made : IsEngineBehind g planned rs (seen mid) (may_leave mid) engine) where
    stood : (a c : Image) → StandsFull g planned made.records c ⊎ StandsFull g planned (staying made.records) c → stays_or_compacted g planned rs a c
    stood a c (inl f) = inl (inr (record {
      records = made.records;
      more = made.more;
      added = made.added;
      stands = f.stands;
      good = f.full.good;
    }))
    stood a c (inr f) = inr (record {
      records = made.records;
      more = made.more;
      added = made.added;
      same = same_held made.records made.engine.on.stored.follow;
      full = f.full;
      stands = f.stands;
    })

    -- an opening, and a compaction behind it
    pub opened_then_compacted : Moments moment may_leave left_since old mid (stays_or_good g planned rs) → Moments moment may_leave left_since mid new (stands_full_old_or_new g planned made.records)
        → Moments moment may_leave left_since old new (stays_or_compacted g planned rs)
    opened_then_compacted opened compacted = then_run moment may_leave left_since old mid new _ _ _ opened compacted
        (λ a b was how. inl how)
        (λ a b c was how left stands. stood a c stands)

  -- an opening alone
  pub opened_whole : {D : Type 0} (moment : D → ℕ) (may_leave : D → Image → Type 0) (left_since : D → ℕ → Image → Type 0) (old new : D) → Moments moment may_leave left_since old new (stays_or_good g planned rs)
      → Moments moment may_leave left_since old new (stays_or_compacted g planned rs)
  opened_whole moment may_leave left_since old new opened = weaker moment may_leave left_since old new _ _ opened (λ a b was how. inl how)

  -- the records that stay are there
  pub compact_done : (seen-before : Image) (images-before : Image → Type 0) (before after : EngineValue N) (seen : Image) (images : Image → Type 0)
      → (made : IsEngineBehind g planned rs seen-before images-before before) → IsEngine g planned (staying made.records) seen images after → LeavesCompacted g planned rs seen images
  compact_done seen-before images-before before after seen images made engine = record {
    records = made.records;
    more = made.more;
    added = made.added;
    same = same_held made.records made.engine.on.stored.follow;
    full = engine.full;
    reads = seen_stands seen images (staying made.records) after.store engine.on;
    leaves = image_stands (staying made.records) seen images after.store engine.on;
  }

-- ---- how it ends

-- where the store isn't opened, or a compaction fails, on any disk
pub opening_compacts : (fault : EngineFault) → IsOfOpening fault → EndsCompaction (status_of_engine fault)
opening_compacts fault may = of_opening {T = Unit {0}} EndsCompaction fault may (λ part offset is. tt) tt tt

-- it ends as a change may
pub compacts_changes : (s : Status) → EndsCompaction s → EndsChange s
compacts_changes statuses.Ok ends = tt
compacts_changes statuses.Usage ends = ends
compacts_changes (statuses.Script fault) ends = ends
compacts_changes (statuses.Line n fault) ends = ends
compacts_changes (statuses.Truncated n) ends = ends
compacts_changes (statuses.NotStore part offset) ends = tt
compacts_changes statuses.Exists ends = ends
compacts_changes statuses.NoTask ends = tt
compacts_changes statuses.TooManyTasks ends = ends
compacts_changes statuses.TooLong ends = ends
compacts_changes statuses.NoMemory ends = tt
compacts_changes statuses.ReadFault ends = ends
compacts_changes statuses.WriteFault ends = ends
compacts_changes statuses.DiskFault ends = tt

module _ {N P S : Type 0} (g : Ghosts N P S) (planned : Planned P) (rs : List Rec) (before after : ℕ) (seen : Image) (images : Image → Type 0) where
  -- a right store isn't opened
  pub none_compacted : {T : Type 0} (fault : EngineFault) → IsOfOpening fault → ((part : Part) (offset : ℕ) → IsErrOf {T = T} (Err fault) (engines.NotStore part offset) → HasRisen before after)
      → CompactedTo g planned rs before after seen images (status_of_engine fault)
  none_compacted fault may rose = of_opening (CompactedTo g planned rs before after seen images) fault may rose tt tt

  -- or its compaction fails
  pub compact_failed : (fault : EngineFault) → IsFailure fault → CompactedTo g planned rs before after seen images (status_of_engine fault)
  compact_failed (engines.Script fault) failed = absurd failed
  compact_failed engines.NoTask failed = absurd failed
  compact_failed engines.Exists failed = absurd failed
  compact_failed engines.TooManyTasks failed = absurd failed
  compact_failed (engines.NotStore part offset) failed = absurd failed
  compact_failed engines.DiskFault failed = tt
  compact_failed engines.NoMemory failed = tt

  -- so its status is Ok, unless memory ran out, the disk failed or a pattern was refused
  pub compact_answers : (result : Status) → CompactedTo g planned rs before after seen images result → IsUnlessDiskFailed result statuses.Ok ⊎ IsToldRefused before after result
  compact_answers statuses.Ok h = inl (inl refl)
  compact_answers statuses.Usage h = absurd h
  compact_answers (statuses.Script fault) h = absurd h
  compact_answers (statuses.Line n fault) h = absurd h
  compact_answers (statuses.Truncated n) h = absurd h
  compact_answers (statuses.NotStore part offset) h = inr h
  compact_answers statuses.Exists h = absurd h
  compact_answers statuses.NoTask h = absurd h
  compact_answers statuses.TooManyTasks h = absurd h
  compact_answers statuses.TooLong h = absurd h
  compact_answers statuses.NoMemory h = inl (inr (inl refl))
  compact_answers statuses.ReadFault h = absurd h
  compact_answers statuses.WriteFault h = absurd h
  compact_answers statuses.DiskFault h = inl (inr (inr refl))

-- ---- which files were opened

module _ {N P S : Type 0} (g : Ghosts N P S) (planned : Planned P) (before after : ℕ) (refused : List ℕ) (still : Type 0) (files : Image) where
  -- none
  pub compact_none : {T : Type 0} (fault : EngineFault) → IsOfOpening fault → ((part : Part) (offset : ℕ) → IsErrOf {T = T} (Err fault) (engines.NotStore part offset) → IsNoGood g planned before after refused files part offset × still)
      → OpensToCompact g planned before after refused still files (status_of_engine fault)
  compact_none fault may why = of_opening (OpensToCompact g planned before after refused still files) fault may (λ part offset is. inl (why part offset is)) tt tt

  -- where a compaction tells a place, the store wasn't right
  pub compact_asked : (fault : EngineFault) → IsOfOpening fault → (asked : AreAsked g planned files) → (IsGood g planned asked.records → IsFailure fault) → OpensToCompact g planned before after refused still files (status_of_engine fault)
  compact_asked (engines.Script fault) may asked failed = absurd may
  compact_asked engines.NoTask may asked failed = absurd may
  compact_asked engines.Exists may asked failed = absurd may
  compact_asked engines.TooManyTasks may asked failed = absurd may
  compact_asked (engines.NotStore part offset) may asked failed = inr (record { asked = asked; wrong = λ good. failed good })
  compact_asked engines.DiskFault may asked failed = tt
  compact_asked engines.NoMemory may asked failed = tt

-- ---- the words

pub compact_not_none : ◌≡◌ {A = Option Request} (Some Compact) None → ⊥
compact_not_none e = absurd cc

pub compact_not_many : (words : List (List ℕ)) → Some Compact ≡ request_in words → AsksForTooMany words → ⊥
compact_not_many words is (inl asks) = let e = is ∙ asks.asks in absurd cc
compact_not_many words is (inr asks) = let e = is ∙ asks.asks in absurd cc
