-- What a command that changes a store answers.
use Rattle.std.proofs.Common.{◌≡◌, ℕ, ◌<◌, ◌≤◌, true, false, List, length, Option, None, Some, Ok, Err, inl, inr, refl, sym, ap, subst, ◌∙◌, arith}
use Rattle.std.specs.Prelude.{◌⊎◌}
use Rattle.kap_base.specs.Points.{PointValue}
use Rattle.kap_base.specs.Words.{HasRisen}
use Rattle.kap_base.specs.declared.limits.TheConstants.{TASK_LIMIT}
use Rattle.kap_io.specs.Disk.{Image}
use Rattle.kap_io.specs.declared.disk.Part.{Part}
use Rattle.flow_core.specs.Nets.{NetValue}
use Rattle.lambda_types.specs.Faults.{Refusal}
use Rattle.line_points.specs.Body.{body_of}
use Rattle.line_points.specs.declared.fault.BodyFault.{BodyFault}
use Rattle.line_points.specs.declared.fault.LineFault.{LineFault}
use Rattle.line_points.specs.declared.mode.Mode.{Mode}
use Rattle.node_core.specs.declared.node.Node.{Ghosts}
use Rattle.node_set.specs.Tasks.{Planned}
use Rattle.store_records.specs.Held.{has_task}
use Rattle.store_records.specs.Histories.{held}
use Rattle.store_records.specs.declared.rec.Rec.{Rec}
use Rattle.store_records.specs.declared.rec.Rec.TheVariants as kinds
use Rattle.tick_compile.specs.Scripts.{Accepts, Refuses}
use Rattle.tick_compile.specs.declared.script_fault.ScriptFault.{ScriptFault}
use Rattle.tick_compile.specs.declared.tasks.Task.{Task}
use Rattle.tick_compile.proofs.ScriptLaws.{apart, one_fault}
use Rattle.topic_store.specs.Stores.{IsNoStore}
use Rattle.topic_store.proofs.Apart.{no_store_apart, no_store_unique}
use Rattle.engine_store.specs.Faults.{IsNoGood, no_lives, no_store}
use Rattle.engine_store.specs.Good.{IsGood}
use Rattle.kap_server.specs.declared.options.WriteOptions.{WriteOptions}
use Rattle.kap_server.specs.declared.status.Status.{Status}
use Rattle.kap_server.specs.declared.status.Status.TheVariants as statuses
use Rattle.kap_server.specs.declared.words.Change.{Change}
use Rattle.kap_server.specs.declared.writing.TheConstants.{BODY_LIMIT}
use Rattle.kap_server.specs.Changing.{ChangedTo, DefinedTo, Defines, DefinesTo, EndsChange, EndsReading, IsRefusedThere, IsTaskScript, OpensBehind, OpensToChange, ReadsScript}
use Rattle.kap_server.specs.Command.{AsksForTooMany, HasFailed, IsToldRefused, IsUnlessDiskFailed, IsUnlessStopped, change_status}
use Rattle.kap_server.specs.Compacting.{OpensToCompact}
use Rattle.kap_server.specs.Listing.{AreAsked, AreOthers}
use Rattle.kap_server.specs.Readying.{is_pattern_refused}
use Rattle.kap_server.specs.Runs.{refusal_of}
use Rattle.kap_server.specs.Words.{ChangeTask, Define, Request, Write, request_in}
use Rattle.kap_server.specs.Writing.{ReadsLines, Writes, WritesTo, WrittenTo}
use Rattle.kap_server.proofs.CheckLaws.{not_both}

-- ---- what the words ask for

pub same_defined : (a b : List ℕ) → ◌≡◌ {A = Option Request} (Some (Define a)) (Some (Define b)) → a ≡ b
same_defined a b e = cc

pub same_change : (a b : Change) (x y : List ℕ) → ◌≡◌ {A = Option Request} (Some (ChangeTask a x)) (Some (ChangeTask b y)) → a ≡ b
same_change a b x y e = cc

pub same_changed : (a b : Change) (x y : List ℕ) → ◌≡◌ {A = Option Request} (Some (ChangeTask a x)) (Some (ChangeTask b y)) → x ≡ y
same_changed a b x y e = cc

module _ (a b : WriteOptions) (db rp p q : List ℕ) (e : ◌≡◌ {A = Option Request} (Some (Write a db rp)) (Some (Write b p q))) where
  same-options : a ≡ b
  same-options = cc

  same-db : db ≡ p
  same-db = cc

  same-rp : rp ≡ q
  same-rp = cc

  -- so what holds of one request holds of the other
  pub write_as_asked : (Q : WriteOptions → List ℕ → List ℕ → Type 0) → Q a db rp → Q b p q
  write_as_asked Q h = subst (λ (o : WriteOptions). Q o p q) same-options (subst (λ (d : List ℕ). Q a d q) same-db (subst (λ (r : List ℕ). Q a db r) same-rp h))

-- they ask for something, and for no more tasks than there may be
pub define_not_none : (id : List ℕ) → ◌≡◌ {A = Option Request} (Some (Define id)) None → ⊥
define_not_none id e = absurd cc

pub change_not_none : (change : Change) (id : List ℕ) → ◌≡◌ {A = Option Request} (Some (ChangeTask change id)) None → ⊥
change_not_none change id e = absurd cc

pub write_not_none : (options : WriteOptions) (db rp : List ℕ) → ◌≡◌ {A = Option Request} (Some (Write options db rp)) None → ⊥
write_not_none options db rp e = absurd cc

pub change_not_many : (change : Change) (id : List ℕ) (words : List (List ℕ)) → Some (ChangeTask change id) ≡ request_in words → AsksForTooMany words → ⊥
change_not_many change id words is (inl asks) = let e = is ∙ asks.asks in absurd cc
change_not_many change id words is (inr asks) = let e = is ∙ asks.asks in absurd cc

pub write_not_many : (options : WriteOptions) (db rp : List ℕ) (words : List (List ℕ)) → Some (Write options db rp) ≡ request_in words → AsksForTooMany words → ⊥
write_not_many options db rp words is (inl asks) = let e = is ∙ asks.asks in absurd cc
write_not_many options db rp words is (inr asks) = let e = is ∙ asks.asks in absurd cc

-- ---- how a change ends, on any disk

pub changes_not : (s status : Status) → EndsChange s → (EndsChange status → ⊥) → s ≡ status → ⊥
changes_not s status ends not e = not (subst EndsChange e ends)

pub changes_no_pattern : (s : Status) → EndsChange s → is_pattern_refused s ≡ true → ⊥
changes_no_pattern statuses.Ok ends e = absurd cc
changes_no_pattern statuses.Usage ends e = ends
changes_no_pattern (statuses.Script fault) ends e = ends
changes_no_pattern (statuses.Line n fault) ends e = ends
changes_no_pattern (statuses.Truncated n) ends e = ends
changes_no_pattern (statuses.NotStore part offset) ends e = absurd cc
changes_no_pattern statuses.Exists ends e = ends
changes_no_pattern statuses.NoTask ends e = absurd cc
changes_no_pattern statuses.TooManyTasks ends e = ends
changes_no_pattern statuses.TooLong ends e = ends
changes_no_pattern statuses.NoMemory ends e = absurd cc
changes_no_pattern statuses.ReadFault ends e = ends
changes_no_pattern statuses.WriteFault ends e = ends
changes_no_pattern statuses.DiskFault ends e = absurd cc

-- ---- and what was read first

pub script_not : (refused : List ℕ) (s t : Option (List ℕ)) (result status : Status) → ReadsScript refused s t result → (ReadsScript refused s t status → ⊥) → result ≡ status → ⊥
script_not refused s t result status reads not e = not (subst (λ (r : Status). ReadsScript refused s t r) e reads)

module _ (db rp : List ℕ) (mode : Mode) (s t : Option (List ℕ)) where
  pub lines_not : (result status : Status) → ReadsLines db rp mode s t result → (ReadsLines db rp mode s t status → ⊥) → result ≡ status → ⊥
  lines_not result status reads not e = not (subst (λ (r : Status). ReadsLines db rp mode s t r) e reads)

  pub lines_no_pattern : (result : Status) → ReadsLines db rp mode s t result → is_pattern_refused result ≡ true → ⊥
  lines_no_pattern statuses.Ok reads e = absurd cc
  lines_no_pattern statuses.Usage reads e = reads
  lines_no_pattern (statuses.Script fault) reads e = reads
  lines_no_pattern (statuses.Line n fault) reads e = absurd cc
  lines_no_pattern (statuses.Truncated n) reads e = reads
  lines_no_pattern (statuses.NotStore part offset) reads e = absurd cc
  lines_no_pattern statuses.Exists reads e = reads
  lines_no_pattern statuses.NoTask reads e = reads
  lines_no_pattern statuses.TooManyTasks reads e = reads
  lines_no_pattern statuses.TooLong reads e = absurd cc
  lines_no_pattern statuses.NoMemory reads e = absurd cc
  lines_no_pattern statuses.ReadFault reads e = absurd cc
  lines_no_pattern statuses.WriteFault reads e = absurd cc
  lines_no_pattern statuses.DiskFault reads e = absurd cc

-- ---- where the files stand for no store

module _ {N P S : Type 0} (g : Ghosts N P S) (planned : Planned P) (before after : ℕ) (refused : List ℕ) (still : Type 0) (files : Image) (part : Part) (offset : ℕ) (none : IsNoStore files part offset) where
  -- they are none that may be opened
  not-asked : AreAsked g planned files → ⊥
  not-asked asked = no_store_apart files part offset asked.records none asked.stands

  -- the place that is told is this one
  told-here : (there : Part) (place : ℕ) → IsNoGood g planned before after refused files there place → statuses.NotStore there place ≡ statuses.NotStore part offset
  told-here there place (no_store one) =
      let same = no_store_unique files there part place offset one none in
      ap (λ (p : Part). statuses.NotStore p place) same.0 ∙ ap (λ (n : ℕ). statuses.NotStore part n) same.1
  told-here there place (no_lives rs stands named why) = absurd (no_store_apart files part offset rs none stands)

  -- a change of a task tells it
  pub change_nowhere : (now : Image) (id : List ℕ) (result : Status) → OpensToChange g planned before after refused still files now id result → IsUnlessDiskFailed result (statuses.NotStore part offset)
  change_nowhere now id statuses.Ok h = absurd (not-asked h)
  change_nowhere now id statuses.Usage h = absurd h
  change_nowhere now id (statuses.Script fault) h = absurd h
  change_nowhere now id (statuses.Line n fault) h = absurd h
  change_nowhere now id (statuses.Truncated n) h = absurd h
  change_nowhere now id (statuses.NotStore there place) h = by h
    where
      by : (IsNoGood g planned before after refused files there place × still) ⊎ IsRefusedThere g planned before after refused files now id there place → IsUnlessDiskFailed (statuses.NotStore there place) (statuses.NotStore part offset)
      by (inl bad) = inl (told-here there place bad.0)
      by (inr again) = absurd (not-asked again.asked)
  change_nowhere now id statuses.Exists h = absurd h
  change_nowhere now id statuses.NoTask h = absurd (not-asked h)
  change_nowhere now id statuses.TooManyTasks h = absurd h
  change_nowhere now id statuses.TooLong h = absurd h
  change_nowhere now id statuses.NoMemory h = inr (inl refl)
  change_nowhere now id statuses.ReadFault h = absurd h
  change_nowhere now id statuses.WriteFault h = absurd h
  change_nowhere now id statuses.DiskFault h = inr (inr refl)

  -- so does a compaction
  pub compact_nowhere : (result : Status) → OpensToCompact g planned before after refused still files result → IsUnlessDiskFailed result (statuses.NotStore part offset)
  compact_nowhere statuses.Ok h = absurd (not-asked h)
  compact_nowhere statuses.Usage h = absurd h
  compact_nowhere (statuses.Script fault) h = absurd h
  compact_nowhere (statuses.Line n fault) h = absurd h
  compact_nowhere (statuses.Truncated n) h = absurd h
  compact_nowhere (statuses.NotStore there place) h = by h
    where
      by : (IsNoGood g planned before after refused files there place × still) ⊎ AreOthers g planned files → IsUnlessDiskFailed (statuses.NotStore there place) (statuses.NotStore part offset)
      by (inl bad) = inl (told-here there place bad.0)
      by (inr others) = absurd (not-asked others.asked)
  compact_nowhere statuses.Exists h = absurd h
  compact_nowhere statuses.NoTask h = absurd h
  compact_nowhere statuses.TooManyTasks h = absurd h
  compact_nowhere statuses.TooLong h = absurd h
  compact_nowhere statuses.NoMemory h = inr (inl refl)
  compact_nowhere statuses.ReadFault h = absurd h
  compact_nowhere statuses.WriteFault h = absurd h
  compact_nowhere statuses.DiskFault h = inr (inr refl)

  -- so does a command that reads the input first, unless what it read was refused
  pub behind_nowhere : (R : Type 0) → R → (result : Status) → OpensBehind g planned before after refused still files result → (R × EndsReading result) ⊎ IsUnlessDiskFailed result (statuses.NotStore part offset)
  behind_nowhere R reads statuses.Ok h = absurd (not-asked h)
  behind_nowhere R reads statuses.Usage h = absurd h
  behind_nowhere R reads (statuses.Script fault) h = inl (reads, tt)
  behind_nowhere R reads (statuses.Line n fault) h = inl (reads, tt)
  behind_nowhere R reads (statuses.Truncated n) h = absurd h
  behind_nowhere R reads (statuses.NotStore there place) h = inr (inl (told-here there place h.0))
  behind_nowhere R reads statuses.Exists h = absurd (not-asked h)
  behind_nowhere R reads statuses.NoTask h = absurd h
  behind_nowhere R reads statuses.TooManyTasks h = absurd (not-asked h)
  behind_nowhere R reads statuses.TooLong h = inl (reads, tt)
  behind_nowhere R reads statuses.NoMemory h = inl (reads, tt)
  behind_nowhere R reads statuses.ReadFault h = inl (reads, tt)
  behind_nowhere R reads statuses.WriteFault h = absurd (not-asked h)
  behind_nowhere R reads statuses.DiskFault h = inr (inr (inr refl))

-- ---- the status of a change

pub change_answers : {N P S : Type 0} (g : Ghosts N P S) (planned : Planned P) (rs : List Rec) (id : List ℕ) (r : Rec) (before after : ℕ) (seen : Image) (images : Image → Type 0) (result : Status)
    → ChangedTo g planned rs id r before after seen images result → IsUnlessDiskFailed result (change_status (has_task id (held rs).tasks)) ⊎ IsToldRefused before after result
change_answers g planned rs id r before after seen images statuses.Ok h = inl (inl (sym (ap change_status h.0)))
change_answers g planned rs id r before after seen images statuses.Usage h = absurd h
change_answers g planned rs id r before after seen images (statuses.Script fault) h = absurd h
change_answers g planned rs id r before after seen images (statuses.Line n fault) h = absurd h
change_answers g planned rs id r before after seen images (statuses.Truncated n) h = absurd h
change_answers g planned rs id r before after seen images (statuses.NotStore part offset) h = inr h
change_answers g planned rs id r before after seen images statuses.Exists h = absurd h
change_answers g planned rs id r before after seen images statuses.NoTask h = inl (inl (sym (ap change_status h.0)))
change_answers g planned rs id r before after seen images statuses.TooManyTasks h = absurd h
change_answers g planned rs id r before after seen images statuses.TooLong h = absurd h
change_answers g planned rs id r before after seen images statuses.NoMemory h = inl (inr (inl refl))
change_answers g planned rs id r before after seen images statuses.ReadFault h = absurd h
change_answers g planned rs id r before after seen images statuses.WriteFault h = absurd h
change_answers g planned rs id r before after seen images statuses.DiskFault h = inl (inr (inr refl))

-- ---- the status of a definition

-- a text, behind records, is defined to one
module _ (refused : Option Refusal) (rs : List Rec) (id text : List ℕ) where
  abbrev Accepted : Type 0
  Accepted = (task : Task) × Accepts refused text task

  not-refused : Accepted → (fault : ScriptFault) → Refuses refused text fault → ⊥
  not-refused script fault why = apart refused text script.0 fault script.1 why

  not-free : has_task id (held rs).tasks ≡ false → has_task id (held rs).tasks ≡ true → ⊥
  not-free free taken = let wrong = sym free ∙ taken in absurd cc

  not-full : length (held rs).tasks < TASK_LIMIT → TASK_LIMIT ≤ length (held rs).tasks → ⊥
  not-full room full = omega (arith, room, full)

  one-definition : (a b : Status) → DefinesTo refused rs id text a → DefinesTo refused rs id text b → a ≡ b
  one-definition statuses.Ok statuses.Ok p q = refl
  one-definition statuses.Ok (statuses.Script fault) p q = absurd (not-refused p.1 fault q.1)
  one-definition statuses.Ok statuses.Exists p q = absurd (not-free p.2 q.2)
  one-definition statuses.Ok statuses.TooManyTasks p q = absurd (not-full p.3 q.3)
  one-definition statuses.Ok statuses.TooLong p q = absurd (not_both text p.0 q)
  one-definition (statuses.Script fault) statuses.Ok p q = absurd (not-refused q.1 fault p.1)
  one-definition (statuses.Script fault) (statuses.Script other) p q = ap statuses.Script (one_fault refused text fault other p.1 q.1)
  one-definition (statuses.Script fault) statuses.Exists p q = absurd (not-refused q.1 fault p.1)
  one-definition (statuses.Script fault) statuses.TooManyTasks p q = absurd (not-refused q.1 fault p.1)
  one-definition (statuses.Script fault) statuses.TooLong p q = absurd (not_both text p.0 q)
  one-definition statuses.Exists statuses.Ok p q = absurd (not-free q.2 p.2)
  one-definition statuses.Exists (statuses.Script fault) p q = absurd (not-refused p.1 fault q.1)
  one-definition statuses.Exists statuses.Exists p q = refl
  one-definition statuses.Exists statuses.TooManyTasks p q = absurd (not-free q.2 p.2)
  one-definition statuses.Exists statuses.TooLong p q = absurd (not_both text p.0 q)
  one-definition statuses.TooManyTasks statuses.Ok p q = absurd (not-full q.3 p.3)
  one-definition statuses.TooManyTasks (statuses.Script fault) p q = absurd (not-refused p.1 fault q.1)
  one-definition statuses.TooManyTasks statuses.Exists p q = absurd (not-free p.2 q.2)
  one-definition statuses.TooManyTasks statuses.TooManyTasks p q = refl
  one-definition statuses.TooManyTasks statuses.TooLong p q = absurd (not_both text p.0 q)
  one-definition statuses.TooLong statuses.Ok p q = absurd (not_both text q.0 p)
  one-definition statuses.TooLong (statuses.Script fault) p q = absurd (not_both text q.0 p)
  one-definition statuses.TooLong statuses.Exists p q = absurd (not_both text q.0 p)
  one-definition statuses.TooLong statuses.TooManyTasks p q = absurd (not_both text q.0 p)
  one-definition statuses.TooLong statuses.TooLong p q = refl
  one-definition a statuses.Usage p q = absurd q
  one-definition a (statuses.Line n fault) p q = absurd q
  one-definition a (statuses.Truncated n) p q = absurd q
  one-definition a (statuses.NotStore part offset) p q = absurd q
  one-definition a statuses.NoTask p q = absurd q
  one-definition a statuses.NoMemory p q = absurd q
  one-definition a statuses.ReadFault p q = absurd q
  one-definition a statuses.WriteFault p q = absurd q
  one-definition a statuses.DiskFault p q = absurd q
  one-definition statuses.Usage b p q = absurd p
  one-definition (statuses.Line n fault) b p q = absurd p
  one-definition (statuses.Truncated n) b p q = absurd p
  one-definition (statuses.NotStore part offset) b p q = absurd p
  one-definition statuses.NoTask b p q = absurd p
  one-definition statuses.NoMemory b p q = absurd p
  one-definition statuses.ReadFault b p q = absurd p
  one-definition statuses.WriteFault b p q = absurd p
  one-definition statuses.DiskFault b p q = absurd p

-- a definition answers it
module _ (before after : ℕ) (refused : List ℕ) (rs : List Rec) (id text : List ℕ) (t : Option (List ℕ)) where
  -- the answer is that of the text, or memory ran out, a device failed or a pattern was refused
  abbrev IsAnswered : Status → Type 0
  IsAnswered result = DefinesTo (refusal_of result refused) rs id text result ⊎ (HasFailed result ⊎ IsToldRefused before after result)

  -- what was read was refused
  of-reading : (result : Status) → EndsReading result → ReadsScript refused (Some text) t result → IsAnswered result
  of-reading statuses.Ok ends reads = absurd ends
  of-reading statuses.Usage ends reads = absurd ends
  of-reading (statuses.Script fault) ends reads = inl reads
  of-reading (statuses.Line n fault) ends reads = absurd reads
  of-reading (statuses.Truncated n) ends reads = absurd ends
  of-reading (statuses.NotStore part offset) ends reads = absurd ends
  of-reading statuses.Exists ends reads = absurd ends
  of-reading statuses.NoTask ends reads = absurd ends
  of-reading statuses.TooManyTasks ends reads = absurd ends
  of-reading statuses.TooLong ends reads = inl reads
  of-reading statuses.NoMemory ends reads = inr (inl (inl refl))
  of-reading statuses.ReadFault ends reads = inr (inl (inr (inl refl)))
  of-reading statuses.WriteFault ends reads = absurd ends
  of-reading statuses.DiskFault ends reads = absurd ends

  module _ {N P S : Type 0} (g : Ghosts N P S) (planned : Planned P) where
    -- the store was opened
    of-defining : (r : Rec) (seen : Image) (images : Image → Type 0) (result : Status) → IsTaskScript text → ReadsScript refused (Some text) t result
        → DefinedTo g planned rs id r before after seen images result → IsAnswered result
    of-defining r seen images statuses.Ok script reads ends = inl (script.0, script.1, ends.0, ends.1)
    of-defining r seen images statuses.Usage script reads ends = absurd ends
    of-defining r seen images (statuses.Script fault) script reads ends = inl reads
    of-defining r seen images (statuses.Line n fault) script reads ends = absurd ends
    of-defining r seen images (statuses.Truncated n) script reads ends = absurd ends
    of-defining r seen images (statuses.NotStore part offset) script reads ends = inr (inr ends)
    of-defining r seen images statuses.Exists script reads ends = inl (script.0, script.1, ends.0)
    of-defining r seen images statuses.NoTask script reads ends = absurd ends
    of-defining r seen images statuses.TooManyTasks script reads ends = inl (script.0, script.1, ends.0, ends.1)
    of-defining r seen images statuses.TooLong script reads ends = absurd ends
    of-defining r seen images statuses.NoMemory script reads ends = inr (inl (inl refl))
    of-defining r seen images statuses.ReadFault script reads ends = absurd ends
    of-defining r seen images statuses.WriteFault script reads ends = absurd ends
    of-defining r seen images statuses.DiskFault script reads ends = inr (inl (inr (inr (inr refl))))

    module _ {D : Type 0} (seen : D → Image) (moment : D → ℕ) (may_leave : D → Image → Type 0) (left_since : D → ℕ → Image → Type 0) (old new : D) (same : Type 0) (result : Status) where
      is-answered : ReadsScript refused (Some text) t result → (EndsReading result × same) ⊎ Defines g planned seen moment may_leave left_since rs id (Some text) before after old new result → IsAnswered result
      is-answered reads (inl early) = of-reading result early.0 reads
      is-answered reads (inr d) = of-defining (kinds.Define id d.script false) (seen new) (may_leave new) result (subst IsTaskScript (sym d.all) d.is) reads d.ends

      pub define_answers : (status : Status) (s : Option (List ℕ)) → s ≡ Some text → ReadsScript refused s t result
          → (EndsReading result × same) ⊎ Defines g planned seen moment may_leave left_since rs id s before after old new result
          → DefinesTo (refusal_of result refused) rs id text status → IsUnlessStopped before after result status
      define_answers status s is reads defined to = by
          (is-answered (subst (λ (o : Option (List ℕ)). ReadsScript refused o t result) is reads)
          (subst (λ (o : Option (List ℕ)). (EndsReading result × same) ⊎ Defines g planned seen moment may_leave left_since rs id o before after old new result) is defined))
        where
          by : IsAnswered result → IsUnlessStopped before after result status
          by (inl due) = inl (one-definition (refusal_of result refused) rs id text result status due to)
          by (inr stopped) = inr stopped

-- ---- the status of a write

-- a place is told only where a pattern was refused
abbrev RoseAt : ℕ → ℕ → Status → Type 0
RoseAt before after result = (part : Part) (offset : ℕ) → result ≡ statuses.NotStore part offset → HasRisen before after

module _ (db rp : List ℕ) (mode : Mode) (body : List ℕ) where
  abbrev HasFault : ℕ → LineFault → Type 0
  HasFault n fault = body_of db rp mode body ≡ Err (record { line = n; fault = fault })

  both-read : (points : List PointValue) (n : ℕ) (fault : LineFault) → body_of db rp mode body ≡ Ok points → HasFault n fault → ⊥
  both-read points n fault one other = let wrong = sym one ∙ other in absurd cc

  same-line : (n m : ℕ) (fault other : LineFault) → HasFault n fault → HasFault m other → statuses.Line n fault ≡ statuses.Line m other
  same-line n m fault other one two =
      let faults = sym one ∙ two in
      let same : ◌≡◌ {A = BodyFault} (record { line = n; fault = fault }) (record { line = m; fault = other }) = cc in
      ap (λ (b : BodyFault). statuses.Line b.line b.fault) same

  both-long : length body ≤ BODY_LIMIT → BODY_LIMIT < length body → ⊥
  both-long short long = omega (arith, short, long)

  -- lines are written to one
  one-write : (a b : Status) → WritesTo db rp mode body a → WritesTo db rp mode body b → a ≡ b
  one-write statuses.Ok statuses.Ok p q = refl
  one-write statuses.Ok (statuses.Line n fault) p q = absurd (both-read p.0 n fault p.1.read q.1)
  one-write statuses.Ok statuses.TooLong p q = absurd (both-long p.1.short q)
  one-write (statuses.Line n fault) statuses.Ok p q = absurd (both-read q.0 n fault q.1.read p.1)
  one-write (statuses.Line n fault) (statuses.Line m other) p q = same-line n m fault other p.1 q.1
  one-write (statuses.Line n fault) statuses.TooLong p q = absurd (both-long p.0 q)
  one-write statuses.TooLong statuses.Ok p q = absurd (both-long q.1.short p)
  one-write statuses.TooLong (statuses.Line n fault) p q = absurd (both-long q.0 p)
  one-write statuses.TooLong statuses.TooLong p q = refl
  one-write a statuses.Usage p q = absurd q
  one-write a (statuses.Script fault) p q = absurd q
  one-write a (statuses.Truncated n) p q = absurd q
  one-write a (statuses.NotStore part offset) p q = absurd q
  one-write a statuses.Exists p q = absurd q
  one-write a statuses.NoTask p q = absurd q
  one-write a statuses.TooManyTasks p q = absurd q
  one-write a statuses.NoMemory p q = absurd q
  one-write a statuses.ReadFault p q = absurd q
  one-write a statuses.WriteFault p q = absurd q
  one-write a statuses.DiskFault p q = absurd q
  one-write statuses.Usage b p q = absurd p
  one-write (statuses.Script fault) b p q = absurd p
  one-write (statuses.Truncated n) b p q = absurd p
  one-write (statuses.NotStore part offset) b p q = absurd p
  one-write statuses.Exists b p q = absurd p
  one-write statuses.NoTask b p q = absurd p
  one-write statuses.TooManyTasks b p q = absurd p
  one-write statuses.NoMemory b p q = absurd p
  one-write statuses.ReadFault b p q = absurd p
  one-write statuses.WriteFault b p q = absurd p
  one-write statuses.DiskFault b p q = absurd p

  -- a write answers it
  module _ (before after : ℕ) (t : Option (List ℕ)) where
    of-lines : (result : Status) → RoseAt before after result → ReadsLines db rp mode (Some body) t result → WritesTo db rp mode body result ⊎ (HasFailed result ⊎ IsToldRefused before after result)
    of-lines statuses.Ok rose reads = inl reads
    of-lines statuses.Usage rose reads = absurd reads
    of-lines (statuses.Script fault) rose reads = absurd reads
    of-lines (statuses.Line n fault) rose reads = inl reads
    of-lines (statuses.Truncated n) rose reads = absurd reads
    of-lines (statuses.NotStore part offset) rose reads = inr (inr (rose part offset refl))
    of-lines statuses.Exists rose reads = absurd reads
    of-lines statuses.NoTask rose reads = absurd reads
    of-lines statuses.TooManyTasks rose reads = absurd reads
    of-lines statuses.TooLong rose reads = inl reads
    of-lines statuses.NoMemory rose reads = inr (inl (inl refl))
    of-lines statuses.ReadFault rose reads = inr (inl (inr (inl refl)))
    of-lines statuses.WriteFault rose reads = inr (inl (inr (inr (inl refl))))
    of-lines statuses.DiskFault rose reads = inr (inl (inr (inr (inr refl))))

    pub write_answers : (result status : Status) (s : Option (List ℕ)) → s ≡ Some body → RoseAt before after result → ReadsLines db rp mode s t result → WritesTo db rp mode body status → IsUnlessStopped before after result status
    write_answers result status s is rose reads to = by (of-lines result rose (subst (λ (o : Option (List ℕ)). ReadsLines db rp mode o t result) is reads))
      where
        by : WritesTo db rp mode body result ⊎ (HasFailed result ⊎ IsToldRefused before after result) → IsUnlessStopped before after result status
        by (inl due) = inl (one-write result status due to)
        by (inr stopped) = inr stopped

-- in a right store a place is told only where a pattern was refused
module _ {N P S D : Type 0} (g : Ghosts N P S) (planned : Planned P) (seen : D → Image) (moment : D → ℕ) (may_leave : D → Image → Type 0) (left_since : D → ℕ → Image → Type 0) (db rp : List ℕ) (mode : Mode) (rs : List Rec)
    (good : IsGood g planned rs) (s w v : Option (List ℕ)) (before after : ℕ) (old new : D) (ran : Option (NetValue N)) (A B : Type 0) where
  pub write_rose : (result : Status) → (EndsReading result × A × B) ⊎ Writes g planned seen moment may_leave left_since db rp mode rs good s w v before after old new ran result → RoseAt before after result
  write_rose result (inl early) part offset e = absurd (subst EndsReading e early.0)
  write_rose result (inr d) part offset e =
      (subst (λ (r : Status). WrittenTo g planned rs good d.points before after (seen new) (may_leave new) w v ran r) e d.ends).0
