-- What stands after a list of what a store holds.
use Rattle.std.proofs.Common.{◌≡◌, ◌⊎◌, ℕ, true, List, [], ◌∷◌, Option, None, Some, Err, inl, inr, refl, sym, ap, subst, ◌∙◌, arith}
use Rattle.std.specs.Prelude.{IsErrOf}
use Rattle.std.proofs.KnownBytes.{Appends-nil}
use Rattle.kap_base.specs.declared.items.Event.{Event}
use Rattle.kap_io.specs.Disk.{Image}
use Rattle.kap_io.specs.Moments.{Moments, Quiet, then_run}
use Rattle.kap_io.specs.Pieces.{AppendsPrefix}
use Rattle.kap_io.specs.declared.disk.Part.{Part}
use Rattle.lambda_types.specs.Faults.{Refusal}
use Rattle.node_core.specs.declared.node.Node.{Ghosts}
use Rattle.node_set.specs.Tasks.{Planned}
use Rattle.store_records.specs.Held.{Held}
use Rattle.store_records.specs.Histories.{held}
use Rattle.store_records.specs.declared.rec.Rec.{Rec}
use Rattle.store_records.specs.declared.task.Life.{Life}
use Rattle.tick_compile.specs.Scripts.{Accepts}
use Rattle.tick_compile.specs.declared.tasks.Task.{Task}
use Rattle.topic_core.specs.Topics.{StandsFor, TopicsValue, Trans, topics_after}
use Rattle.topic_core.specs.declared.transition.Transition.{Transition}
use Rattle.topic_store.specs.Stores.{IsNoStore}
use Rattle.topic_store.proofs.Adding.{image_stands}
use Rattle.topic_store.proofs.Apart.{no_store_apart, no_store_unique}
use Rattle.topic_store.proofs.Found.{seen_stands}
use Rattle.topic_store.proofs.Quietly.{on_quietly}
use Rattle.engine_runs.specs.Running.{life_events}
use Rattle.engine_runs.specs.Scripts.{AreTasksOf}
use Rattle.engine_runs.specs.Whole.{due_of}
use Rattle.kap_engine.specs.Engines.{EngineValue, IsEngineBehind}
use Rattle.engine_store.specs.Faults.{IsNoGood, IsOfOpening, no_lives, no_store}
use Rattle.engine_store.specs.Good.{IsGood, graphs_in, stays_or_good}
use Rattle.engine_store.proofs.GoodLaws.{due_same}
use Rattle.engine_store.specs.declared.fault.EngineFault.{EngineFault}
use Rattle.engine_store.specs.declared.fault.EngineFault.TheVariants as engines
use Rattle.store_lists.specs.Lists.{points_text, tasks_text, topics_text, transitions_text}
use Rattle.store_lists.specs.Writing.{Lists}
use Rattle.store_lists.specs.declared.fault.ListFault.{ListFault}
use Rattle.store_lists.specs.declared.fault.ListFault.TheVariants as lists
use Rattle.kap_server.specs.declared.status.Status.{Status}
use Rattle.kap_server.specs.declared.status.Status.TheVariants as statuses
use Rattle.kap_server.specs.declared.words.Listing.{Listing}
use Rattle.kap_server.specs.declared.words.Listing.TheVariants.{Tasks, Topics, Alerts, Export}
use Rattle.kap_server.specs.Command.{AsksForTooMany, IsUnlessDiskFailed}
use Rattle.kap_server.specs.Listing.{AreAsked, AreOthers, IsOfList, LeavesFull, Opens, Shows, all_transitions, held_whole, list_text}
use Rattle.kap_server.specs.Statuses.{status_of_engine, status_of_list}
use Rattle.kap_server.specs.Readying.{is_pattern_refused}
use Rattle.kap_server.specs.Words.{Request, Show, request_in}
use Rattle.kap_server.proofs.RunLaws.{keeps_same}

none-written : (w : Option (List ℕ)) (text : List ℕ) → AppendsPrefix w w text
none-written w text = (0, omega arith, Appends-nil w)

-- ---- what is listed

-- lives have the tasks of their scripts, and no others
pub tasks_same : (one : (refused : Option Refusal) (text : List ℕ) (a b : Task) → Accepts refused text a → Accepts refused text b → a ≡ b) (lives : List Life) (xs bs : List Task) → AreTasksOf lives xs → AreTasksOf lives bs → xs ≡ bs
tasks_same one [] [] [] a b = refl
tasks_same one [] [] (t ∷ bs) a b = absurd b
tasks_same one [] (t ∷ xs) bs a b = absurd a
tasks_same one (l ∷ lives) [] bs a b = absurd a
tasks_same one (l ∷ lives) (t ∷ xs) [] a b = absurd b
tasks_same one (l ∷ lives) (t ∷ xs) (u ∷ bs) a b =
    ap (λ (x : Task). x ∷ xs) (one None l.script t u a.0 b.0) ∙ ap (λ (l : List Task). u ∷ l) (tasks_same one lives xs bs a.1 b.1)

-- the list is that of a store that holds as much
list-same : (listing : Listing) (a b : Held) → a.tasks ≡ b.tasks → a.points ≡ b.points → a.transitions ≡ b.transitions → list_text listing a ≡ list_text listing b
list-same Tasks a b tasks points transitions = ap tasks_text tasks
list-same Topics a b tasks points transitions = ap (λ (ts : List Transition). topics_text (topics_after ts).levels) transitions
list-same Alerts a b tasks points transitions = ap transitions_text transitions
list-same Export a b tasks points transitions = ap points_text points

module _ {N P S : Type 0} (g : Ghosts N P S) (planned : Planned P) (one : (refused : Option Refusal) (text : List ℕ) (a b : Task) → Accepts refused text a → Accepts refused text b → a ≡ b)
    (rs : List Rec) (good : IsGood g planned rs) (seen : Image) (images : Image → Type 0) (engine : EngineValue N) (made : IsEngineBehind g planned rs seen images engine) where
  -- the engine's store holds all transitions that are due
  all-there : all_transitions g planned rs good ≡ (held made.records).transitions
  all-there =
      let new = made.engine.full.good in
      let same : good.tasks ≡ new.tasks = tasks_same one (held rs).lives good.tasks new.tasks good.are (subst (λ (ls : List Life). AreTasksOf ls new.tasks) made.added.lives new.are) in
      ap (λ (ts : List Task). due_of g.answer (graphs_in g planned rs ts) (held rs)) same
      ∙ sym (due_same g planned rs made.records made.more new.tasks made.added)
      ∙ made.engine.full.all

  -- so its list is that of the right store, with all of them
  pub list_whole : (listing : Listing) → list_text listing (held_whole g planned rs good) ≡ list_text listing (held made.records)
  list_whole listing = list-same listing (held_whole g planned rs good) (held made.records) (sym made.added.tasks) (sym made.added.points) all-there

  -- the topics are those of its transitions
  pub topics_whole : (kept : (events : List Event) (topics : TopicsValue) → StandsFor events topics → topics ≡ topics_after (Trans events)) → engine.run.topics ≡ topics_after (held made.records).transitions
  topics_whole kept =
      kept (life_events g planned (held made.records).lives made.engine.full.good.tasks (held made.records).points) engine.run.topics made.engine.runs.topics
      ∙ ap topics_after made.engine.full.all

  -- and it is left on the disk, and in each image
  pub leaves_full : LeavesFull g planned rs seen images
  leaves_full = record {
    records = made.records;
    more = made.more;
    added = made.added;
    full = made.engine.full;
    reads = seen_stands seen images made.records engine.store made.engine.on;
    leaves = image_stands made.records seen images engine.store made.engine.on;
  }

-- the same behind calls that change nothing
pub behind_quietly : {N P S D : Type 0} (g : Ghosts N P S) (planned : Planned P) (rs : List Rec) (engine : EngineValue N) (seen : D → Image) (moment : D → ℕ) (may_leave : D → Image → Type 0) (left_since : D → ℕ → Image → Type 0) (old new : D)
    → Quiet seen moment may_leave left_since old new → IsEngineBehind g planned rs (seen old) (may_leave old) engine → IsEngineBehind g planned rs (seen new) (may_leave new) engine
behind_quietly g planned rs engine seen moment may_leave left_since old new quiet made = record {
  records = made.records;
  more = made.more;
  added = made.added;
  engine = record {
    on = on_quietly seen moment may_leave left_since old new made.records engine.store quiet made.engine.on;
    full = made.engine.full;
    runs = made.engine.runs;
    numbered = made.engine.numbered;
  };
}

-- images of before, or of right stores, stay so
pub good_then_quiet : {N P S D : Type 0} (g : Ghosts N P S) (planned : Planned P) (rs : List Rec) (seen : D → Image) (moment : D → ℕ) (may_leave : D → Image → Type 0) (left_since : D → ℕ → Image → Type 0) (old mid new : D)
    → Moments moment may_leave left_since old mid (stays_or_good g planned rs) → Quiet seen moment may_leave left_since mid new → Moments moment may_leave left_since old new (stays_or_good g planned rs)
good_then_quiet g planned rs seen moment may_leave left_since old mid new good quiet =
    then_run moment may_leave left_since old mid new _ _ _ good quiet.moments
    (λ a b was how. how)
    (λ a b c was how left same. subst (stays_or_good g planned rs a) (sym same) how)

-- ---- by the status

-- the list has a fault
pub shows_fault : (fault : ListFault) (text : List ℕ) (w v : Option (List ℕ)) → Lists {T = Unit {0}} (Err fault) text w v → Shows text (status_of_list fault) w v
shows_fault (lists.NotStore part offset) text w v h = absurd h
shows_fault lists.DiskFault text w v h = h
shows_fault lists.WriteFault text w v h = h
shows_fault lists.NoMemory text w v h = h

-- An opening that fails has one of three statuses: what holds of each of them holds of its own.
pub of_opening : {T : Type 0} (Q : Status → Type 0) (fault : EngineFault) → IsOfOpening fault
    → ((part : Part) (offset : ℕ) → IsErrOf {T = T} (Err fault) (engines.NotStore part offset) → Q (statuses.NotStore part offset)) → Q statuses.DiskFault → Q statuses.NoMemory → Q (status_of_engine fault)
of_opening Q (engines.Script fault) may place failed full = absurd may
of_opening Q engines.NoTask may place failed full = absurd may
of_opening Q engines.Exists may place failed full = absurd may
of_opening Q engines.TooManyTasks may place failed full = absurd may
of_opening Q (engines.NotStore part offset) may place failed full = place part offset refl
of_opening Q engines.DiskFault may place failed full = failed
of_opening Q engines.NoMemory may place failed full = full

-- the store wasn't opened
pub shows_none : (fault : EngineFault) (text : List ℕ) (w : Option (List ℕ)) → IsOfOpening fault → Shows text (status_of_engine fault) w w
shows_none fault text w may = of_opening {T = Unit {0}} (λ (s : Status). Shows text s w w) fault may (λ part offset is. keeps_same w) (none-written w text) (none-written w text)

-- a list that was written tells no place
pub no_place : (fault : ListFault) (part : Part) (offset : ℕ) (text : List ℕ) (w v : Option (List ℕ)) → Lists {T = Unit {0}} (Err fault) text w v → status_of_list fault ≡ statuses.NotStore part offset → ⊥
no_place (lists.NotStore there at) part offset text w v h e = h
no_place lists.DiskFault part offset text w v h e = absurd cc
no_place lists.WriteFault part offset text w v h e = absurd cc
no_place lists.NoMemory part offset text w v h e = absurd cc

-- why it wasn't
pub opens_none : {N P S T : Type 0} (g : Ghosts N P S) (planned : Planned P) (before after : ℕ) (refused : List ℕ) (files : Image) (fault : EngineFault) → IsOfOpening fault
    → ((part : Part) (offset : ℕ) → IsErrOf {T = T} (Err fault) (engines.NotStore part offset) → IsNoGood g planned before after refused files part offset) → Opens g planned before after refused files (status_of_engine fault)
opens_none g planned before after refused files fault may why = of_opening (Opens g planned before after refused files) fault may (λ part offset is. inl (why part offset is)) tt tt

-- it was, and the list has a fault
pub opens_asked : {N P S : Type 0} (g : Ghosts N P S) (planned : Planned P) (before after : ℕ) (refused : List ℕ) (files : Image) (fault : ListFault) (asked : AreAsked g planned files)
    → (IsGood g planned asked.records → (text : List ℕ) × (w : Option (List ℕ)) × (v : Option (List ℕ)) × Lists {T = Unit {0}} (Err fault) text w v) → Opens g planned before after refused files (status_of_list fault)
opens_asked g planned before after refused files (lists.NotStore part offset) asked listed = inr (record { asked = asked; wrong = λ good. (listed good).3 })
opens_asked g planned before after refused files lists.DiskFault asked listed = tt
opens_asked g planned before after refused files lists.WriteFault asked listed = asked
opens_asked g planned before after refused files lists.NoMemory asked listed = tt

-- where its status tells a place, it isn't right
pub others_listed : {N P S : Type 0} (g : Ghosts N P S) (planned : Planned P) (files : Image) (fault : ListFault) (asked : AreAsked g planned files) (part : Part) (offset : ℕ)
    → (IsGood g planned asked.records → (text : List ℕ) × (w : Option (List ℕ)) × (v : Option (List ℕ)) × Lists {T = Unit {0}} (Err fault) text w v) → status_of_list fault ≡ statuses.NotStore part offset → AreOthers g planned files
others_listed g planned files fault asked part offset listed e = record { asked = asked; wrong = λ good. let l = listed good in no_place fault part offset l.0 l.1 l.2 l.3 e }

-- the place that a status tells is that of the opening's fault
pub place_of_opening : {T : Type 0} (fault : EngineFault) (part : Part) (offset : ℕ) → IsOfOpening fault → status_of_engine fault ≡ statuses.NotStore part offset → IsErrOf {T = T} (Err fault) (engines.NotStore part offset)
place_of_opening (engines.Script fault) part offset may e = absurd may
place_of_opening engines.NoTask part offset may e = absurd may
place_of_opening engines.Exists part offset may e = absurd may
place_of_opening engines.TooManyTasks part offset may e = absurd may
place_of_opening (engines.NotStore there at) part offset may e = cc
place_of_opening engines.DiskFault part offset may e = absurd cc
place_of_opening engines.NoMemory part offset may e = absurd cc

-- where the files stand for no store, the place is told
pub tells_place : {N P S : Type 0} (g : Ghosts N P S) (planned : Planned P) (before after : ℕ) (refused : List ℕ) (files : Image) (part : Part) (offset : ℕ) (result : Status)
    → IsNoStore files part offset → Opens g planned before after refused files result → IsUnlessDiskFailed result (statuses.NotStore part offset)
tells_place g planned before after refused files part offset statuses.Ok none h = absurd (no_store_apart files part offset h.records none h.stands)
tells_place g planned before after refused files part offset statuses.Usage none h = absurd h
tells_place g planned before after refused files part offset (statuses.Script fault) none h = absurd h
tells_place g planned before after refused files part offset (statuses.Line n fault) none h = absurd h
tells_place g planned before after refused files part offset (statuses.Truncated n) none h = absurd h
tells_place g planned before after refused files part offset (statuses.NotStore there place) none h = by h
  where
    by : IsNoGood g planned before after refused files there place ⊎ AreOthers g planned files → IsUnlessDiskFailed (statuses.NotStore there place) (statuses.NotStore part offset)
    by (inl (no_store one)) =
        let same = no_store_unique files there part place offset one none in
        inl (ap (λ (p : Part). statuses.NotStore p place) same.0 ∙ ap (λ (n : ℕ). statuses.NotStore part n) same.1)
    by (inl (no_lives rs stands named why)) = absurd (no_store_apart files part offset rs none stands)
    by (inr others) = absurd (no_store_apart files part offset others.asked.records none others.asked.stands)
tells_place g planned before after refused files part offset statuses.Exists none h = absurd h
tells_place g planned before after refused files part offset statuses.NoTask none h = absurd h
tells_place g planned before after refused files part offset statuses.TooManyTasks none h = absurd h
tells_place g planned before after refused files part offset statuses.TooLong none h = absurd h
tells_place g planned before after refused files part offset statuses.NoMemory none h = inr (inl refl)
tells_place g planned before after refused files part offset statuses.ReadFault none h = absurd h
tells_place g planned before after refused files part offset statuses.WriteFault none h = absurd (no_store_apart files part offset h.records none h.stands)
tells_place g planned before after refused files part offset statuses.DiskFault none h = inr (inr refl)

-- the listing is the one that is asked for
pub same_listing : (a b : Listing) → Some (Show a) ≡ Some (Show b) → a ≡ b
same_listing a b e = cc

-- and so is what is written
pub shows_asked : {N P S : Type 0} (g : Ghosts N P S) (planned : Planned P) (rs : List Rec) (good : IsGood g planned rs) (a b : Listing) (result : Status) (w v : Option (List ℕ)) → Some (Show a) ≡ Some (Show b)
    → Shows (list_text a (held_whole g planned rs good)) result w v → Shows (list_text b (held_whole g planned rs good)) result w v
shows_asked g planned rs good a b result w v same h = subst (λ (l : Listing). Shows (list_text l (held_whole g planned rs good)) result w v) (same_listing a b same) h

-- ---- how it ends, on any disk

pub engine_ends : (fault : EngineFault) → IsOfOpening fault → IsOfList (status_of_engine fault)
engine_ends fault may = of_opening {T = Unit {0}} IsOfList fault may (λ part offset is. tt) tt tt

pub list_ends : (fault : ListFault) → IsOfList (status_of_list fault)
list_ends (lists.NotStore part offset) = tt
list_ends lists.DiskFault = tt
list_ends lists.WriteFault = tt
list_ends lists.NoMemory = tt

pub never : (s status : Status) → IsOfList s → (IsOfList status → ⊥) → s ≡ status → ⊥
never s status ends not e = not (subst IsOfList e ends)

pub no_pattern : (s : Status) → IsOfList s → is_pattern_refused s ≡ true → ⊥
no_pattern statuses.Ok ends e = absurd cc
no_pattern statuses.Usage ends e = ends
no_pattern (statuses.Script fault) ends e = ends
no_pattern (statuses.Line n fault) ends e = ends
no_pattern (statuses.Truncated n) ends e = ends
no_pattern (statuses.NotStore part offset) ends e = absurd cc
no_pattern statuses.Exists ends e = ends
no_pattern statuses.NoTask ends e = ends
no_pattern statuses.TooManyTasks ends e = ends
no_pattern statuses.TooLong ends e = ends
no_pattern statuses.NoMemory ends e = absurd cc
no_pattern statuses.ReadFault ends e = ends
no_pattern statuses.WriteFault ends e = absurd cc
no_pattern statuses.DiskFault ends e = absurd cc

pub show_not_none : (listing : Listing) → ◌≡◌ {A = Option Request} (Some (Show listing)) None → ⊥
show_not_none listing e = absurd cc

pub show_not_many : (listing : Listing) (words : List (List ℕ)) → Some (Show listing) ≡ request_in words → AsksForTooMany words → ⊥
show_not_many listing words is (inl asks) = let e = is ∙ asks.asks in absurd cc
show_not_many listing words is (inr asks) = let e = is ∙ asks.asks in absurd cc
