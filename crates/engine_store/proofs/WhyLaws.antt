-- Why the lives of a store don't run.
use Rattle.std.proofs.Common.{◌≡◌, inl, inr, ℕ, ◌<◌, Bool, true, false, ◌-◌, if◌then◌else◌, List, [], ◌∷◌, ◌++◌, map, None, Option, refl, sym, ap, subst, ◌∙◌, arith}
use Rattle.std.specs.List.{AllZip, list_any}
use Rattle.kap_base.specs.Points.{PointValue}
use Rattle.kap_base.specs.Words.{HasRisen}
use Rattle.barrier_snapshot.specs.Captures.{IsCapture}
use Rattle.barrier_snapshot.specs.Snapshots.{IsSnapshot, specs_all, states_all}
use Rattle.lambda_types.specs.Faults.{Refusal}
use Rattle.life_effects.specs.Effects.{open_courses, seen_by}
use Rattle.node_core.specs.declared.node.Node.{Ghosts}
use Rattle.node_set.specs.Tasks.{Planned}
use Rattle.store_records.specs.Held.{is_open, open_from}
use Rattle.store_records.specs.Histories.{end_of, held}
use Rattle.store_records.specs.declared.rec.Rec.{Rec}
use Rattle.store_records.specs.declared.task.Life.{Life}
use Rattle.store_records.specs.declared.task.StoredTask.{StoredTask}
use Rattle.task_run.specs.Active.{Active, placed}
use Rattle.task_run.specs.Courses.{Course, IsWhere}
use Rattle.task_run.specs.Graphs.{Placed}
use Rattle.tick_compile.specs.Scripts.{Accepts, Refuses}
use Rattle.tick_compile.specs.Tasks.{is_refusal, refusal_in}
use Rattle.tick_compile.specs.declared.script_fault.ScriptFault.{ScriptFault}
use Rattle.tick_compile.specs.declared.tasks.Task.{Task}
use Rattle.topic_store.specs.Snapshots.{LastSnap, is_snap}
use Rattle.engine_runs.specs.Faults.{IsRefused, IsRefusedOne}
use Rattle.engine_runs.specs.Scripts.{AreTasksOf, graphs_from, node_specs}
use Rattle.engine_runs.specs.Spans.{numbers_from, picked}
use Rattle.engine_store.specs.Asking.{AreScripts, IsDefinedAt, IsFirstRefused, IsScript}
use Rattle.engine_store.specs.Faults.{HasOtherStates, HasStates, IsWhyNone}
use Rattle.engine_store.specs.Good.{IsGood, graphs_in}
use Rattle.engine_store.proofs.OpenLaws.{open_numbers}
use Rattle.engine_store.proofs.PassLaws.{each_contains, each_to}

-- ---- scripts

plain : (fault : ScriptFault) (text : List ℕ) → is_refusal fault ≡ false → refusal_in fault text ≡ None
plain fault text e = grind arith

module _ (before after : ℕ) (refused : List ℕ) where
  -- a script of a task is refused only for a pattern, and then the count rose
  pub refused_rose : (text : List ℕ) (apart : (refused : Option Refusal) (text : List ℕ) (task : Task) (fault : ScriptFault) → Accepts refused text task → Refuses refused text fault → ⊥)
      → IsScript text → IsRefused before after refused text → HasRisen before after
  refused_rose text apart s r = by-kind (is_refusal r.fault) refl
    where
      by-kind : (b : Bool) → is_refusal r.fault ≡ b → HasRisen before after
      by-kind true e = r.rose e
      by-kind false e = absurd (apart None text s.0 r.fault s.1 (subst (λ (o : Option Refusal). Refuses o text r.fault) (plain r.fault refused e) r.why))

  -- where all scripts are those of tasks, one that was refused is the first
  pub first_of_one : (tasks : List StoredTask) (lives : List Life) (at : ℕ) → AreScripts tasks lives → IsRefusedOne before after refused lives at → IsFirstRefused before after refused tasks lives at
  first_of_one tasks lives at all one = record {
    text = one.life.script;
    there = inr (one.life, one.among, sym one.place, refl);
    why = one.why;
    tasks_before = each_to (λ (t : StoredTask). IsScript t.script) (λ (t : StoredTask). t.define_at < at → IsScript t.script) tasks (λ t s lt. s) all.of_tasks;
    lives_before = each_to (λ (l : Life). IsScript l.script) (λ (l : Life). l.define_at < at → IsScript l.script) lives (λ l s lt. s) all.of_lives;
  }

defined-script : (tasks : List StoredTask) (lives : List Life) (at : ℕ) (text : List ℕ) → AreScripts tasks lives → IsDefinedAt tasks lives at text → IsScript text
defined-script tasks lives at text all (inl t) = subst IsScript t.3 (each_contains (λ (t : StoredTask). IsScript t.script) tasks t.0 t.1 all.of_tasks)
defined-script tasks lives at text all (inr l) = subst IsScript l.3 (each_contains (λ (l : Life). IsScript l.script) lives l.0 l.1 all.of_lives)

-- scripts that were asked are those of what the store holds
pub scripts_held : (tasks others : List StoredTask) (lives more : List Life) → tasks ≡ others → lives ≡ more → AreScripts tasks lives → AreScripts others more
scripts_held tasks others lives more a b all = subst (λ (ts : List StoredTask). AreScripts ts more) a (subst (λ (ls : List Life). AreScripts tasks ls) b all)

-- ---- states

module _ {P S : Type 0} where
  specs-placed : (xs : List (Active P S)) → map (λ a. a.spec) xs ≡ map (λ d. d.spec) (map placed xs)
  specs-placed [] = refl
  specs-placed (x ∷ xs) = ap (λ (l : List P). x.spec ∷ l) (specs-placed xs)

module _ {P : Type 0} where
  nodes-open : (lives : List Life) (graphs : List (List (Placed P))) (points : List PointValue) → map (λ (c : Course P). c.nodes) (open_courses lives graphs points) ≡ picked (map is_open lives) graphs
  nodes-open [] graphs points = refl
  nodes-open (life ∷ lives) [] points = refl
  nodes-open (life ∷ lives) (nodes ∷ graphs) points = by-open (is_open life) (nodes-open lives graphs points)
    where
      by-open : (b : Bool) → map (λ (c : Course P). c.nodes) (open_courses lives graphs points) ≡ picked (map is_open lives) graphs
          → map (λ (c : Course P). c.nodes) (if b then record { nodes = nodes; base = life.first - 1; points = seen_by life points } ∷ open_courses lives graphs points else open_courses lives graphs points)
          ≡ (if b then nodes ∷ picked (map is_open lives) graphs else picked (map is_open lives) graphs)
      by-open true e = ap (λ (l : List (List (Placed P))). nodes ∷ l) e
      by-open false e = e

module _ {N P S : Type 0} (g : Ghosts N P S) where
  specs-at : (courses : List (Course P)) (acts : List (List (Active P S))) → AllZip (IsWhere g.answer g.first g.step) courses acts → specs_all acts ≡ node_specs (map (λ (c : Course P). c.nodes) courses)
  specs-at [] [] are = refl
  specs-at [] (a ∷ acts) are = absurd are
  specs-at (c ∷ courses) [] are = absurd are
  specs-at (c ∷ courses) (a ∷ acts) are =
      ap (λ (l : List P). l ++ specs_all acts) (specs-placed a ∙ ap (map (λ d. d.spec)) are.0.nodes)
      ∙ ap (λ (l : List P). map (λ d. d.spec) c.nodes ++ l) (specs-at courses acts are.1)

  -- a snapshot has states of the nodes
  snapshot-fits : (courses : List (Course P)) (bytes : List ℕ) (s : IsSnapshot g courses bytes) → IsCapture g.fits g.spell (node_specs (map (λ (c : Course P). c.nodes) courses)) (states_all s.acts) bytes
  snapshot-fits courses bytes s = subst (λ (ps : List P). IsCapture g.fits g.spell ps (states_all s.acts) bytes) (specs-at courses s.acts s.are) s.capture

  module _ (planned : Planned P) where
    -- there is no snapshot
    pub none_there : (rs : List Rec) → list_any is_snap rs ≡ false → HasStates g planned rs
    none_there rs none = inl none

    -- the states of the last snapshot are those of the lives that were open there
    pub fits_of : (rs : List Rec) (s : LastSnap rs) (lives : List Life) (numbers states : List ℕ) → lives ≡ (held rs).lives → numbers ≡ open_from 1 (held s.before).lives → states ≡ s.states
        → ((tasks : List Task) (open_there : List Bool) → AreTasksOf lives tasks → numbers ≡ picked open_there (numbers_from 1 lives)
        → (holds : List S) × IsCapture g.fits g.spell (node_specs (picked open_there (graphs_from planned 1 lives tasks))) holds states)
        → HasStates g planned rs
    fits_of rs s lives numbers states same numbers_are states_are fits = inr (
      s,
      λ tasks are.
          let open_there = map is_open (held s.before).lives in
          let there : numbers ≡ picked open_there (numbers_from 1 lives) = numbers_are ∙ sym (open_numbers rs s) ∙ ap (λ (ls : List Life). picked open_there (numbers_from 1 ls)) (sym same) in
          let got = fits tasks open_there (subst (λ (ls : List Life). AreTasksOf ls tasks) (sym same) are) there in (
            got.0,
            subst (λ (b : List ℕ). IsCapture g.fits g.spell (node_specs (picked open_there (graphs_from planned 1 (held rs).lives tasks))) got.0 b) states_are
                (subst (λ (ls : List Life). IsCapture g.fits g.spell (node_specs (picked open_there (graphs_from planned 1 ls tasks))) got.0 states) same got.1),
          ),
    )

    -- or they are none of these
    pub others_of : (rs : List Rec) (s : LastSnap rs) (lives : List Life) (numbers states : List ℕ) (gate : ℕ) → lives ≡ (held rs).lives → numbers ≡ open_from 1 (held s.before).lives → states ≡ s.states → gate ≡ end_of s.before
        → AreScripts (held rs).tasks (held rs).lives
        → ((tasks : List Task) (open_there : List Bool) (holds : List S) → AreTasksOf lives tasks → numbers ≡ picked open_there (numbers_from 1 lives)
        → IsCapture g.fits g.spell (node_specs (picked open_there (graphs_from planned 1 lives tasks))) holds states → ⊥)
        → HasOtherStates g planned rs gate
    others_of rs s lives numbers states gate same numbers_are states_are at all others = record {
      scripts = all;
      snap = s;
      at = at;
      none = λ tasks holds are capture.
          let open_there = map is_open (held s.before).lives in
          let there : numbers ≡ picked open_there (numbers_from 1 lives) = numbers_are ∙ sym (open_numbers rs s) ∙ ap (λ (ls : List Life). picked open_there (numbers_from 1 ls)) (sym same) in
          others tasks open_there holds (subst (λ (ls : List Life). AreTasksOf ls tasks) (sym same) are) there
          (subst (λ (ls : List Life). IsCapture g.fits g.spell (node_specs (picked open_there (graphs_from planned 1 ls tasks))) holds states) (sym same)
          (subst (λ (b : List ℕ). IsCapture g.fits g.spell (node_specs (picked open_there (graphs_from planned 1 (held rs).lives tasks))) holds b) (sym states_are) capture));
    }

    module _ (before after : ℕ) (refused : List ℕ) where
      -- the lives of a right store don't run only for a pattern that was refused
      pub good_rose : (rs : List Rec) (offset : ℕ) (apart : (refused : Option Refusal) (text : List ℕ) (task : Task) (fault : ScriptFault) → Accepts refused text task → Refuses refused text fault → ⊥)
          → IsGood g planned rs → IsWhyNone g planned before after refused rs offset → HasRisen before after
      good_rose rs offset apart good (inl w) =
          refused_rose before after refused w.text apart (defined-script (held rs).tasks (held rs).lives offset w.text good.scripts w.there) w.why
      good_rose rs offset apart good (inr o) =
          let s = (good.consistent.snap o.snap).states_are in
          let graphs = graphs_in g planned rs good.tasks in
          let courses = open_courses (held o.snap.before).lives graphs (held o.snap.before).points in
          absurd (o.none good.tasks (states_all s.acts) good.are
          (subst (λ (ns : List (List (Placed P))). IsCapture g.fits g.spell (node_specs ns) (states_all s.acts) o.snap.states) (nodes-open (held o.snap.before).lives graphs (held o.snap.before).points)
          (snapshot-fits courses o.snap.states s)))
