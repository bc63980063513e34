-- A store that is right, and has all transitions, is so behind a record that changes a task.
use Rattle.std.proofs.Common.{◌≡◌, ℕ, ◌+◌, ◌≤◌, true, false, cond, List, [], ◌∷◌, ◌++◌, length, refl, sym, ap, subst, ◌∙◌, append-nil, arith}
use Rattle.std.specs.List.{AllByRecursion as Each, list_any}
use Rattle.kap_base.specs.Points.{PointValue}
use Rattle.kap_base.specs.declared.items.Effect.{Effect}
use Rattle.barrier_snapshot.specs.Snapshots.{IsSnapshot}
use Rattle.effect_text.specs.Lines.{events_of}
use Rattle.life_effects.specs.Effects.{course_of, courses_of, open_courses, stored_effects}
use Rattle.node_core.specs.Meaning.{Answer}
use Rattle.node_core.specs.declared.node.Node.{Ghosts}
use Rattle.node_set.specs.Tasks.{Planned, nodes_from}
use Rattle.store_kept.proofs.Keeping.{held_push}
use Rattle.store_records.specs.Held.{Held, begun, ended, is_open, points_in, transitions_in}
use Rattle.store_records.specs.Histories.{end_of, held}
use Rattle.store_records.specs.declared.rec.Rec.{Rec}
use Rattle.store_records.specs.declared.rec.Rec.TheVariants as kinds
use Rattle.store_records.specs.declared.task.Life.{Life}
use Rattle.task_run.specs.Courses.{Course, course_effects}
use Rattle.task_run.specs.Graphs.{Placed}
use Rattle.tick_compile.specs.declared.tasks.Task.{Task}
use Rattle.topic_core.specs.Topics.{Trans}
use Rattle.topic_core.specs.declared.transition.Transition.{Transition}
use Rattle.topic_store.specs.Snapshots.{LastSnap, is_snap}
use Rattle.engine_runs.specs.Later.{AreLater}
use Rattle.engine_runs.specs.Scripts.{AreTasksOf, IsTaskOf, graphs_from, life_nodes}
use Rattle.engine_runs.specs.Whole.{IsSnapOf, due_of}
use Rattle.engine_runs.proofs.HeldLaws.{held_later}
use Rattle.engine_runs.proofs.OpenLaws.{effects_later}
use Rattle.engine_store.specs.Asking.{AreScripts}
use Rattle.engine_store.specs.Good.{IsFull, graphs_in}
use Rattle.engine_store.proofs.SnapLaws.{last_before, last_kept}
use Rattle.kap_engine.specs.Changing.{ChangesTask, DefinesScript}
use Rattle.kap_engine.proofs.TaskLaws.{HasScript, LifeHasScript, are_for, begun_scripts, each_both, ended_scripts, ended_tasks, tasks_for, tasks_scripts, zip_both}

-- ---- what the record leaves

no-points : (r : Rec) → ChangesTask r → points_in r ≡ []
no-points (kinds.Define id script enabled) c = refl
no-points (kinds.Enable id) c = refl
no-points (kinds.Disable id) c = refl
no-points (kinds.Delete id) c = refl
no-points (kinds.Batch db rp points) c = absurd c
no-points (kinds.Trans ts) c = refl
no-points (kinds.Snap points trans states) c = refl

no-transitions : (r : Rec) → ChangesTask r → transitions_in r ≡ []
no-transitions (kinds.Define id script enabled) c = refl
no-transitions (kinds.Enable id) c = refl
no-transitions (kinds.Disable id) c = refl
no-transitions (kinds.Delete id) c = refl
no-transitions (kinds.Batch db rp points) c = refl
no-transitions (kinds.Trans ts) c = absurd c
no-transitions (kinds.Snap points trans states) c = refl

no-snap : (r : Rec) → ChangesTask r → list_any is_snap (r ∷ []) ≡ false
no-snap (kinds.Define id script enabled) c = refl
no-snap (kinds.Enable id) c = refl
no-snap (kinds.Disable id) c = refl
no-snap (kinds.Delete id) c = refl
no-snap (kinds.Batch db rp points) c = refl
no-snap (kinds.Trans ts) c = refl
no-snap (kinds.Snap points trans states) c = absurd c

pub same_points : (rs : List Rec) (r : Rec) → ChangesTask r → (held (rs ++ r ∷ [])).points ≡ (held rs).points
same_points rs r c =
    ap (λ (h : Held). h.points) (held_push rs r) ∙ ap (λ (ps : List PointValue). (held rs).points ++ ps) (no-points r c) ∙ append-nil (held rs).points

pub same_transitions : (rs : List Rec) (r : Rec) → ChangesTask r → (held (rs ++ r ∷ [])).transitions ≡ (held rs).transitions
same_transitions rs r c =
    ap (λ (h : Held). h.transitions) (held_push rs r) ∙ ap (λ (ts : List Transition). (held rs).transitions ++ ts) (no-transitions r c) ∙ append-nil (held rs).transitions

-- ---- lives seen later

pub later_long : (k : ℕ) (lives others : List Life) → AreLater k lives others → length lives ≤ length others
later_long k [] others later = omega arith
later_long k (life ∷ lives) [] later = absurd later
later_long k (life ∷ lives) (other ∷ others) later = let rest = later_long k lives others later.1 in omega (arith, rest)

module _ {P : Type 0} (planned : Planned P) where
  graphs-long : (n : ℕ) (lives : List Life) (tasks : List Task) → AreTasksOf lives tasks → length (graphs_from planned n lives tasks) ≡ length lives
  graphs-long n [] tasks are = refl
  graphs-long n (life ∷ lives) [] are = absurd are
  graphs-long n (life ∷ lives) (task ∷ tasks) are = let rest = graphs-long (n + 1) lives tasks are.1 in omega (arith, rest)

  -- the nodes of those that were there are the first
  graphs-front : (k n : ℕ) (lives others : List Life) (tasks more : List Task) → AreLater k lives others → AreTasksOf lives tasks
      → (rest : List (List (Placed P))) × (graphs_from planned n others (tasks ++ more) ≡ graphs_from planned n lives tasks ++ rest)
  graphs-front k n [] others [] more later are = (graphs_from planned n others more, refl)
  graphs-front k n [] others (task ∷ tasks) more later are = absurd are
  graphs-front k n (life ∷ lives) [] tasks more later are = absurd later
  graphs-front k n (life ∷ lives) (other ∷ others) [] more later are = absurd are
  graphs-front k n (life ∷ lives) (other ∷ others) (task ∷ tasks) more later are =
      let rest = graphs-front k (n + 1) lives others tasks more later.1 are.1 in (
        rest.0,
        ap (λ (id : List ℕ). nodes_from planned id n 0 task.graph ∷ graphs_from planned (n + 1) others (tasks ++ more)) later.0.task
            ∙ ap (λ (gs : List (List (Placed P))). life_nodes planned n life task ∷ gs) rest.1,
      )

module _ {P : Type 0} where
  -- further nodes are no life's
  courses-front : (lives : List Life) (graphs rest : List (List (Placed P))) (points : List PointValue) → length lives ≤ length graphs → courses_of lives (graphs ++ rest) points ≡ courses_of lives graphs points
  courses-front [] graphs rest points le = refl
  courses-front (life ∷ lives) [] rest points le = absurd (omega (arith, le))
  courses-front (life ∷ lives) (nodes ∷ graphs) rest points le =
      ap (λ (cs : List (Course P)). course_of life nodes points ∷ cs) (courses-front lives graphs rest points (omega (arith, le)))

  open-front : (lives : List Life) (graphs rest : List (List (Placed P))) (points : List PointValue) → length lives ≤ length graphs → open_courses lives (graphs ++ rest) points ≡ open_courses lives graphs points
  open-front [] graphs rest points le = refl
  open-front (life ∷ lives) [] rest points le = absurd (omega (arith, le))
  open-front (life ∷ lives) (nodes ∷ graphs) rest points le =
      let same : open_courses lives (graphs ++ rest) points ≡ open_courses lives graphs points = open-front lives graphs rest points (omega (arith, le)) in
      elim (is_open life) as (λ b. cond b (course_of life nodes points ∷ open_courses lives (graphs ++ rest) points) (open_courses lives (graphs ++ rest) points) ≡ cond b (course_of life nodes points ∷ open_courses lives graphs points) (open_courses lives graphs points)) [
        | true ↦ ap (λ (cs : List (Course P)). course_of life nodes points ∷ cs) same
        | false ↦ same
      ]

  module _ (answer : P → Answer) where
    due-front : (h : Held) (graphs rest : List (List (Placed P))) → length h.lives ≤ length graphs → due_of answer (graphs ++ rest) h ≡ due_of answer graphs h
    due-front h graphs rest le = ap (λ (cs : List (Course P)). Trans (events_of (course_effects answer (length h.points) cs))) (courses-front h.lives graphs rest h.points le)

module _ {N P S : Type 0} (g : Ghosts N P S) where
  -- a snapshot of fewer lives is one by the nodes of more
  snap-front : (h : Held) (trans : ℕ) (states : List ℕ) (graphs rest : List (List (Placed P))) → length h.lives ≤ length graphs → IsSnapOf g graphs h trans states → IsSnapOf g (graphs ++ rest) h trans states
  snap-front h trans states graphs rest le s = record {
    states_are = subst (λ (cs : List (Course P)). IsSnapshot g cs states) (sym (open-front h.lives graphs rest h.points le)) s.states_are;
    trans_are = s.trans_are ∙ ap (λ (ts : List Transition). length ts) (sym (due-front g.answer h graphs rest le));
  }

-- ---- one more record

module _ {N P S : Type 0} (g : Ghosts N P S) (planned : Planned P) (rs : List Rec) (r : Rec) (changes : ChangesTask r) (defines : DefinesScript r) (full : IsFull g planned rs) where
  abbrev pub before : Held
  before = held rs

  abbrev pub behind : Held
  behind = held (rs ++ r ∷ [])

  -- the lives that begin with it
  abbrev pub new_lives : List Life
  new_lives = begun (length before.points) (end_of rs) r before.tasks

  pub new_scripts : Each LifeHasScript new_lives
  new_scripts = begun_scripts (length before.points) (end_of rs) r before.tasks defines full.good.scripts.of_tasks

  -- and their tasks
  abbrev pub new_tasks : List Task
  new_tasks = tasks_for new_lives new_scripts

  -- the lives that there were
  abbrev pub old_lives : List Life
  old_lives = ended (length before.points) r before.tasks before.lives

  pub lives_are : behind.lives ≡ old_lives ++ new_lives
  lives_are = ap (λ (h : Held). h.lives) (held_push rs r)

  pub later : AreLater (length before.points) before.lives behind.lives
  later = held_later rs (r ∷ [])

  pub all_tasks : AreTasksOf behind.lives (full.good.tasks ++ new_tasks)
  all_tasks =
      subst (λ (ls : List Life). AreTasksOf ls (full.good.tasks ++ new_tasks)) (sym lives_are)
      (zip_both IsTaskOf old_lives full.good.tasks new_lives new_tasks (ended_tasks (length before.points) r before.tasks before.lives full.good.tasks full.good.are) (are_for new_lives new_scripts))

  pub all_scripts : AreScripts behind.tasks behind.lives
  all_scripts = record {
    of_tasks = subst (λ (h : Held). Each HasScript h.tasks) (sym (held_push rs r)) (tasks_scripts (end_of rs) r before.tasks defines full.good.scripts.of_tasks);
    of_lives =
        subst (Each LifeHasScript) (sym lives_are)
        (each_both LifeHasScript old_lives new_lives (ended_scripts (length before.points) r before.tasks before.lives full.good.scripts.of_lives) new_scripts);
  }

  abbrev pub graphs : List (List (Placed P))
  graphs = graphs_in g planned rs full.good.tasks

  pub front : (rest : List (List (Placed P))) × (graphs_in g planned (rs ++ r ∷ []) (full.good.tasks ++ new_tasks) ≡ graphs ++ rest)
  front = graphs-front planned (length before.points) 1 before.lives behind.lives full.good.tasks new_tasks later full.good.are

  long : length graphs ≡ length before.lives
  long = graphs-long planned 1 before.lives full.good.tasks full.good.are

  -- what is due is as before
  pub same_due : due_of g.answer (graphs_in g planned (rs ++ r ∷ []) (full.good.tasks ++ new_tasks)) behind ≡ due_of g.answer graphs before
  same_due =
      ap (λ (gs : List (List (Placed P))). due_of g.answer gs behind) front.1
      ∙ ap (λ (ps : List PointValue). Trans (events_of (stored_effects g.answer behind.lives (graphs ++ front.0) ps))) (same_points rs r changes)
      ∙ ap (λ (es : List Effect). Trans (events_of es)) (effects_later g.answer (length before.points) before.lives behind.lives (graphs ++ front.0) before.points refl later)
      ∙ due-front g.answer before graphs front.0 (omega (arith, long))

  pub same_snap : (s : LastSnap (rs ++ r ∷ [])) → IsSnapOf g (graphs_in g planned (rs ++ r ∷ []) (full.good.tasks ++ new_tasks)) (held s.before) s.trans s.states
  same_snap s =
      let b = last_kept rs (r ∷ []) (no-snap r changes) s in
      let fewer : length (held s.before).lives ≤ length before.lives =
      later_long (length (held s.before).points) (held s.before).lives before.lives
      (subst (λ (all : List Rec). AreLater (length (held s.before).points) (held s.before).lives (held all).lives) (sym b.split) (held_later s.before (kinds.Snap s.points s.trans s.states ∷ b.behind))) in
      subst (λ (gs : List (List (Placed P))). IsSnapOf g gs (held s.before) s.trans s.states) (sym front.1)
      (snap-front g (held s.before) s.trans s.states graphs front.0 (omega (arith, fewer, long)) (full.good.consistent.snap (last_before rs s.before s.points s.trans s.states b)))

  -- it has its scripts, its snapshot and all transitions as before
  abbrev pub full_behind : IsFull g planned (rs ++ r ∷ [])
  full_behind = record {
    good = record {
      scripts = all_scripts;
      tasks = full.good.tasks ++ new_tasks;
      are = all_tasks;
      consistent = record {
        others = full.good.consistent.others;
        prefix = same_due ∙ full.good.consistent.prefix ∙ ap (λ (ts : List Transition). ts ++ full.good.consistent.others) (sym (same_transitions rs r changes));
        snap = same_snap;
      };
    };
    all = same_due ∙ full.all ∙ sym (same_transitions rs r changes);
  }
