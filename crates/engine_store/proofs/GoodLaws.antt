-- A right store stays right where transitions are added that are due.
use Rattle.std.proofs.Common.{◌≡◌, List, [], ◌++◌, sym, ap, subst, ◌∙◌, append-nil, append_assoc}
use Rattle.std.specs.List.{AllByRecursion as Each}
use Rattle.kap_base.specs.Points.{PointValue}
use Rattle.kap_io.specs.Disk.{Image}
use Rattle.node_core.specs.declared.node.Node.{Ghosts}
use Rattle.node_set.specs.Tasks.{Planned}
use Rattle.store_records.specs.Histories.{held}
use Rattle.store_records.specs.declared.rec.Rec.{Rec}
use Rattle.store_records.specs.declared.task.Life.{Life}
use Rattle.store_records.specs.declared.task.StoredTask.{StoredTask}
use Rattle.tick_compile.specs.declared.tasks.Task.{Task}
use Rattle.topic_core.specs.Topics.{Trans}
use Rattle.topic_core.specs.declared.transition.Transition.{Transition}
use Rattle.engine_runs.specs.Running.{HasRun, RunValue, life_events}
use Rattle.engine_runs.specs.Scripts.{AreTasksOf, graphs_from}
use Rattle.engine_runs.specs.Whole.{IsSnapOf}
use Rattle.engine_store.specs.Adding.{HasAdded, StandsWithSome}
use Rattle.engine_store.specs.Asking.{IsScript}
use Rattle.engine_store.specs.Good.{IsFull, IsGood, StandsGood}
use Rattle.engine_store.proofs.SnapLaws.{last_before, still_behind}

module _ {N P S : Type 0} (g : Ghosts N P S) (planned : Planned P) where
  -- the transitions that are due of a store's lives and points
  abbrev pub due_on : List Life → List Task → List PointValue → List Transition
  due_on lives tasks points = Trans (life_events g planned lives tasks points)

  pub due_same : (rs rs' : List Rec) (more : List Transition) (tasks : List Task) → HasAdded rs more rs' → due_on (held rs').lives tasks (held rs').points ≡ due_on (held rs).lives tasks (held rs).points
  due_same rs rs' more tasks a =
      ap (λ (ls : List Life). due_on ls tasks (held rs').points) a.lives
      ∙ ap (λ (ps : List PointValue). due_on (held rs).lives tasks ps) a.points

  abbrev pub good_added : (rs rs' : List Rec) (more others : List Transition) (good : IsGood g planned rs) → HasAdded rs more rs' → due_on (held rs).lives good.tasks (held rs).points ≡ (held rs).transitions ++ (more ++ others) → IsGood g planned rs'
  good_added rs rs' more others good a due = record {
    scripts = record {
      of_tasks = subst (Each (λ (t : StoredTask). IsScript t.script)) (sym a.tasks) good.scripts.of_tasks;
      of_lives = subst (Each (λ (l : Life). IsScript l.script)) (sym a.lives) good.scripts.of_lives;
    };
    tasks = good.tasks;
    are = subst (λ (ls : List Life). AreTasksOf ls good.tasks) (sym a.lives) good.are;
    consistent = record {
      others = others;
      prefix =
          due_same rs rs' more good.tasks a
          ∙ due
          ∙ sym (append_assoc (held rs).transitions more others)
          ∙ ap (λ (l : List Transition). l ++ others) (sym a.transitions);
      snap = λ s.
          let b = still_behind rs rs' a.pieces a.records s in
          subst (λ (ls : List Life). IsSnapOf g (graphs_from planned 1 ls good.tasks) (held s.before) s.trans s.states) (sym a.lives)
          (good.consistent.snap (last_before rs s.before s.points s.trans s.states b));
    };
  }

  -- and full where these are all
  abbrev pub full_added : (rs rs' : List Rec) (more : List Transition) (good : IsGood g planned rs) → HasAdded rs more rs' → due_on (held rs).lives good.tasks (held rs).points ≡ (held rs).transitions ++ more → IsFull g planned rs'
  full_added rs rs' more good a due = record {
    good = good_added rs rs' more [] good a (due ∙ ap (λ (l : List Transition). (held rs).transitions ++ l) (sym (append-nil more)));
    all = due_same rs rs' more good.tasks a ∙ due ∙ sym a.transitions;
  }

  -- the lives have run on it as before
  pub runs_added : (rs rs' : List Rec) (more : List Transition) (tasks : List Task) (r : RunValue N) → HasAdded rs more rs'
      → HasRun g planned (held rs).lives tasks (held rs).points 1 r → HasRun g planned (held rs').lives tasks (held rs').points 1 r
  runs_added rs rs' more tasks r a h =
      subst (λ (ls : List Life). HasRun g planned ls tasks (held rs').points 1 r) (sym a.lives)
      (subst (λ (ps : List PointValue). HasRun g planned (held rs).lives tasks ps 1 r) (sym a.points) h)

  -- files that stand for it with some of the transitions stand for a right store
  pub some_good : (rs : List Rec) (due : List Transition) (files : Image) (good : IsGood g planned rs) → due_on (held rs).lives good.tasks (held rs).points ≡ (held rs).transitions ++ due
      → StandsWithSome rs due files → StandsGood g planned rs files
  some_good rs due files good is s = record {
    records = s.records;
    more = s.some;
    added = s.added;
    stands = s.stands;
    good = good_added rs s.records s.some s.others good s.added (is ∙ ap (λ (l : List Transition). (held rs).transitions ++ l) s.split);
  }
