-- A store that holds what a right one does, and more, is right where its transitions and its last snapshot are.
use Rattle.std.proofs.Common.{◌≡◌, List, ◌++◌, sym, subst}
use Rattle.std.specs.List.{AllByRecursion as Each}
use Rattle.node_core.specs.declared.node.Node.{Ghosts}
use Rattle.node_set.specs.Tasks.{Planned}
use Rattle.store_records.specs.Histories.{held}
use Rattle.store_records.specs.declared.rec.Rec.{Rec}
use Rattle.store_records.specs.declared.task.Life.{Life}
use Rattle.store_records.specs.declared.task.StoredTask.{StoredTask}
use Rattle.topic_core.specs.declared.transition.Transition.{Transition}
use Rattle.topic_store.specs.Snapshots.{LastSnap}
use Rattle.engine_runs.specs.Scripts.{AreTasksOf, graphs_from}
use Rattle.engine_runs.specs.Whole.{IsSnapOf}
use Rattle.engine_store.specs.Asking.{IsScript}
use Rattle.engine_store.specs.Good.{IsGood, graphs_in}
use Rattle.engine_store.proofs.GoodLaws.{due_on}

module _ {N P S : Type 0} (g : Ghosts N P S) (planned : Planned P) where
  -- a store of the same tasks and lives is right
  abbrev pub good_like : (rs rs' : List Rec) (good : IsGood g planned rs) (others : List Transition) → (held rs').tasks ≡ (held rs).tasks → (held rs').lives ≡ (held rs).lives
      → due_on g planned (held rs').lives good.tasks (held rs').points ≡ (held rs').transitions ++ others
      → ((s : LastSnap rs') → IsSnapOf g (graphs_in g planned rs good.tasks) (held s.before) s.trans s.states) → IsGood g planned rs'
  good_like rs rs' good others tasks lives due snaps = record {
    scripts = record {
      of_tasks = subst (Each (λ (t : StoredTask). IsScript t.script)) (sym tasks) good.scripts.of_tasks;
      of_lives = subst (Each (λ (l : Life). IsScript l.script)) (sym lives) good.scripts.of_lives;
    };
    tasks = good.tasks;
    are = subst (λ (ls : List Life). AreTasksOf ls good.tasks) (sym lives) good.are;
    consistent = record {
      others = others;
      prefix = due;
      snap = λ s. subst (λ (ls : List Life). IsSnapOf g (graphs_from planned 1 ls good.tasks) (held s.before) s.trans s.states) (sym lives) (snaps s);
    };
  }
