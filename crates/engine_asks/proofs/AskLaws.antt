-- What holds of an ask by the tasks that there are.
use Rattle.std.proofs.Common.{◌≡◌, ℕ, ℤ, Bool, true, List, Option, None, Some, refl, sym, ap, subst}
use Rattle.std.specs.Prelude.{◌&&◌, if◌then◌else◌, IfSome}
use Rattle.std.specs.List.{AllByRecursion as Each}
use Rattle.kap_io.specs.Disk.{Image}
use Rattle.kap_http.specs.AskValues.{DefineValue, TaskValue, WriteValue}
use Rattle.kap_http.specs.ReplyValues.{ReplyValue}
use Rattle.kap_http.specs.declared.ask.Ask.{Ask}
use Rattle.kap_http.specs.declared.ask.Ask.TheVariants as asks
use Rattle.node_core.specs.declared.node.Node.{Ghosts}
use Rattle.node_set.specs.Tasks.{Planned}
use Rattle.store_records.specs.Held.{task_of}
use Rattle.store_records.specs.declared.rec.Rec.{Rec}
use Rattle.store_records.specs.declared.task.StoredTask.{StoredTask}
use Rattle.topic_core.specs.Topics.{TopicsValue}
use Rattle.engine_store.specs.Asking.{IsScript}
use Rattle.kap_engine.specs.Changing.{CanBeDefined}
use Rattle.kap_engine.specs.Engines.{EngineValue, IsEngine}
use Rattle.kap_engine.proofs.RefusalLaws.{found_script}
use Rattle.reply_bodies.specs.Asks.{change_of, is_changing_act, is_done}
use Rattle.reply_bodies.specs.Bodies.{done_reply, given_reply}
use Rattle.reply_bodies.specs.Texts.{task_text}
use Rattle.engine_asks.specs.Replies.{HasScript, WouldChange, is_defined, points_asked, reply_to_act, reply_to_lines}

-- ---- scripts of tasks

script-found : (id : List ℕ) (tasks : List StoredTask) → Each (λ task. IsScript task.script) tasks → IfSome (task_of id tasks) (λ task. IsScript task.script)
script-found id tasks all = by (task_of id tasks) refl
  where
    by : (found : Option StoredTask) → task_of id tasks ≡ found → IfSome found (λ task. IsScript task.script)
    by None is = tt
    by (Some task) is = found_script id tasks task all is

-- where an engine stands over records, the script of each task is one
pub asked_script : {N P S : Type 0} (g : Ghosts N P S) (planned : Planned P) (rs : List Rec) (seen : Image) (images : Image → Type 0) (e : EngineValue N) (ask : Ask) → IsEngine g planned rs seen images e → HasScript e.store.kept.tasks ask
asked_script g planned rs seen images e asks.Ping at = tt
asked_script g planned rs seen images e (asks.Write w) at = tt
asked_script g planned rs seen images e asks.Tasks at = tt
asked_script g planned rs seen images e (asks.Define d) at = tt
asked_script g planned rs seen images e (asks.Task t) at =
    script-found t.id e.store.kept.tasks (subst (λ (ts : List StoredTask). Each (λ (task : StoredTask). IsScript task.script) ts) (sym at.on.kept.keeps.tasks) at.full.good.scripts.of_tasks)
asked_script g planned rs seen images e asks.Topics at = tt
asked_script g planned rs seen images e (asks.Topic t) at = tt

-- ---- a change that would be done

one-change : (a b : Bool) → a ≡ true → b ≡ true → ◌≡◌ {A = ℕ} (if a && b then 1 else 0) 1
one-change a b one two = rw (one, two) refl

module _ (before after : ℕ) (refused : List ℕ) (tasks : List StoredTask) (topics : TopicsValue) (now : ℤ) where
  pub write_instead : (w : WriteValue) → reply_to_lines (points_asked w now) ≡ done_reply → WouldChange before after refused tasks topics now (asks.Write w)
  write_instead w is = (reply_to_lines (points_asked w now), refl, ap (λ (r : ReplyValue). change_of (asks.Write w) r.status) is)

  pub define_instead : (d : DefineValue) → CanBeDefined tasks d.id d.script → WouldChange before after refused tasks topics now (asks.Define d)
  define_instead d could = (given_reply (task_text d.id d.script d.enabled), is_defined could refl, refl)

  pub act_instead : (t : TaskValue) → (is_changing_act t.act ≡ true) × (is_done (reply_to_act t.act (task_of t.id tasks)).status ≡ true) → WouldChange before after refused tasks topics now (asks.Task t)
  act_instead t both = (reply_to_act t.act (task_of t.id tasks), refl, one-change _ _ both.0 both.1)
