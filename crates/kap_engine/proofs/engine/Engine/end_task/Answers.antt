use Rattle.std.proofs.Common.{◌≡◌, List, [], ◌∷◌, ◌++◌, true, false, length, ap, subst, sym, ◌∙◌}
use Rattle.std.specs.Prelude.{OnOk}
use Rattle.std.proofs.lemmas.Result.{on_ok_weaker}
use Rattle.kap_io.specs.Moments.{Moments}
use Rattle.store_records.specs.Held.{has_task}
use Rattle.store_records.specs.Histories.{end_of, held}
use Rattle.store_records.specs.declared.rec.Rec.{Rec}
use Rattle.store_records.specs.declared.task.StoredTask.{StoredTask}
use Rattle.kap_engine.specs.Changing.{ending, stands_full_before_or_after}
use Rattle.kap_engine.specs.Engines.{EngineValue, IsEngine}
use Rattle.kap_engine.proofs.ChangeLaws.{ending_defines, ending_may, next_ending, still_moments}
use Rattle.kap_engine.proofs.RefusalLaws.{failed_ended, failed_still}
use Rattle.kap_engine.proofs.engine.Engine.end_task.Goals as goal

-- ---- no task has the id

pub returns-then-not-has_task-clause-any_moment : goal.returns-then-not-has_task-clause-any_moment
returns-then-not-has_task-clause-any_moment g c = λ tells rs at.
    still_moments g.N.Node g.N.ScriptNode.planned g.D.Disk.seen g.D.Disk.moment g.D.Disk.may_leave g.D.Disk.left_since c.args.disk.now rs (ending c.args.deletes c.args.id.now) c.args.self.now.store at.on at.full

pub returns-then-not-has_task-clause-why : goal.returns-then-not-has_task-clause-why
returns-then-not-has_task-clause-why g c =
    let tasks_is = c.tasks.ensures ∙ ap (λ (v : EngineValue _). v.store.kept.tasks) c.self.view_is in
    subst (λ (ts : List StoredTask). has_task c.args.id.now ts ≡ false) tasks_is (sym c.if-not-has_task.ensures)

-- ---- memory runs out

pub returns-in_err-id-clause-any_moment : goal.returns-in_err-id-clause-any_moment
returns-in_err-id-clause-any_moment g c = λ tells rs at.
    still_moments g.N.Node g.N.ScriptNode.planned g.D.Disk.seen g.D.Disk.moment g.D.Disk.may_leave g.D.Disk.left_since c.args.disk.now rs (ending c.args.deletes c.args.id.now) c.args.self.now.store at.on at.full

-- ---- the record is added, or isn't

pub returns-clause-ended : goal.returns-clause-ended
returns-clause-ended g c = λ tells rs at.
    let is : c.ending-rec.result ≡ ending c.args.deletes c.args.id.now = c.ending-rec.ensures.same ∙ ap (ending c.args.deletes) c.in_ok-id.ensures.copy in
    let tasks_is = c.tasks.ensures ∙ ap (λ (v : EngineValue _). v.store.kept.tasks) c.self.view_is ∙ at.on.kept.keeps.tasks in
    let there = subst (λ (ts : List StoredTask). has_task c.args.id.now ts ≡ true) tasks_is (sym c.if-not-has_task.ensures) in
    subst (λ (r : Rec). OnOk c.add_change.result (IsEngine g.N.Node g.N.ScriptNode.planned (rs ++ r ∷ []) (g.D.Disk.seen c.add_change.new.disk) (g.D.Disk.may_leave c.add_change.new.disk) c.add_change.new.self)) is
    (c.add_change.ensures.changed tells rs at (ending_may _ _ _ is (held rs) there) (ending_defines _ _ _ is)
    (next_ending g.N.Node g.N.ScriptNode.planned (length (held rs).points) (length c.args.self.now.run.names) (end_of rs) _ _ _ (held rs).tasks is))

pub returns-clause-any_moment : goal.returns-clause-any_moment
returns-clause-any_moment g c = λ tells rs at.
    let is : c.ending-rec.result ≡ ending c.args.deletes c.args.id.now = c.ending-rec.ensures.same ∙ ap (ending c.args.deletes) c.in_ok-id.ensures.copy in
    let tasks_is = c.tasks.ensures ∙ ap (λ (v : EngineValue _). v.store.kept.tasks) c.self.view_is ∙ at.on.kept.keeps.tasks in
    let there = subst (λ (ts : List StoredTask). has_task c.args.id.now ts ≡ true) tasks_is (sym c.if-not-has_task.ensures) in
    subst (λ (r : Rec). Moments g.D.Disk.moment g.D.Disk.may_leave g.D.Disk.left_since c.args.disk.now c.add_change.new.disk (stands_full_before_or_after g.N.Node g.N.ScriptNode.planned rs r)) is
    (c.add_change.ensures.any_moment tells rs at (ending_may _ _ _ is (held rs) there) (ending_defines _ _ _ is))

pub returns-clause-there : goal.returns-clause-there
returns-clause-there g c =
    let tasks_is = c.tasks.ensures ∙ ap (λ (v : EngineValue _). v.store.kept.tasks) c.self.view_is in
    let there = subst (λ (ts : List StoredTask). has_task c.args.id.now ts ≡ true) tasks_is (sym c.if-not-has_task.ensures) in
    on_ok_weaker c.add_change.result (λ none. there) c.add_change.ensures.stored

pub returns-clause-why : goal.returns-clause-why
returns-clause-why g c =
    let tasks_is = c.tasks.ensures ∙ ap (λ (v : EngineValue _). v.store.kept.tasks) c.self.view_is in
    let there = subst (λ (ts : List StoredTask). has_task c.args.id.now ts ≡ true) tasks_is (sym c.if-not-has_task.ensures) in
    failed_ended c.args.id.now c.args.self.now.store.kept.tasks c.add_change.result there c.add_change.ensures.failed

pub returns-clause-still : goal.returns-clause-still
returns-clause-still g c = failed_still _ c.add_change.result c.add_change.ensures.failed
