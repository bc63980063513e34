use Rattle.std.proofs.Common.{◌≤◌, List, ℕ, [], ◌∷◌, ◌++◌, length, ap, subst, sym, ◌∙◌, arith}
use Rattle.std.specs.Prelude.{◌≢◌, None, OnOk}
use Rattle.std.proofs.lemmas.Result.{on_ok_weaker}
use Rattle.kap_base.specs.declared.limits.TheConstants.{TASK_LIMIT}
use Rattle.kap_io.specs.Moments.{Moments}
use Rattle.store_records.specs.Held.{has_task, life_from}
use Rattle.store_records.specs.Histories.{end_of, held}
use Rattle.store_records.specs.declared.rec.Rec.{Rec}
use Rattle.store_records.specs.declared.rec.Rec.TheVariants as kinds
use Rattle.store_records.specs.declared.task.StoredTask.{StoredTask}
use Rattle.tick_compile.specs.Scripts.{Accepts, Refuses}
use Rattle.tick_compile.specs.Tasks.{refusal_in}
use Rattle.tick_compile.specs.declared.script_fault.ScriptFault.TheVariants as scripts
use Rattle.kap_engine.specs.Changing.{stands_full_before_or_after}
use Rattle.kap_engine.specs.Engines.{EngineValue, IsEngine}
use Rattle.kap_engine.proofs.ChangeLaws.{define_follows, define_same, still_moments}
use Rattle.kap_engine.proofs.RefusalLaws.{can_define, defined_rose, defined_why, failed_defined, failed_rose, failed_still}
use Rattle.kap_engine.proofs.engine.Engine.define.Goals as goal

-- ---- the script is refused

pub returns-in-Err-clause-any_moment : goal.returns-in-Err-clause-any_moment
returns-in-Err-clause-any_moment g c = λ tells rs at.
    still_moments g.N.Node g.N.ScriptNode.planned g.D.Disk.seen g.D.Disk.moment g.D.Disk.may_leave g.D.Disk.left_since c.args.disk.now rs (kinds.Define c.args.id.now c.args.script.now c.args.enabled) c.args.self.now.store at.on at.full

pub returns-in-Err-clause-why : goal.returns-in-Err-clause-why
returns-in-Err-clause-why g c =
    let why = subst (λ (text : List ℕ). c.in-Err.fault ≢ scripts.NoMemory → Refuses (refusal_in c.in-Err.fault (g.P.Patterns.refused c.compile.new.pats)) text c.in-Err.fault) c.bytes.ensures.bytes c.in-Err.ensures.fault in
    rw c.compile_fault.ensures (defined_why _ c.args.id.now c.args.script.now _ c.in-Err.fault why)

pub returns-in-Err-clause-rose : goal.returns-in-Err-clause-rose
returns-in-Err-clause-rose g c = λ fault e is. defined_rose _ _ c.in-Err.fault fault c.in-Err.ensures.rose (sym c.compile_fault.ensures ∙ e) is

-- ---- a task has the id

pub returns-then-has_task-clause-any_moment : goal.returns-then-has_task-clause-any_moment
returns-then-has_task-clause-any_moment g c = λ tells rs at.
    still_moments g.N.Node g.N.ScriptNode.planned g.D.Disk.seen g.D.Disk.moment g.D.Disk.may_leave g.D.Disk.left_since c.args.disk.now rs (kinds.Define c.args.id.now c.args.script.now c.args.enabled) c.args.self.now.store at.on at.full

pub returns-then-has_task-clause-why : goal.returns-then-has_task-clause-why
returns-then-has_task-clause-why g c =
    let tasks_is = c.tasks.ensures ∙ ap (λ (v : EngineValue _). v.store.kept.tasks) c.self.view_is in
    let accepts = subst (λ (text : List ℕ). Accepts None text c.in-Ok.task) c.bytes.ensures.bytes c.in-Ok.ensures.task in
    ((c.in-Ok.task, accepts), ap (has_task c.args.id.now) (sym tasks_is) ∙ sym c.if-has_task.ensures)

-- ---- there are as many as may be

pub returns-then-tasks-ge-TASK_LIMIT-clause-any_moment : goal.returns-then-tasks-ge-TASK_LIMIT-clause-any_moment
returns-then-tasks-ge-TASK_LIMIT-clause-any_moment g c = λ tells rs at.
    still_moments g.N.Node g.N.ScriptNode.planned g.D.Disk.seen g.D.Disk.moment g.D.Disk.may_leave g.D.Disk.left_since c.args.disk.now rs (kinds.Define c.args.id.now c.args.script.now c.args.enabled) c.args.self.now.store at.on at.full

pub returns-then-tasks-ge-TASK_LIMIT-clause-why : goal.returns-then-tasks-ge-TASK_LIMIT-clause-why
returns-then-tasks-ge-TASK_LIMIT-clause-why g c =
    let store_is = ap (λ (v : EngineValue _). v.store.kept.tasks) c.self.view_is in
    let accepts = subst (λ (text : List ℕ). Accepts None text c.in-Ok.task) c.bytes.ensures.bytes c.in-Ok.ensures.task in
    let free = ap (has_task c.args.id.now) (sym (c.tasks.ensures ∙ store_is)) ∙ sym c.if-has_task.ensures in
    let as_many = ap (λ (ts : List StoredTask). length ts) (c.tasks-2.ensures ∙ store_is) in
    let above = c.if-tasks-ge-TASK_LIMIT.true in
    let many : TASK_LIMIT ≤ length c.args.self.now.store.kept.tasks = omega (arith, as_many, above) in
    ((c.in-Ok.task, accepts), free, many)

-- ---- memory runs out

pub returns-in_err-next-clause-any_moment : goal.returns-in_err-next-clause-any_moment
returns-in_err-next-clause-any_moment g c = λ tells rs at.
    still_moments g.N.Node g.N.ScriptNode.planned g.D.Disk.seen g.D.Disk.moment g.D.Disk.may_leave g.D.Disk.left_since c.args.disk.now rs (kinds.Define c.args.id.now c.args.script.now c.args.enabled) c.args.self.now.store at.on at.full

pub returns-in_err-id-clause-any_moment : goal.returns-in_err-id-clause-any_moment
returns-in_err-id-clause-any_moment g c = λ tells rs at.
    still_moments g.N.Node g.N.ScriptNode.planned g.D.Disk.seen g.D.Disk.moment g.D.Disk.may_leave g.D.Disk.left_since c.args.disk.now rs (kinds.Define c.args.id.now c.args.script.now c.args.enabled) c.args.self.now.store at.on at.full

pub returns-in_err-script-clause-any_moment : goal.returns-in_err-script-clause-any_moment
returns-in_err-script-clause-any_moment g c = λ tells rs at.
    still_moments g.N.Node g.N.ScriptNode.planned g.D.Disk.seen g.D.Disk.moment g.D.Disk.may_leave g.D.Disk.left_since c.args.disk.now rs (kinds.Define c.args.id.now c.args.script.now c.args.enabled) c.args.self.now.store at.on at.full

-- ---- the record is added, or isn't

pub returns-clause-defined : goal.returns-clause-defined
returns-clause-defined g c = λ tells rs at.
    let one = c.in_ok-id.ensures.copy in
    let two = c.in_ok-script.ensures.copy in
    let store_is = ap (λ (v : EngineValue _). v.store.kept.tasks) c.self.view_is in
    let could = can_define c.args.id.now c.args.script.now _ c.args.self.now.store.kept.tasks _ _ c.in-Ok.task c.bytes.ensures.bytes (c.tasks.ensures ∙ store_is) (c.tasks-2.ensures ∙ store_is) c.in-Ok.ensures.task c.if-has_task.ensures (omega (arith, c.if-tasks-ge-TASK_LIMIT.false)) in
    let may = define_follows _ _ _ _ c.args.enabled one two (held rs) _ at.on.kept.keeps.tasks c.requires.id could.free could.room c.requires.short in
    let accepts = subst (λ (text : List ℕ). Accepts None text c.in-Ok.task) (c.bytes.ensures.bytes ∙ sym two) c.in-Ok.ensures.task in
    let is_next = c.in_ok-next.ensures.next (life_from (length (held rs).points) (record { id = c.in_ok-id.id; script = c.in_ok-script.script; enabled = c.args.enabled; define_at = end_of rs })) one accepts in
    subst (λ (r : Rec). OnOk c.add_change.result (IsEngine g.N.Node g.N.ScriptNode.planned (rs ++ r ∷ []) (g.D.Disk.seen c.add_change.new.disk) (g.D.Disk.may_leave c.add_change.new.disk) c.add_change.new.self)) (define_same _ _ _ _ c.args.enabled one two)
    (c.add_change.ensures.changed tells rs at may (c.in-Ok.task, accepts) is_next)

pub returns-clause-any_moment : goal.returns-clause-any_moment
returns-clause-any_moment g c = λ tells rs at.
    let one = c.in_ok-id.ensures.copy in
    let two = c.in_ok-script.ensures.copy in
    let store_is = ap (λ (v : EngineValue _). v.store.kept.tasks) c.self.view_is in
    let could = can_define c.args.id.now c.args.script.now _ c.args.self.now.store.kept.tasks _ _ c.in-Ok.task c.bytes.ensures.bytes (c.tasks.ensures ∙ store_is) (c.tasks-2.ensures ∙ store_is) c.in-Ok.ensures.task c.if-has_task.ensures (omega (arith, c.if-tasks-ge-TASK_LIMIT.false)) in
    let may = define_follows _ _ _ _ c.args.enabled one two (held rs) _ at.on.kept.keeps.tasks c.requires.id could.free could.room c.requires.short in
    let accepts = subst (λ (text : List ℕ). Accepts None text c.in-Ok.task) (c.bytes.ensures.bytes ∙ sym two) c.in-Ok.ensures.task in
    subst (λ (r : Rec). Moments g.D.Disk.moment g.D.Disk.may_leave g.D.Disk.left_since c.args.disk.now c.add_change.new.disk (stands_full_before_or_after g.N.Node g.N.ScriptNode.planned rs r)) (define_same _ _ _ _ c.args.enabled one two)
    (c.add_change.ensures.any_moment tells rs at may (c.in-Ok.task, accepts))

pub returns-clause-could : goal.returns-clause-could
returns-clause-could g c =
    let store_is = ap (λ (v : EngineValue _). v.store.kept.tasks) c.self.view_is in
    let could = can_define c.args.id.now c.args.script.now _ c.args.self.now.store.kept.tasks _ _ c.in-Ok.task c.bytes.ensures.bytes (c.tasks.ensures ∙ store_is) (c.tasks-2.ensures ∙ store_is) c.in-Ok.ensures.task c.if-has_task.ensures (omega (arith, c.if-tasks-ge-TASK_LIMIT.false)) in
    on_ok_weaker c.add_change.result (λ none. could) c.add_change.ensures.stored

pub returns-clause-why : goal.returns-clause-why
returns-clause-why g c =
    let store_is = ap (λ (v : EngineValue _). v.store.kept.tasks) c.self.view_is in
    let could = can_define c.args.id.now c.args.script.now _ c.args.self.now.store.kept.tasks _ _ c.in-Ok.task c.bytes.ensures.bytes (c.tasks.ensures ∙ store_is) (c.tasks-2.ensures ∙ store_is) c.in-Ok.ensures.task c.if-has_task.ensures (omega (arith, c.if-tasks-ge-TASK_LIMIT.false)) in
    failed_defined _ c.args.id.now c.args.script.now _ c.add_change.result could c.add_change.ensures.failed

pub returns-clause-rose : goal.returns-clause-rose
returns-clause-rose g c = failed_rose _ c.add_change.result c.add_change.ensures.failed

pub returns-clause-still : goal.returns-clause-still
returns-clause-still g c = failed_still _ c.add_change.result c.add_change.ensures.failed
