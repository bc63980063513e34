use Rattle.std.proofs.Common.{◌≡◌, List, ℕ, [], ◌∷◌, ◌++◌, true, false, length, ap, subst, sym, ◌∙◌}
use Rattle.std.proofs.lemmas.Result.{err_from_is_err_and, on_ok_weaker}
use Rattle.std.specs.Prelude.{OnOk, Option, slice_get}
use Rattle.kap_io.specs.Moments.{Moments}
use Rattle.store_records.specs.Held.{has_task, life_of, task_of}
use Rattle.store_records.specs.Histories.{held}
use Rattle.store_records.specs.declared.rec.Rec.TheVariants as kinds
use Rattle.store_records.specs.declared.task.StoredTask.{StoredTask}
use Rattle.kap_engine.specs.Changing.{AreNext, stands_full_before_or_after}
use Rattle.kap_engine.specs.Engines.{EngineValue, IsEngine}
use Rattle.kap_engine.proofs.ChangeLaws.{still_moments}
use Rattle.kap_engine.proofs.RefusalLaws.{enabled_why, failed_enabled, failed_still, found_at, has_found, has_none}
use Rattle.kap_engine.proofs.engine.Engine.enable.Goals as goal

-- ---- no task has the id

pub returns-in_default-clause-any_moment : goal.returns-in_default-clause-any_moment
returns-in_default-clause-any_moment g c = λ tells rs at.
    still_moments g.N.Node g.N.ScriptNode.planned g.D.Disk.seen g.D.Disk.moment g.D.Disk.may_leave g.D.Disk.left_since c.args.disk.now rs (kinds.Enable c.args.id.now) c.args.self.now.store at.on at.full

pub returns-in_default-clause-why : goal.returns-in_default-clause-why
returns-in_default-clause-why g c =
    let tasks_is = c.tasks.ensures ∙ ap (λ (v : EngineValue _). v.store.kept.tasks) c.self.view_is in
    subst (λ (ts : List StoredTask). has_task c.args.id.now ts ≡ false) tasks_is (has_none c.args.id.now c.tasks.result.now (sym c.in_default.ensures))

-- ---- its life isn't planned

pub returns-in_err-next-clause-any_moment : goal.returns-in_err-next-clause-any_moment
returns-in_err-next-clause-any_moment g c = λ tells rs at.
    still_moments g.N.Node g.N.ScriptNode.planned g.D.Disk.seen g.D.Disk.moment g.D.Disk.may_leave g.D.Disk.left_since c.args.disk.now rs (kinds.Enable c.args.id.now) c.args.self.now.store at.on at.full

pub returns-in_err-next-clause-why : goal.returns-in_err-next-clause-why
returns-in_err-next-clause-why g c =
    let p = err_from_is_err_and c.from_residual.result c.from_residual.ensures.1 in
    let tasks_is = c.tasks.ensures ∙ ap (λ (v : EngineValue _). v.store.kept.tasks) c.self.view_is in
    let found = subst (λ (ts : List StoredTask). slice_get ts c.in-Some.place ≡ task_of c.args.id.now ts) tasks_is (found_at c.args.id.now c.tasks.result.now c.in-Some.place (sym c.find_task.ensures ∙ c.in-Some.is)) in
    rw (p.1, p.2) (enabled_why _ _ _ _ c.args.id.now _ _ c.in_err-next.field-0.0 found c.in_err-next.ensures.why)

-- ---- memory runs out

pub returns-in_err-id-clause-any_moment : goal.returns-in_err-id-clause-any_moment
returns-in_err-id-clause-any_moment g c = λ tells rs at.
    still_moments g.N.Node g.N.ScriptNode.planned g.D.Disk.seen g.D.Disk.moment g.D.Disk.may_leave g.D.Disk.left_since c.args.disk.now rs (kinds.Enable c.args.id.now) c.args.self.now.store at.on at.full

-- ---- the record is added, or isn't

pub returns-clause-enabled : goal.returns-clause-enabled
returns-clause-enabled g c = λ tells rs at.
    let same = c.in_ok-id.ensures.copy in
    let engine_is = ap (λ (v : EngineValue _). v.store.kept.tasks) c.self.view_is in
    let place_is = sym c.find_task.ensures ∙ c.in-Some.is in
    let there = subst (λ (ts : List StoredTask). has_task c.args.id.now ts ≡ true) (c.tasks.ensures ∙ engine_is ∙ at.on.kept.keeps.tasks) (has_found c.args.id.now c.tasks.result.now c.in-Some.place place_is) in
    let may = subst (λ (i : List ℕ). has_task i (held rs).tasks ≡ true) (sym same) there in
    let found = subst (λ (ts : List StoredTask). slice_get ts c.in-Some.place ≡ task_of c.args.id.now ts) (c.tasks.ensures ∙ engine_is) (found_at c.args.id.now c.tasks.result.now c.in-Some.place place_is) in
    let is_next = subst (λ (o : Option StoredTask). AreNext g.N.Node g.N.ScriptNode.planned (length c.args.self.now.run.names) (life_of (length (held rs).points) o) c.in_ok-next.next)
    (found ∙ ap (λ (ts : List StoredTask). task_of c.args.id.now ts) at.on.kept.keeps.tasks ∙ ap (λ (i : List ℕ). task_of i (held rs).tasks) (sym same))
    (c.in_ok-next.ensures.next (length (held rs).points)) in
    subst (λ (i : List ℕ). OnOk c.add_change.result (IsEngine g.N.Node g.N.ScriptNode.planned (rs ++ kinds.Enable i ∷ []) (g.D.Disk.seen c.add_change.new.disk) (g.D.Disk.may_leave c.add_change.new.disk) c.add_change.new.self)) same
    (c.add_change.ensures.changed tells rs at may tt is_next)

pub returns-clause-any_moment : goal.returns-clause-any_moment
returns-clause-any_moment g c = λ tells rs at.
    let same = c.in_ok-id.ensures.copy in
    let engine_is = ap (λ (v : EngineValue _). v.store.kept.tasks) c.self.view_is in
    let there = subst (λ (ts : List StoredTask). has_task c.args.id.now ts ≡ true) (c.tasks.ensures ∙ engine_is ∙ at.on.kept.keeps.tasks) (has_found c.args.id.now c.tasks.result.now c.in-Some.place (sym c.find_task.ensures ∙ c.in-Some.is)) in
    let may = subst (λ (i : List ℕ). has_task i (held rs).tasks ≡ true) (sym same) there in
    subst (λ (i : List ℕ). Moments g.D.Disk.moment g.D.Disk.may_leave g.D.Disk.left_since c.args.disk.now c.add_change.new.disk (stands_full_before_or_after g.N.Node g.N.ScriptNode.planned rs (kinds.Enable i))) same
    (c.add_change.ensures.any_moment tells rs at may tt)

pub returns-clause-there : goal.returns-clause-there
returns-clause-there g c =
    let tasks_is = c.tasks.ensures ∙ ap (λ (v : EngineValue _). v.store.kept.tasks) c.self.view_is in
    let there = subst (λ (ts : List StoredTask). has_task c.args.id.now ts ≡ true) tasks_is (has_found c.args.id.now c.tasks.result.now c.in-Some.place (sym c.find_task.ensures ∙ c.in-Some.is)) in
    on_ok_weaker c.add_change.result (λ none. there) c.add_change.ensures.stored

pub returns-clause-why : goal.returns-clause-why
returns-clause-why g c =
    let tasks_is = c.tasks.ensures ∙ ap (λ (v : EngineValue _). v.store.kept.tasks) c.self.view_is in
    let there = subst (λ (ts : List StoredTask). has_task c.args.id.now ts ≡ true) tasks_is (has_found c.args.id.now c.tasks.result.now c.in-Some.place (sym c.find_task.ensures ∙ c.in-Some.is)) in
    failed_enabled (g.P.Patterns.refusals c.args.pats.now) (g.P.Patterns.refusals c.plan_enabled.new.pats) (g.P.Patterns.refused c.plan_enabled.new.pats) c.args.self.now.store.log.part c.args.id.now c.args.self.now.store.kept.tasks c.add_change.result there c.add_change.ensures.failed

pub returns-clause-still : goal.returns-clause-still
returns-clause-still g c = failed_still _ c.add_change.result c.add_change.ensures.failed
