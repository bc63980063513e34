use Rattle.std.proofs.Common.{◌≡◌, ℕ, List, false, true, sym, subst}
use Rattle.kap_base.specs.Words.{HasRisen}
use Rattle.kap_io.specs.Moments.{Quiet}
use Rattle.store_records.specs.declared.rec.Rec.TheVariants as kinds
use Rattle.store_records.specs.declared.task.StoredTask.{StoredTask}
use Rattle.kap_engine.specs.Changing.{IsWhyNoneDefined}
use Rattle.kap_server.specs.Changing.{DefinedTo, EndsDefinition, OpensBehind}
use Rattle.kap_server.specs.Listing.{LeavesFull}
use Rattle.kap_server.specs.Readying.{is_pattern_refused}
use Rattle.kap_server.specs.declared.status.Status.{Status}
use Rattle.kap_server.proofs.ChangeLaws.{behind_asked, behind_none, define_done, define_ends, define_refused, engine_rose, kept_tasks, none_defined, opened_only, opened_then_changed, opening_defines, opening_pattern}
use Rattle.kap_server.proofs.ListLaws.{leaves_full}
use Rattle.kap_server.proofs.changing.define_on.Goals as goal

-- ---- the store isn't opened

pub returns-in-Err-clause-ends : goal.returns-in-Err-clause-ends
returns-in-Err-clause-ends g c =
    let refused = g.P.Patterns.refused c.make_engine.new.pats in
    subst (EndsDefinition refused c.args.script.now) (sym c.from.ensures) (opening_defines refused c.args.script.now c.in-Err.fault c.in-Err.ensures.faults)

pub returns-in-Err-clause-defined : goal.returns-in-Err-clause-defined
returns-in-Err-clause-defined g c = λ tells rs stands good.
    let r = kinds.Define c.args.id.now c.args.script.now false in
    let before = g.P.Patterns.refusals c.args.pats.now in
    let after = g.P.Patterns.refusals c.make_engine.new.pats in
    let seen = g.D.Disk.seen c.make_engine.new.disk in
    let images = g.D.Disk.may_leave c.make_engine.new.disk in
    subst (λ (s : Status). DefinedTo g.N.Node g.N.ScriptNode.planned rs c.args.id.now r before after seen images s) (sym c.from.ensures)
    (none_defined g.N.Node g.N.ScriptNode.planned rs c.args.id.now r before after seen images c.in-Err.fault c.in-Err.ensures.faults (c.in-Err.ensures.rose tells rs stands good))

pub returns-in-Err-clause-any_moment : goal.returns-in-Err-clause-any_moment
returns-in-Err-clause-any_moment g c = λ tells rs stands good.
    opened_only g.N.Node g.N.ScriptNode.planned rs g.D.Disk.moment g.D.Disk.may_leave g.D.Disk.left_since _ _ (kinds.Define c.args.id.now c.args.script.now false) (c.make_engine.ensures.any_moment tells rs stands good)

pub returns-in-Err-clause-opened : goal.returns-in-Err-clause-opened
returns-in-Err-clause-opened g c = λ tells.
    let before = g.P.Patterns.refusals c.args.pats.now in
    let after = g.P.Patterns.refusals c.make_engine.new.pats in
    let refused = g.P.Patterns.refused c.make_engine.new.pats in
    let still = Quiet g.D.Disk.seen g.D.Disk.moment g.D.Disk.may_leave g.D.Disk.left_since c.args.disk.now c.make_engine.new.disk in
    let files = g.D.Disk.seen c.args.disk.now in
    subst (λ (s : Status). OpensBehind g.N.Node g.N.ScriptNode.planned before after refused still files s) (sym c.from.ensures)
    (behind_none g.N.Node g.N.ScriptNode.planned before after refused still files c.in-Err.fault c.in-Err.ensures.faults (λ part offset e. (c.in-Err.ensures.refused tells part offset e, c.in-Err.ensures.still tells part offset e)))

pub returns-in-Err-clause-rose : goal.returns-in-Err-clause-rose
returns-in-Err-clause-rose g c = λ told.
    absurd (opening_pattern c.in-Err.fault c.in-Err.ensures.faults (subst (λ (s : Status). is_pattern_refused s ≡ true) c.from.ensures told))

-- ---- the task is defined

pub returns-in-Ok-define-clause-defined : goal.returns-in-Ok-define-clause-defined
returns-in-Ok-define-clause-defined g c = λ tells rs stands good.
    let made = c.in-Ok.ensures.made tells rs stands good in
    define_done g.N.Node g.N.ScriptNode.planned rs (g.D.Disk.seen c.make_engine.new.disk) (g.D.Disk.may_leave c.make_engine.new.disk) c.in-Ok.engine c.define.new.self (g.D.Disk.seen c.define.new.disk) (g.D.Disk.may_leave c.define.new.disk)
    c.args.id.now c.args.script.now (g.P.Patterns.refusals c.args.pats.now) (g.P.Patterns.refusals c.define.new.pats) made (c.in-Ok-define.ensures.defined tells made.records made.engine)

pub returns-in-Ok-define-clause-any_moment : goal.returns-in-Ok-define-clause-any_moment
returns-in-Ok-define-clause-any_moment g c = λ tells rs stands good.
    let made = c.in-Ok.ensures.made tells rs stands good in
    opened_then_changed g.N.Node g.N.ScriptNode.planned rs g.D.Disk.seen g.D.Disk.moment g.D.Disk.may_leave g.D.Disk.left_since _ _ _ c.in-Ok.engine made (kinds.Define c.args.id.now c.args.script.now false)
    (c.make_engine.ensures.any_moment tells rs stands good) (c.define.ensures.any_moment tells made.records made.engine)

pub returns-in-Ok-define-clause-opened : goal.returns-in-Ok-define-clause-opened
returns-in-Ok-define-clause-opened g c = λ tells.
    let opened = c.in-Ok.ensures.opened tells in
    record { records = opened.0; stands = opened.1; asked = opened.2 }

-- ---- it isn't

pub returns-clause-ends : goal.returns-clause-ends
returns-clause-ends g c =
    let refused = g.P.Patterns.refused c.define.new.pats in
    subst (EndsDefinition refused c.args.script.now) (sym c.from-in-Err-define.ensures)
    (define_ends c.scripts_have_one_answer.ensures.apart refused c.args.id.now c.args.script.now c.in-Ok.engine.store.kept.tasks c.in-Err-define.fault c.requires.script c.in-Err-define.ensures.why)

pub returns-clause-defined : goal.returns-clause-defined
returns-clause-defined g c = λ tells rs stands good.
    let made = c.in-Ok.ensures.made tells rs stands good in
    let r = kinds.Define c.args.id.now c.args.script.now false in
    let before = g.P.Patterns.refusals c.args.pats.now in
    let after = g.P.Patterns.refusals c.define.new.pats in
    let refused = g.P.Patterns.refused c.define.new.pats in
    let mid-seen = g.D.Disk.seen c.make_engine.new.disk in
    let mid-images = g.D.Disk.may_leave c.make_engine.new.disk in
    let seen = g.D.Disk.seen c.define.new.disk in
    let images = g.D.Disk.may_leave c.define.new.disk in
    let left = leaves_full g.N.Node g.N.ScriptNode.planned c.scripts_have_one_answer.ensures.task rs good mid-seen mid-images c.in-Ok.engine made in
    subst (λ (s : Status). DefinedTo g.N.Node g.N.ScriptNode.planned rs c.args.id.now r before after seen images s) (sym c.from-in-Err-define.ensures)
    (define_refused g.N.Node g.N.ScriptNode.planned rs c.scripts_have_one_answer.ensures.apart before after refused c.args.id.now c.args.script.now seen images r c.in-Err-define.fault c.requires.script
    (subst (λ (ts : List StoredTask). IsWhyNoneDefined refused c.args.id.now c.args.script.now ts c.in-Err-define.fault) (kept_tasks g.N.Node g.N.ScriptNode.planned rs mid-seen mid-images c.in-Ok.engine made) c.in-Err-define.ensures.why)
    (λ f is told. subst (λ (n : ℕ). HasRisen n after) c.in-Ok.ensures.kept (c.in-Err-define.ensures.rose f is told))
    (λ refusal. subst (λ d. LeavesFull g.N.Node g.N.ScriptNode.planned rs (g.D.Disk.seen d) (g.D.Disk.may_leave d)) (sym (c.in-Err-define.ensures.still refusal).1) left))

pub returns-clause-any_moment : goal.returns-clause-any_moment
returns-clause-any_moment g c = λ tells rs stands good.
    let made = c.in-Ok.ensures.made tells rs stands good in
    opened_then_changed g.N.Node g.N.ScriptNode.planned rs g.D.Disk.seen g.D.Disk.moment g.D.Disk.may_leave g.D.Disk.left_since _ _ _ c.in-Ok.engine made (kinds.Define c.args.id.now c.args.script.now false)
    (c.make_engine.ensures.any_moment tells rs stands good) (c.define.ensures.any_moment tells made.records made.engine)

pub returns-clause-opened : goal.returns-clause-opened
returns-clause-opened g c = λ tells.
    let opened = c.in-Ok.ensures.opened tells in
    let before = g.P.Patterns.refusals c.args.pats.now in
    let after = g.P.Patterns.refusals c.define.new.pats in
    let refused = g.P.Patterns.refused c.define.new.pats in
    let still = Quiet g.D.Disk.seen g.D.Disk.moment g.D.Disk.may_leave g.D.Disk.left_since c.args.disk.now c.define.new.disk in
    let files = g.D.Disk.seen c.args.disk.now in
    subst (λ (s : Status). OpensBehind g.N.Node g.N.ScriptNode.planned before after refused still files s) (sym c.from-in-Err-define.ensures)
    (behind_asked g.N.Node g.N.ScriptNode.planned before after refused still files refused c.args.id.now c.args.script.now c.in-Ok.engine.store.kept.tasks c.in-Err-define.fault c.in-Err-define.ensures.why
    (record { records = opened.0; stands = opened.1; asked = opened.2 }))

pub returns-clause-rose : goal.returns-clause-rose
returns-clause-rose g c = λ told.
    let after = g.P.Patterns.refusals c.define.new.pats in
    subst (λ (n : ℕ). HasRisen n after) c.in-Ok.ensures.kept
    (engine_rose (g.P.Patterns.refusals c.make_engine.new.pats) after c.in-Err-define.fault c.in-Err-define.ensures.rose (subst (λ (s : Status). is_pattern_refused s ≡ true) c.from-in-Err-define.ensures told))
