use Rattle.std.proofs.Common.{ℕ, List, sym, subst}
use Rattle.kap_io.specs.Moments.{Quiet}
use Rattle.store_records.specs.Histories.{held}
use Rattle.store_records.specs.declared.task.StoredTask.{StoredTask}
use Rattle.topic_store.specs.Stores.{IsNamed}
use Rattle.kap_engine.specs.Changing.{IsWhyNoneEnabled}
use Rattle.kap_server.specs.Changing.{ChangedTo, Changes, EndsChange, OpensToChange, record_of}
use Rattle.kap_server.specs.Listing.{LeavesFull}
use Rattle.kap_server.specs.declared.status.Status.{Status}
use Rattle.kap_server.specs.declared.status.Status.TheVariants as statuses
use Rattle.kap_server.proofs.ChangeLaws.{change_asked, change_done, change_ends, change_none, change_refused, kept_tasks, named_now, none_changed, nothing_changed, opened_only, opened_then_changed, opening_changes}
use Rattle.kap_server.proofs.ListLaws.{leaves_full}
use Rattle.kap_server.proofs.changing.change.Goals as goal

-- ---- memory runs out

pub returns-in-Err-clause-ends : goal.returns-in-Err-clause-ends
returns-in-Err-clause-ends g c = subst EndsChange (sym c.from.ensures) tt

pub returns-in-Err-clause-changed : goal.returns-in-Err-clause-changed
returns-in-Err-clause-changed g c = λ tells rs stands good.
    let count = g.P.Patterns.refusals c.args.pats.now in
    subst (λ (s : Status). Changes g.N.Node g.N.ScriptNode.planned g.D.Disk.seen g.D.Disk.moment g.D.Disk.may_leave g.D.Disk.left_since rs c.args.id.now (record_of c.args.change c.args.id.now) count count c.args.disk.now c.args.disk.now s) (sym c.from.ensures)
    (nothing_changed g.N.Node g.N.ScriptNode.planned rs g.D.Disk.seen g.D.Disk.moment g.D.Disk.may_leave g.D.Disk.left_since c.args.disk.now c.args.id.now (record_of c.args.change c.args.id.now) count count)

pub returns-in-Err-clause-opened : goal.returns-in-Err-clause-opened
returns-in-Err-clause-opened g c = λ tells.
    let count = g.P.Patterns.refusals c.args.pats.now in
    let still = Quiet g.D.Disk.seen g.D.Disk.moment g.D.Disk.may_leave g.D.Disk.left_since c.args.disk.now c.args.disk.now in
    let files = g.D.Disk.seen c.args.disk.now in
    subst (λ (s : Status). OpensToChange g.N.Node g.N.ScriptNode.planned count count (g.P.Patterns.refused c.args.pats.now) still files files c.args.id.now s) (sym c.from.ensures) tt

-- ---- the store isn't opened

pub returns-in-Err-make_engine-clause-ends : goal.returns-in-Err-make_engine-clause-ends
returns-in-Err-make_engine-clause-ends g c = subst EndsChange (sym c.from-in-Err-make_engine.ensures) (opening_changes c.in-Err-make_engine.fault c.in-Err-make_engine.ensures.faults)

pub returns-in-Err-make_engine-clause-changed : goal.returns-in-Err-make_engine-clause-changed
returns-in-Err-make_engine-clause-changed g c = λ tells rs stands good.
    let r = record_of c.args.change c.args.id.now in
    let before = g.P.Patterns.refusals c.args.pats.now in
    let after = g.P.Patterns.refusals c.make_engine.new.pats in
    let seen = g.D.Disk.seen c.make_engine.new.disk in
    let images = g.D.Disk.may_leave c.make_engine.new.disk in
    record {
      ends =
          subst (λ (s : Status). ChangedTo g.N.Node g.N.ScriptNode.planned rs c.args.id.now r before after seen images s) (sym c.from-in-Err-make_engine.ensures)
          (none_changed g.N.Node g.N.ScriptNode.planned rs c.args.id.now r before after seen images c.in-Err-make_engine.fault c.in-Err-make_engine.ensures.faults (c.in-Err-make_engine.ensures.rose tells rs stands good));
      any_moment = opened_only g.N.Node g.N.ScriptNode.planned rs g.D.Disk.moment g.D.Disk.may_leave g.D.Disk.left_since _ _ r (c.make_engine.ensures.any_moment tells rs stands good);
    }

pub returns-in-Err-make_engine-clause-opened : goal.returns-in-Err-make_engine-clause-opened
returns-in-Err-make_engine-clause-opened g c = λ tells.
    let before = g.P.Patterns.refusals c.args.pats.now in
    let after = g.P.Patterns.refusals c.make_engine.new.pats in
    let refused = g.P.Patterns.refused c.make_engine.new.pats in
    let still = Quiet g.D.Disk.seen g.D.Disk.moment g.D.Disk.may_leave g.D.Disk.left_since c.args.disk.now c.make_engine.new.disk in
    let files = g.D.Disk.seen c.args.disk.now in
    let now = g.D.Disk.seen c.make_engine.new.disk in
    subst (λ (s : Status). OpensToChange g.N.Node g.N.ScriptNode.planned before after refused still files now c.args.id.now s) (sym c.from-in-Err-make_engine.ensures)
    (change_none g.N.Node g.N.ScriptNode.planned before after refused still files now c.args.id.now c.in-Err-make_engine.fault c.in-Err-make_engine.ensures.faults
    (λ part offset e. (c.in-Err-make_engine.ensures.refused tells part offset e, c.in-Err-make_engine.ensures.still tells part offset e)))

-- ---- the task is changed

pub returns-in-Ok-make_change-clause-changed : goal.returns-in-Ok-make_change-clause-changed
returns-in-Ok-make_change-clause-changed g c = λ tells rs stands good.
    let made = c.in-Ok-make_engine.ensures.made tells rs stands good in
    let before = g.P.Patterns.refusals c.args.pats.now in
    let after = g.P.Patterns.refusals c.make_change.new.pats in
    subst (λ (i : List ℕ). Changes g.N.Node g.N.ScriptNode.planned g.D.Disk.seen g.D.Disk.moment g.D.Disk.may_leave g.D.Disk.left_since rs i (record_of c.args.change i) before after c.args.disk.now c.make_change.new.disk statuses.Ok) c.in-Ok.ensures.text
    (record {
      ends =
          change_done g.N.Node g.N.ScriptNode.planned rs (g.D.Disk.seen c.make_engine.new.disk) (g.D.Disk.may_leave c.make_engine.new.disk) c.in-Ok-make_engine.engine c.make_change.new.engine (g.D.Disk.seen c.make_change.new.disk) (g.D.Disk.may_leave c.make_change.new.disk)
          c.args.change c.in-Ok.id before after made (c.in-Ok-make_change.ensures.changed tells made.records made.engine);
      any_moment =
          opened_then_changed g.N.Node g.N.ScriptNode.planned rs g.D.Disk.seen g.D.Disk.moment g.D.Disk.may_leave g.D.Disk.left_since _ _ _ c.in-Ok-make_engine.engine made (record_of c.args.change c.in-Ok.id)
          (c.make_engine.ensures.any_moment tells rs stands good) (c.make_change.ensures.any_moment tells made.records made.engine);
    })

pub returns-in-Ok-make_change-clause-opened : goal.returns-in-Ok-make_change-clause-opened
returns-in-Ok-make_change-clause-opened g c = λ tells.
    let opened = c.in-Ok-make_engine.ensures.opened tells in
    record { records = opened.0; stands = opened.1; asked = opened.2 }

-- ---- it isn't

pub returns-clause-ends : goal.returns-clause-ends
returns-clause-ends g c =
    subst EndsChange (sym c.from-in-Err-make_change.ensures)
    (change_ends (g.P.Patterns.refusals c.make_engine.new.pats) (g.P.Patterns.refusals c.make_change.new.pats) (g.P.Patterns.refused c.make_change.new.pats) c.in-Ok-make_engine.engine.store.log.part c.in-Ok.id c.in-Ok-make_engine.engine.store.kept.tasks c.in-Err-make_change.fault
    c.in-Err-make_change.ensures.why)

pub returns-clause-changed : goal.returns-clause-changed
returns-clause-changed g c = λ tells rs stands good.
    let made = c.in-Ok-make_engine.ensures.made tells rs stands good in
    let r = record_of c.args.change c.in-Ok.id in
    let before = g.P.Patterns.refusals c.args.pats.now in
    let after = g.P.Patterns.refusals c.make_change.new.pats in
    let refused = g.P.Patterns.refused c.make_change.new.pats in
    let mid-seen = g.D.Disk.seen c.make_engine.new.disk in
    let mid-images = g.D.Disk.may_leave c.make_engine.new.disk in
    let seen = g.D.Disk.seen c.make_change.new.disk in
    let images = g.D.Disk.may_leave c.make_change.new.disk in
    let log = c.in-Ok-make_engine.engine.store.log.part in
    let tasks_are = kept_tasks g.N.Node g.N.ScriptNode.planned rs mid-seen mid-images c.in-Ok-make_engine.engine made in
    let left = leaves_full g.N.Node g.N.ScriptNode.planned c.scripts_have_one_answer.ensures.task rs good mid-seen mid-images c.in-Ok-make_engine.engine made in
    let why = subst (λ (n : ℕ). IsWhyNoneEnabled n after refused log c.in-Ok.id (held rs).tasks c.in-Err-make_change.fault) c.in-Ok-make_engine.ensures.kept
    (subst (λ (ts : List StoredTask). IsWhyNoneEnabled (g.P.Patterns.refusals c.make_engine.new.pats) after refused log c.in-Ok.id ts c.in-Err-make_change.fault) tasks_are c.in-Err-make_change.ensures.why) in
    subst (λ (i : List ℕ). Changes g.N.Node g.N.ScriptNode.planned g.D.Disk.seen g.D.Disk.moment g.D.Disk.may_leave g.D.Disk.left_since rs i (record_of c.args.change i) before after c.args.disk.now c.make_change.new.disk c.from-in-Err-make_change.result)
    c.in-Ok.ensures.text
    (record {
      ends =
          subst (λ (s : Status). ChangedTo g.N.Node g.N.ScriptNode.planned rs c.in-Ok.id r before after seen images s) (sym c.from-in-Err-make_change.ensures)
          (change_refused g.N.Node g.N.ScriptNode.planned rs good c.scripts_have_one_answer.ensures.apart before after refused c.in-Ok.id seen images log r c.in-Err-make_change.fault why
          (λ refusal. subst (λ d. LeavesFull g.N.Node g.N.ScriptNode.planned rs (g.D.Disk.seen d) (g.D.Disk.may_leave d)) (sym (c.in-Err-make_change.ensures.still refusal).1) left));
      any_moment =
          opened_then_changed g.N.Node g.N.ScriptNode.planned rs g.D.Disk.seen g.D.Disk.moment g.D.Disk.may_leave g.D.Disk.left_since _ _ _ c.in-Ok-make_engine.engine made r
          (c.make_engine.ensures.any_moment tells rs stands good) (c.make_change.ensures.any_moment tells made.records made.engine);
    })

pub returns-clause-opened : goal.returns-clause-opened
returns-clause-opened g c = λ tells.
    let opened = c.in-Ok-make_engine.ensures.opened tells in
    let before = g.P.Patterns.refusals c.args.pats.now in
    let after = g.P.Patterns.refusals c.make_change.new.pats in
    let refused = g.P.Patterns.refused c.make_change.new.pats in
    let still = Quiet g.D.Disk.seen g.D.Disk.moment g.D.Disk.may_leave g.D.Disk.left_since c.args.disk.now c.make_change.new.disk in
    let files = g.D.Disk.seen c.args.disk.now in
    let mid-seen = g.D.Disk.seen c.make_engine.new.disk in
    let mid-images = g.D.Disk.may_leave c.make_engine.new.disk in
    let now = g.D.Disk.seen c.make_change.new.disk in
    let engine = c.in-Ok-make_engine.engine in
    let why = subst (λ (n : ℕ). IsWhyNoneEnabled n after refused engine.store.log.part c.in-Ok.id engine.store.kept.tasks c.in-Err-make_change.fault) c.in-Ok-make_engine.ensures.kept c.in-Err-make_change.ensures.why in
    subst (λ (i : List ℕ). OpensToChange g.N.Node g.N.ScriptNode.planned before after refused still files now i c.from-in-Err-make_change.result) c.in-Ok.ensures.text
    (subst (λ (s : Status). OpensToChange g.N.Node g.N.ScriptNode.planned before after refused still files now c.in-Ok.id s) (sym c.from-in-Err-make_change.ensures)
    (change_asked g.N.Node g.N.ScriptNode.planned before after refused still files now c.in-Ok.id engine.store.log.part engine.store.kept.tasks c.in-Err-make_change.fault why (record { records = opened.0; stands = opened.1; asked = opened.2 })
    (λ refusal good. let made = c.in-Ok-make_engine.ensures.made tells opened.0 opened.1 good in (
      subst (λ d. IsNamed (g.D.Disk.seen d) engine.store.log.part) (sym (c.in-Err-make_change.ensures.still refusal).1) (named_now g.N.Node g.N.ScriptNode.planned opened.0 mid-seen mid-images engine made),
      kept_tasks g.N.Node g.N.ScriptNode.planned opened.0 mid-seen mid-images engine made,
    ))))
