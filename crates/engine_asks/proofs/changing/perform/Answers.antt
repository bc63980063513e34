use Rattle.std.proofs.Common.{sym, subst}
use Rattle.std.specs.Prelude.{OnOk}
use Rattle.kap_http.specs.declared.ask.TaskAct.{TaskAct}
use Rattle.kap_io.specs.Moments.{Moments}
use Rattle.store_records.specs.declared.rec.Rec.TheVariants as kinds
use Rattle.engine_asks.specs.Nexts.{NextOfAct, before_or_acted}
use Rattle.engine_asks.proofs.NextLaws.{recorded}
use Rattle.engine_asks.proofs.changing.perform.Goals as goal

pub returns-in-Enable-clause-next : goal.returns-in-Enable-clause-next
returns-in-Enable-clause-next g c = λ tells rs at.
    let seen = g.D.Disk.seen c.enable.new.disk in
    let images = g.D.Disk.may_leave c.enable.new.disk in
    subst (λ (act : TaskAct). OnOk c.enable.result (NextOfAct g.N.Node g.N.ScriptNode.planned rs c.args.engine.now.stored seen images c.enable.new.self c.args.id.now act)) (sym c.in-Enable.is)
    (recorded g.N.Node g.N.ScriptNode.planned rs c.enable.result (kinds.Enable c.args.id.now) seen images c.enable.new.self (c.enable.ensures.enabled tells rs at) c.enable.ensures.stored)

pub returns-in-Enable-clause-any_moment : goal.returns-in-Enable-clause-any_moment
returns-in-Enable-clause-any_moment g c = λ tells rs at.
    subst (λ (act : TaskAct). Moments g.D.Disk.moment g.D.Disk.may_leave g.D.Disk.left_since c.args.disk.now c.enable.new.disk (before_or_acted g.N.Node g.N.ScriptNode.planned rs c.args.id.now act)) (sym c.in-Enable.is)
    (c.enable.ensures.any_moment tells rs at)

pub returns-in-Disable-clause-next : goal.returns-in-Disable-clause-next
returns-in-Disable-clause-next g c = λ tells rs at.
    let seen = g.D.Disk.seen c.disable.new.disk in
    let images = g.D.Disk.may_leave c.disable.new.disk in
    subst (λ (act : TaskAct). OnOk c.disable.result (NextOfAct g.N.Node g.N.ScriptNode.planned rs c.args.engine.now.stored seen images c.disable.new.self c.args.id.now act)) (sym c.in-Disable.is)
    (recorded g.N.Node g.N.ScriptNode.planned rs c.disable.result (kinds.Disable c.args.id.now) seen images c.disable.new.self (c.disable.ensures.disabled tells rs at) c.disable.ensures.stored)

pub returns-in-Disable-clause-any_moment : goal.returns-in-Disable-clause-any_moment
returns-in-Disable-clause-any_moment g c = λ tells rs at.
    subst (λ (act : TaskAct). Moments g.D.Disk.moment g.D.Disk.may_leave g.D.Disk.left_since c.args.disk.now c.disable.new.disk (before_or_acted g.N.Node g.N.ScriptNode.planned rs c.args.id.now act)) (sym c.in-Disable.is)
    (c.disable.ensures.any_moment tells rs at)

pub returns-in-Delete-clause-next : goal.returns-in-Delete-clause-next
returns-in-Delete-clause-next g c = λ tells rs at.
    let seen = g.D.Disk.seen c.delete.new.disk in
    let images = g.D.Disk.may_leave c.delete.new.disk in
    subst (λ (act : TaskAct). OnOk c.delete.result (NextOfAct g.N.Node g.N.ScriptNode.planned rs c.args.engine.now.stored seen images c.delete.new.self c.args.id.now act)) (sym c.in-Delete.is)
    (recorded g.N.Node g.N.ScriptNode.planned rs c.delete.result (kinds.Delete c.args.id.now) seen images c.delete.new.self (c.delete.ensures.deleted tells rs at) c.delete.ensures.stored)

pub returns-in-Delete-clause-any_moment : goal.returns-in-Delete-clause-any_moment
returns-in-Delete-clause-any_moment g c = λ tells rs at.
    subst (λ (act : TaskAct). Moments g.D.Disk.moment g.D.Disk.may_leave g.D.Disk.left_since c.args.disk.now c.delete.new.disk (before_or_acted g.N.Node g.N.ScriptNode.planned rs c.args.id.now act)) (sym c.in-Delete.is)
    (c.delete.ensures.any_moment tells rs at)
