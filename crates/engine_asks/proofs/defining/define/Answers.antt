use Rattle.std.proofs.Common.{subst}
use Rattle.std.specs.Prelude.{◌⊎◌}
use Rattle.kap_http.specs.AskValues.{DefineValue}
use Rattle.kap_io.specs.Moments.{Moments}
use Rattle.kap_engine.specs.Changing.{CanBeDefined, stands_full_before_or_after}
use Rattle.reply_bodies.specs.Asks.{IsFailed}
use Rattle.engine_asks.specs.Nexts.{HasRecord, definition}
use Rattle.engine_asks.specs.Replies.{IsReplyToDefinition}
use Rattle.engine_asks.proofs.FaultLaws.{defined_due, none_defined, none_instead}
use Rattle.engine_asks.proofs.defining.define.Goals as goal

pub returns-in-Ok-clause-next : goal.returns-in-Ok-clause-next
returns-in-Ok-clause-next g c = λ tells rs at done.
    subst (λ (d : DefineValue). HasRecord g.N.Node g.N.ScriptNode.planned rs (definition d) (g.D.Disk.seen c.define.new.disk) (g.D.Disk.may_leave c.define.new.disk) c.define.new.self) c.ask.view_is
    (record { engine = c.in-Ok.ensures.defined tells rs at; none = c.in-Ok.ensures.stored })

pub returns-in-Ok-clause-any_moment : goal.returns-in-Ok-clause-any_moment
returns-in-Ok-clause-any_moment g c = λ tells rs at.
    subst (λ (d : DefineValue). Moments g.D.Disk.moment g.D.Disk.may_leave g.D.Disk.left_since c.args.disk.now c.define.new.disk (stands_full_before_or_after g.N.Node g.N.ScriptNode.planned rs (definition d))) c.ask.view_is
    (c.define.ensures.any_moment tells rs at)

pub returns-in-Ok-clause-reply : goal.returns-in-Ok-clause-reply
returns-in-Ok-clause-reply g c =
    let before = g.P.Patterns.refusals c.args.pats.now in
    let after = g.P.Patterns.refusals c.define.new.pats in
    let refused = g.P.Patterns.refused c.define.new.pats in
    let tasks = c.args.engine.now.store.kept.tasks in
    let reply = c.task_reply.result in
    subst (λ (d : DefineValue). IsReplyToDefinition before after refused tasks d reply ⊎ IsFailed reply.status) c.ask.view_is
    (defined_due before after refused tasks _ reply c.in-Ok.ensures.could c.task_reply.ensures)

pub returns-in-Ok-clause-instead : goal.returns-in-Ok-clause-instead
returns-in-Ok-clause-instead g c = λ is.
    subst (λ (d : DefineValue). CanBeDefined c.args.engine.now.store.kept.tasks d.id d.script) c.ask.view_is c.in-Ok.ensures.could

pub returns-in-Err-clause-reply : goal.returns-in-Err-clause-reply
returns-in-Err-clause-reply g c =
    let before = g.P.Patterns.refusals c.args.pats.now in
    let after = g.P.Patterns.refusals c.define.new.pats in
    let refused = g.P.Patterns.refused c.define.new.pats in
    let tasks = c.args.engine.now.store.kept.tasks in
    let reply = c.fault_reply.result in
    subst (λ (d : DefineValue). IsReplyToDefinition before after refused tasks d reply ⊎ IsFailed reply.status) c.ask.view_is
    (none_defined before after refused tasks _ c.in-Err.fault reply c.in-Err.ensures.why c.in-Err.ensures.rose c.fault_reply.ensures)

pub returns-in-Err-clause-instead : goal.returns-in-Err-clause-instead
returns-in-Err-clause-instead g c = λ is.
    subst (λ (d : DefineValue). CanBeDefined c.args.engine.now.store.kept.tasks d.id d.script) c.ask.view_is
    (none_instead (g.P.Patterns.refusals c.args.pats.now) (g.P.Patterns.refusals c.define.new.pats) (g.P.Patterns.refused c.define.new.pats) c.args.engine.now.store.kept.tasks (record { id = c.ask.inside.id; script = c.ask.inside.script; enabled = c.ask.inside.enabled }) c.in-Err.fault c.fault_reply.result c.in-Err.ensures.why c.fault_reply.ensures is)

pub returns-in-Err-clause-any_moment : goal.returns-in-Err-clause-any_moment
returns-in-Err-clause-any_moment g c = λ tells rs at.
    subst (λ (d : DefineValue). Moments g.D.Disk.moment g.D.Disk.may_leave g.D.Disk.left_since c.args.disk.now c.define.new.disk (stands_full_before_or_after g.N.Node g.N.ScriptNode.planned rs (definition d))) c.ask.view_is
    (c.define.ensures.any_moment tells rs at)
