use Rattle.std.proofs.Common.{◌≡◌, List, true, Err, inr, sym, ap, subst, rules}
use Rattle.std.specs.Prelude.{IfSome}
use Rattle.kap_http.specs.AskValues.{TaskValue}
use Rattle.kap_io.specs.Moments.{Moments}
use Rattle.store_records.specs.Held.{task_of}
use Rattle.store_records.specs.declared.task.StoredTask.{StoredTask}
use Rattle.engine_store.specs.Asking.{IsScript}
use Rattle.reply_bodies.specs.Asks.{IsFailed, is_changing_act, is_done}
use Rattle.reply_bodies.specs.Bodies.{IsDueOrShort}
use Rattle.engine_asks.specs.Nexts.{before_or_acted}
use Rattle.engine_asks.specs.Replies.{reply_to_act}
use Rattle.engine_asks.proofs.FaultLaws.{acted_cause, acted_failed, done_instead}
use Rattle.engine_asks.proofs.changing.act.Goals as goal

pub returns-in-Ok-clause-any_moment : goal.returns-in-Ok-clause-any_moment
returns-in-Ok-clause-any_moment g c = λ tells rs at.
    subst (λ (t : TaskValue). Moments g.D.Disk.moment g.D.Disk.may_leave g.D.Disk.left_since c.args.disk.now c.perform.new.disk (before_or_acted g.N.Node g.N.ScriptNode.planned rs t.id t.act)) c.ask.view_is
    (c.perform.ensures.any_moment tells rs at)

pub returns-in-Err-clause-any_moment : goal.returns-in-Err-clause-any_moment
returns-in-Err-clause-any_moment g c = λ tells rs at.
    subst (λ (t : TaskValue). Moments g.D.Disk.moment g.D.Disk.may_leave g.D.Disk.left_since c.args.disk.now c.perform.new.disk (before_or_acted g.N.Node g.N.ScriptNode.planned rs t.id t.act)) c.ask.view_is
    (c.perform.ensures.any_moment tells rs at)

-- ---- nothing is done: the store failed, or memory ran out

pub returns-in-Err-clause-reply : goal.returns-in-Err-clause-reply
returns-in-Err-clause-reply g c =
    let tasks = c.args.engine.now.store.kept.tasks in
    let tasks_are : c.tasks.result.now ≡ tasks = search rules in
    let given : IsDueOrShort (reply_to_act c.ask.inside.act (task_of c.ask.inside.id tasks)) c.reply_of-reply.result =
    subst (λ (ts : List StoredTask). IsDueOrShort (reply_to_act c.ask.inside.act (task_of c.ask.inside.id ts)) c.reply_of-reply.result) tasks_are c.reply_of-reply.ensures in
    let done : is_done c.reply_of-reply.result.status ≡ true = search rules in
    let failed : IsFailed c.fault_reply.result.status =
    acted_failed _ _ _ _ _ tasks c.ask.inside.act c.in-Err.fault c.reply_of-reply.result c.fault_reply.result c.in-Err.ensures.why given done c.fault_reply.ensures in
    inr failed

pub returns-in-Err-clause-still : goal.returns-in-Err-clause-still
returns-in-Err-clause-still g c = λ refused told.
    let tasks = c.args.engine.now.store.kept.tasks in
    let tasks_are : c.tasks.result.now ≡ tasks = search rules in
    let given : IsDueOrShort (reply_to_act c.ask.inside.act (task_of c.ask.inside.id tasks)) c.reply_of-reply.result =
    subst (λ (ts : List StoredTask). IsDueOrShort (reply_to_act c.ask.inside.act (task_of c.ask.inside.id ts)) c.reply_of-reply.result) tasks_are c.reply_of-reply.ensures in
    let done : is_done c.reply_of-reply.result.status ≡ true = search rules in
    let failed : IsFailed c.fault_reply.result.status =
    acted_failed _ _ _ _ _ tasks c.ask.inside.act c.in-Err.fault c.reply_of-reply.result c.fault_reply.result c.in-Err.ensures.why given done c.fault_reply.ensures in
    absurd (told failed)

pub returns-in-Err-clause-usable : goal.returns-in-Err-clause-usable
returns-in-Err-clause-usable g c = λ told.
    let tasks = c.args.engine.now.store.kept.tasks in
    let tasks_are : c.tasks.result.now ≡ tasks = search rules in
    let given : IsDueOrShort (reply_to_act c.ask.inside.act (task_of c.ask.inside.id tasks)) c.reply_of-reply.result =
    subst (λ (ts : List StoredTask). IsDueOrShort (reply_to_act c.ask.inside.act (task_of c.ask.inside.id ts)) c.reply_of-reply.result) tasks_are c.reply_of-reply.ensures in
    let done : is_done c.reply_of-reply.result.status ≡ true = search rules in
    let failed : IsFailed c.fault_reply.result.status =
    acted_failed _ _ _ _ _ tasks c.ask.inside.act c.in-Err.fault c.reply_of-reply.result c.fault_reply.result c.in-Err.ensures.why given done c.fault_reply.ensures in
    absurd (told failed)

pub returns-in-Err-clause-instead : goal.returns-in-Err-clause-instead
returns-in-Err-clause-instead g c = λ is.
    let tasks = c.args.engine.now.store.kept.tasks in
    let tasks_are : c.tasks.result.now ≡ tasks = search rules in
    let given : IsDueOrShort (reply_to_act c.ask.inside.act (task_of c.ask.inside.id tasks)) c.reply_of-reply.result =
    subst (λ (ts : List StoredTask). IsDueOrShort (reply_to_act c.ask.inside.act (task_of c.ask.inside.id ts)) c.reply_of-reply.result) tasks_are c.reply_of-reply.ensures in
    let done : is_done c.reply_of-reply.result.status ≡ true = search rules in
    subst (λ (t : TaskValue). (is_changing_act t.act ≡ true) × (is_done (reply_to_act t.act (task_of t.id tasks)).status ≡ true)) c.ask.view_is
    (c.in-Err.ensures.changing, done_instead c.ask.inside.act (task_of c.ask.inside.id tasks) c.reply_of-reply.result given done)

pub returns-in-Err-clause-any_cause : goal.returns-in-Err-clause-any_cause
returns-in-Err-clause-any_cause g c = λ script is.
    let tasks = c.args.engine.now.store.kept.tasks in
    let here : IfSome (task_of c.ask.inside.id tasks) (λ task. IsScript task.script) =
    subst (λ (t : TaskValue). IfSome (task_of t.id tasks) (λ task. IsScript task.script)) (sym c.ask.view_is) script in
    acted_cause _ _ _ _ _ tasks c.scripts_have_one_answer.ensures.apart here c.in-Err.fault c.fault_reply.result c.in-Err.ensures.why
    (λ e. c.in-Err.ensures.cause.failed (ap Err e)) c.fault_reply.ensures is
