use Rattle.topic_store.proofs.Made.{before_head, logs_stay, made, then_head}
use Rattle.topic_store.proofs.start.make_store.Goals as goal

pub returns-in_err-make_logs-clause-any_moment : goal.returns-in_err-make_logs-clause-any_moment
returns-in_err-make_logs-clause-any_moment g c = λ tells.
    before_head g.D.Disk.moment g.D.Disk.may_leave g.D.Disk.left_since _ _ (c.make_logs.ensures.any_moment tells)

pub returns-in-Ok-clause-made : goal.returns-in-Ok-clause-made
returns-in-Ok-clause-made g c = λ tells.
    made (g.D.Disk.seen c.make_head.new.disk) (g.D.Disk.may_leave c.make_head.new.disk)
    (logs_stay (g.D.Disk.seen c.make_logs.new.disk) (g.D.Disk.seen c.make_head.new.disk) (g.D.Disk.may_leave c.make_logs.new.disk)
    (g.D.Disk.may_leave c.make_head.new.disk) (c.in_ok-make_logs.ensures.logs tells) _ (c.make_head.ensures.elsewhere tells)
    (c.make_head.ensures.any_moment tells).now)
    (c.in-Ok.ensures.made tells) (c.in-Ok.ensures.durable tells)

pub returns-in-Ok-clause-any_moment : goal.returns-in-Ok-clause-any_moment
returns-in-Ok-clause-any_moment g c = λ tells.
    then_head g.D.Disk.moment g.D.Disk.may_leave g.D.Disk.left_since (g.D.Disk.seen c.make_logs.new.disk) _ _ c.make_logs.new.disk _
    (c.make_logs.ensures.any_moment tells) (c.in_ok-make_logs.ensures.logs tells) (c.make_head.ensures.any_moment tells)

pub returns-in-Err-clause-any_moment : goal.returns-in-Err-clause-any_moment
returns-in-Err-clause-any_moment g c = λ tells.
    then_head g.D.Disk.moment g.D.Disk.may_leave g.D.Disk.left_since (g.D.Disk.seen c.make_logs.new.disk) _ _ c.make_logs.new.disk _
    (c.make_logs.ensures.any_moment tells) (c.in_ok-make_logs.ensures.logs tells) (c.make_head.ensures.any_moment tells)
