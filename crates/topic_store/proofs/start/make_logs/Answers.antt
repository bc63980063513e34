use Rattle.topic_store.proofs.Made.{both_keep_head, left_keeps_head, logs_made}
use Rattle.topic_store.proofs.start.make_logs.Goals as goal

pub returns-in-Err-clause-any_moment : goal.returns-in-Err-clause-any_moment
returns-in-Err-clause-any_moment g c = λ tells.
    left_keeps_head g.D.Disk.moment g.D.Disk.may_leave g.D.Disk.left_since _ _ _ (c.make.ensures.any_moment tells)

pub returns-in-Ok-make-clause-logs : goal.returns-in-Ok-make-clause-logs
returns-in-Ok-make-clause-logs g c = λ tells.
    logs_made _ _ _ _ _ _ c.in-Ok.ensures.log.0 c.in-Ok-make.ensures.log.0 (c.in-Ok.ensures.made tells) (c.in-Ok-make.ensures.made tells) _
    (c.make-2.ensures.elsewhere tells) (c.make-2.ensures.any_moment tells).now

pub returns-in-Ok-make-clause-any_moment : goal.returns-in-Ok-make-clause-any_moment
returns-in-Ok-make-clause-any_moment g c = λ tells.
    both_keep_head g.D.Disk.moment g.D.Disk.may_leave g.D.Disk.left_since _ _ _ _ _ (c.make.ensures.any_moment tells) (c.make-2.ensures.any_moment tells)

pub returns-in-Err-make-clause-any_moment : goal.returns-in-Err-make-clause-any_moment
returns-in-Err-make-clause-any_moment g c = λ tells.
    both_keep_head g.D.Disk.moment g.D.Disk.may_leave g.D.Disk.left_since _ _ _ _ _ (c.make.ensures.any_moment tells) (c.make-2.ensures.any_moment tells)
