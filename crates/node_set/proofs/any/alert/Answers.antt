use Rattle.node_set.proofs.any.alert.Goals as goal

pub returns-in-Ok : goal.returns-in-Ok
returns-in-Ok c = rw (← c.in-Ok.ensures) c.alert_by.ensures
