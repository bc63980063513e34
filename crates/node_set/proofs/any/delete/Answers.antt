use Rattle.node_set.proofs.any.delete.Goals as goal

pub returns-in-Ok : goal.returns-in-Ok
returns-in-Ok c = rw (← c.in-Ok.ensures) c.point.ensures
