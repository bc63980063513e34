use Rattle.node_set.proofs.any.from.Goals as goal

pub returns-in-Ok : goal.returns-in-Ok
returns-in-Ok c = rw (← c.in-Ok.ensures) c.group.ensures
