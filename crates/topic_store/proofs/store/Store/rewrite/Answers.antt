use Rattle.topic_store.proofs.store.Store.rewrite.Goals as goal

pub returns-in-Ok-clause-switched : goal.returns-in-Ok-clause-switched
returns-in-Ok-clause-switched g c = rw (← c.self.view_is) (λ tells rs on run head. c.in-Ok.ensures.switched tells rs on run head)

pub returns-in-Ok-clause-any_moment : goal.returns-in-Ok-clause-any_moment
returns-in-Ok-clause-any_moment g c = rw (← c.self.view_is) (λ tells rs on. c.rewrite_store.ensures.any_moment tells rs on)

pub returns-in-Err-clause-rewritten : goal.returns-in-Err-clause-rewritten
returns-in-Err-clause-rewritten g c = rw (← c.self.view_is) (λ tells rs on. c.in-Err.ensures.rewritten tells rs on)

pub returns-in-Err-clause-any_moment : goal.returns-in-Err-clause-any_moment
returns-in-Err-clause-any_moment g c = rw (← c.self.view_is) (λ tells rs on. c.rewrite_store.ensures.any_moment tells rs on)
