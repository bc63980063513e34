use Rattle.topic_store.proofs.store.Store.add_batch.Goals as goal

pub returns-clause-any_moment : goal.returns-clause-any_moment
returns-clause-any_moment g c = rw (← c.self.view_is) (λ tells rs on. c.add_points.ensures.any_moment tells rs on)
