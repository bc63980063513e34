use Rattle.topic_store.proofs.store.Store.add.Goals as goal

pub returns-clause-any_moment : goal.returns-clause-any_moment
returns-clause-any_moment g c = rw (← c.self.view_is) (λ tells rs may on. c.add_record.ensures.any_moment tells rs may on)
