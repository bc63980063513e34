use Rattle.kap_server.proofs.parts.run_epoch.Goals as goal

pub returns-in_ok-read-in-Workers-clause-parts : goal.returns-in_ok-read-in-Workers-clause-parts
returns-in_ok-read-in-Workers-clause-parts g c = rw c.replace-in-Workers.ensures.value at c.in_ok-read-in-Workers.ensures.parts
