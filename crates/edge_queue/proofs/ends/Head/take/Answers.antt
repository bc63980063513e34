use Rattle.std.proofs.Common.{refl}
use Rattle.edge_queue.proofs.TakeLaws.{taken}
use Rattle.edge_queue.proofs.ends.Head.take.Goals as goal

pub returns-clause-taken : goal.returns-clause-taken
returns-clause-taken c = rw c.ok.ensures.value (taken _ c.pop.result c.args.self.now _ c.pop.ensures.ring refl c.args.self.now.grown c.pop.ensures.ok)
