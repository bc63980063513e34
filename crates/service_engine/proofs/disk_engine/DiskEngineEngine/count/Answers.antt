use denote.Exit.{no}
use denote.Param.Send.{arg_send, param_send}
use Rattle.node_set.proofs.Crossing.{AnyNode_send}
use Rattle.service_engine.proofs.ReadLaws.{counts_stored}
use Rattle.service_engine.proofs.disk_engine.DiskEngineEngine.count.Goals as goal

pub count_in-requires-send-N : goal.count_in-requires-send-N
count_in-requires-send-N g c κs = param_send 0 _ (arg_send _ no _ AnyNode_send)

pub returns : goal.returns
returns g c = λ r unspent store l.
    counts_stored _ _ _ _ _ c.args.self.now.engine r unspent store l c.count_in.result c.count_in.ensures
