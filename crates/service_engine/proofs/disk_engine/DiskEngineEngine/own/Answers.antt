use denote.Exit.{no}
use denote.Param.Send.{arg_send, param_send}
use Rattle.node_set.proofs.Crossing.{AnyNode_send}
use Rattle.service_engine.proofs.ReadLaws.{own_last}
use Rattle.service_engine.proofs.disk_engine.DiskEngineEngine.own.Goals as goal

pub own_in-requires-send-N : goal.own_in-requires-send-N
own_in-requires-send-N g c κs = param_send 0 _ (arg_send _ no _ AnyNode_send)

pub returns-clause-last : goal.returns-clause-last
returns-clause-last g c = λ r unspent store l.
    own_last _ _ _ _ _ c.args.self.now.engine r unspent store l c.own_in.result.now c.own_in.ensures
