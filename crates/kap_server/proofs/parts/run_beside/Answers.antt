use denote.Exit.{no}
use denote.Param.{param}
use denote.Param.Send.{param_send, arg_send}
use Rattle.std.proofs.Common.{◌≡◌, false}
use Rattle.node_workers.proofs.WorkerLaws.{zip_by}
use Rattle.kap_server.specs.Parts.{HasTold}
use Rattle.kap_server.proofs.BesideLaws.{carried}
use Rattle.kap_server.proofs.Crossing.{Part_send}
use Rattle.kap_server.proofs.parts.run_beside.Goals as goal

pub for_each_mut-requires-send-T : goal.for_each_mut-requires-send-T
for_each_mut-requires-send-T g c κs within = param_send 1 _ (arg_send _ no _ (Part_send _ (param 3 g.row.N-Spec) (param 4 g.row.N-State) g.N.Node c.type_bounds.send-N))

pub returns : goal.returns
returns g c =
    zip_by (λ p q. q.failed ≡ false → HasTold g.N.Node.answer c.args.names.now c.args.points.now.items p.run q.run q.told) c.args.parts.now c.for_each_mut.new.s c.for_each_mut.auto.s (λ i d within.
    let k = (c.for_each_mut.ensures i d within).1 in
    carried k.argument_is k.left (λ p q. q.failed ≡ false → HasTold g.N.Node.answer c.args.names.now c.args.points.now.items p.run q.run q.told) k.call)
