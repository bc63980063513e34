use denote.Exit.{no}
use denote.Param.{param}
use denote.Param.Send.{param_send, arg_send}
use Rattle.std.specs.List.{AllZip}
use Rattle.flow_life.proofs.Crossing.{Life_send}
use Rattle.node_workers.proofs.Crossing.{Numbered_send}
use Rattle.node_workers.specs.Workers.{HasStoodLife}
use Rattle.node_workers.proofs.WorkerLaws.{zip_at, zip_by}
use Rattle.node_workers.proofs.sharing.split_lives.Goals as goal

pub for_each_chunk_mut-requires-send-T : goal.for_each_chunk_mut-requires-send-T
for_each_chunk_mut-requires-send-T g c κs within = param_send 1 _ (arg_send _ no _ (Numbered_send _ (Life_send _ (param 3 g.row.N-Spec) (param 4 g.row.N-State) _ c.type_bounds.send-N)))

pub returns : goal.returns
returns g c =
    let lives = c.args.lives.now in
    let now = c.for_each_chunk_mut.new.s in
    zip_by (HasStoodLife g.N.Node) lives now c.for_each_chunk_mut.auto.s (λ i d lt.
    let k = (c.for_each_chunk_mut.ensures.by_index i d lt).1 in
    let z : AllZip (HasStoodLife g.N.Node) k.argument.now k.after_call.now = k.call in
    rw (← k.old_element, ← k.new_element) (zip_at (HasStoodLife g.N.Node) k.argument.now k.after_call.now k.offset d k.offset_in_chunk z))
