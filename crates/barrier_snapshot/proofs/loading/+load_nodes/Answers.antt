use Rattle.std.proofs.lemmas.Result.{err_from_is_err_and}
use Rattle.barrier_snapshot.proofs.LifeLaws.{stops_node, stops_others}
use Rattle.barrier_snapshot.proofs.loading.+load_nodes.Goals as goal

pub returns-in_err-load_node-clause-err : goal.returns-in_err-load_node-clause-err
returns-in_err-load_node-clause-err g t c =
    let p = err_from_is_err_and c.from_residual.result c.from_residual.ensures.1 in
    rw (p.1, p.2) (stops_node g.N.Node c.args.nodes.now c.in-Some.first.now c.in-Some.others.now c.args.from.now _ c.in-Some.ensures.cases.0 c.in_err-load_node.ensures.loads)

pub returns-in_err-load_nodes-clause-err : goal.returns-in_err-load_nodes-clause-err
returns-in_err-load_nodes-clause-err g t c =
    let p = err_from_is_err_and c.from_residual-in_err-load_nodes.result c.from_residual-in_err-load_nodes.ensures.1 in
    rw (p.1, p.2) (stops_others g.N.Node c.args.nodes.now c.in-Some.first.now c.in-Some.others.now c.args.from.now c.load_node.new.from _ _ c.in-Some.ensures.cases.0 c.in_ok-load_node.ensures.loads c.in_err-load_nodes.ensures.err)
