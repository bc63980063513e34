use Rattle.socket_service.specs.Ends.{EndsThread}
use Rattle.socket_service.proofs.EndLaws.{ends_by, ends_unshared}
use Rattle.socket_service.proofs.single.serve_from_one.Goals as goal

pub returns-in-Err : goal.returns-in-Err
returns-in-Err g c =
    let left = c.in-Err.left in
    let told = c.unshared_by.result in
    ends_unshared g.E.Engine.value g.E.Engine.right g.E.Engine.leaves EndsThread c.args.engine left.fault left.engine
    told.fault told.engine c.unshared_by.ensures.fault c.unshared_by.ensures.engine c.in-Err.ensures.same
    c.in-Err.ensures.disk c.in-Err.ensures.store

pub returns : goal.returns
returns g c =
    let told = c.ended_by.result in
    ends_by g.E.Engine.value g.E.Engine.right g.E.Engine.leaves EndsThread c.args.engine c.in-Err-serve_from.fault
    told.fault told.engine c.ended_by.ensures.fault c.ended_by.ensures.engine c.in-Err-serve_from.ensures
