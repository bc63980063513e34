use Rattle.std.proofs.Common.{length, rules}
use Rattle.conn_loop.proofs.ServingLaws.{may_behind}
use Rattle.conn_loop.proofs.serving.serve_once.Goals as goal

pub returns : goal.returns
returns g c =
    let d = g.B.TryDoor.faults c.accept_all.new.door in
    let before = c.accept_all.ensures.cause in
    let many = length c.go_on.new.held.links in
    record {
      added = search rules;
      counts = c.accept_all.ensures.counts;
      cause = may_behind (g.B.TryDoor.faults c.args.door.now) d d (g.Y.Ready.faults c.args.ready.now)
          (g.Y.Ready.faults c.accept_all.new.ready) (g.Y.Ready.faults c.go_on.new.ready) c.accept_all.new.serving.links
          many c.accept_all.new.serving.closed c.go_on.result before.later before.ready_later
          (c.go_on.ensures.cause d c.accept_all.new.serving.links many c.accept_all.new.serving.closed);
    }
