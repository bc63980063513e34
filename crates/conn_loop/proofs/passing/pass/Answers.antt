use Rattle.std.proofs.Common.{length, ap, ◌∙◌, arith}
use Rattle.conn_loop.specs.Links.{telling}
use Rattle.conn_loop.proofs.TurnLaws.{none_passed, one_passed}
use Rattle.conn_loop.proofs.passing.pass.Goals as goal

pub passing-init : goal.passing-init
passing-init g c =
    let of = telling g.L.TryLink.left g.L.TryLink.written g.L.TryLink.read_faults g.L.TryLink.write_faults g.L.TryLink.waits in
    record {
      passed = none_passed of c.args.ready.now (g.H.Serve.served c.args.serve.now) c.args.slots.now.items c.args.finished.now.items
          c.len-left.result c.requires.none (c.len-left.ensures ∙ c.args.slots.now.ok.0);
      room = (let size = c.args.finished.now.ok in let none = ap (λ x. length x) c.requires.none in let most = c.requires.room in let all = c.len-left.ensures in omega arith);
    }

pub passing-preserved : goal.passing-preserved
passing-preserved g c =
    let of = telling g.L.TryLink.left g.L.TryLink.written g.L.TryLink.read_faults g.L.TryLink.write_faults g.L.TryLink.waits in
    let i = c.passing.invariant in
    record {
      passed = one_passed of c.args.ready.now (g.H.Serve.served c.args.serve.now) (g.H.Serve.served c.passing.serve)
          (g.H.Serve.served c.pass_first.new.serve) c.args.slots.now.items c.passing.slots.items c.pass_first.new.slots.items
          c.passing.finished.items c.pass_first.new.finished.items c.passing.left c.passing-test.true c.requires.rising i.passed
          c.pass_first.ensures.passed;
      room = (let before = i.room in let len = c.pass_first.ensures.len in let same = c.pass_first.ensures.capacity in let some = c.passing-test.true in omega arith);
    }
