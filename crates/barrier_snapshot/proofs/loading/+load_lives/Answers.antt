use Rattle.barrier_snapshot.proofs.LifeLaws.{loads_then, stops_first, stops_second}
use Rattle.barrier_snapshot.proofs.loading.+load_lives.Goals as goal

pub returns-in-Err-clause-err : goal.returns-in-Err-clause-err
returns-in-Err-clause-err g t c =
    stops_first g.N.Node c.args.rest.rest.items c.in-Some.plan c.next.new.self.rest.items c.args.from.now c.in-Err.fault c.in-Some.ensures.items c.in-Err.ensures.err

pub returns-in-Ok-load_lives-clause-ok : goal.returns-in-Ok-load_lives-clause-ok
returns-in-Ok-load_lives-clause-ok g t c =
    loads_then g.N.Node c.args.rest.rest.items c.in-Some.plan c.in-Ok.life c.next.new.self.rest.items c.args.from.now c.load_life.new.from c.load_lives.new.from c.args.loaded.now.items c.push.new.self.items c.load_lives.new.loaded.items c.in-Some.ensures.items c.in-Ok-push.ensures.items c.in-Ok.ensures.same c.in-Ok.ensures.ok c.in-Ok-load_lives.ensures.ok

pub returns-in-Err-load_lives-clause-err : goal.returns-in-Err-load_lives-clause-err
returns-in-Err-load_lives-clause-err g t c =
    stops_second g.N.Node c.args.rest.rest.items c.in-Some.plan c.next.new.self.rest.items c.args.from.now c.load_life.new.from _ c.in-Err-load_lives.fault c.in-Some.ensures.items c.in-Ok.ensures.ok c.in-Err-load_lives.ensures.err
