use Rattle.kap_engine.proofs.LineLaws.{points_are_of}
use Rattle.kap_server.proofs.writing.read_points.Goals as goal

pub returns-in-Ok-clause-of : goal.returns-in-Ok-clause-of
returns-in-Ok-clause-of g c = points_are_of c.args.db.now c.args.rp.now c.args.mode.now c.as_slice.result.now c.in-Ok.points c.in-Ok.ensures.points
