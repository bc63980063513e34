use Rattle.http_dialog.proofs.DriveLaws.{starts}
use Rattle.conn_future.proofs.conn.Conn.new.Goals as goal

pub returns-clause-goes : goal.returns-clause-goes
returns-clause-goes g c s = starts c.args.number (g.L.TryLink.left c.args.link) s (g.L.TryLink.written c.args.link) c.new.result (c.new.ensures.goes c.args.number)
