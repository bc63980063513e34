use Rattle.conn_loop.specs.Links.{telling}
use Rattle.conn_loop.proofs.HistoryLaws.{begun, turned_so}
use Rattle.conn_loop.proofs.laws.many_links.Goals as goal

pub returns-clause-added : goal.returns-clause-added
returns-clause-added g c =
    begun (telling g.L.TryLink.left g.L.TryLink.written g.L.TryLink.read_faults g.L.TryLink.write_faults g.L.TryLink.waits)

pub returns-clause-turned : goal.returns-clause-turned
returns-clause-turned g c origins ready s t old still finished turned all =
    turned_so (telling g.L.TryLink.left g.L.TryLink.written g.L.TryLink.read_faults g.L.TryLink.write_faults g.L.TryLink.waits)
    origins ready s t old still finished turned all
