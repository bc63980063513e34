use Rattle.service_engine.proofs.OpenLaws.{each_opened, made_again, over_opened}
use Rattle.service_engine.proofs.making.open_by.Goals as goal

pub returns-clause-patterns : goal.returns-clause-patterns
returns-clause-patterns g c = λ told each part offset is.
    let now = each (g.D.Disk.seen c.args.disk.now) (g.met.D.Disk.reads_as c.args.disk.now told) in
    c.make_engine.ensures.rose told now.records now.stands now.good part offset is

pub returns-clause-each : goal.returns-clause-each
returns-clause-each g c = λ told each.
    let now = each (g.D.Disk.seen c.args.disk.now) (g.met.D.Disk.reads_as c.args.disk.now told) in
    each_opened g.N.Node g.N.ScriptNode.planned now.records (g.D.Disk.may_leave c.args.disk.now)
    (g.D.Disk.may_leave c.make_engine.new.disk) each
    (c.make_engine.ensures.any_moment told now.records now.stands now.good).now

pub returns-clause-over : goal.returns-clause-over
returns-clause-over g c = λ told each.
    let now = each (g.D.Disk.seen c.args.disk.now) (g.met.D.Disk.reads_as c.args.disk.now told) in
    over_opened g.N.Node g.N.ScriptNode.planned now.records (g.D.Disk.seen c.make_engine.new.disk)
    (g.D.Disk.may_leave c.make_engine.new.disk) c.make_engine.result c.make_engine.ensures.stored
    (c.make_engine.ensures.made told now.records now.stands now.good)

pub returns-clause-stores : goal.returns-clause-stores
returns-clause-stores g c = λ told each.
    let reads = g.met.D.Disk.reads_as c.args.disk.now told in
    let now = each (g.D.Disk.seen c.args.disk.now) reads in
    made_again g.N.Node g.N.ScriptNode.planned now.records (g.D.Disk.seen c.args.disk.now)
    (g.D.Disk.may_leave c.args.disk.now) (g.D.Disk.may_leave c.make_engine.new.disk) reads now.stands
    (c.make_engine.ensures.any_moment told now.records now.stands now.good).now
