use Rattle.std.proofs.Common.{◌≡◌, Option, false, subst, sym}
use Rattle.kap_engine.specs.Engines.{EngineValue}
use Rattle.topic_store.specs.Stores.{IsOn, StoreState}
use Rattle.service_engine.specs.Engines.{IsRight, is_spent}
use Rattle.service_engine.proofs.ReadLaws.{read_of_each, right_quiet}
use Rattle.service_engine.proofs.reading.read_behind.Goals as goal

pub returns-clause-behind : goal.returns-clause-behind
returns-clause-behind g c = λ r.
    let seen = g.D.Disk.seen c.args.disk.now in
    let images = g.D.Disk.may_leave c.args.disk.now in
    let at = subst (IsRight g.N.Node g.N.ScriptNode.planned g.D.Disk.tells seen images) c.in-Some.is r in
    let unspent = subst (λ (e : Option (EngineValue g.row.N.Denot)). is_spent e ≡ false) c.in-Some.is c.requires.unspent in
    let over = at.over unspent in
    let on = subst (λ (s : StoreState). IsOn over.records seen images s) (sym c.store.ensures) over.engine.on in
    read_of_each g.N.Node g.N.ScriptNode.planned g.D.Disk.tells seen images c.read_store.result c.in-Some.engine over
    c.args.after (c.read_store.ensures.behind at.told over.records on)

pub returns-clause-right : goal.returns-clause-right
returns-clause-right g c = λ r.
    right_quiet g.N.Node g.N.ScriptNode.planned g.D.Disk.tells g.D.Disk.seen g.D.Disk.moment g.D.Disk.may_leave
    g.D.Disk.left_since c.args.disk.now c.read_store.new.disk (c.read_store.ensures.quiet r.told) c.args.engine.now r
