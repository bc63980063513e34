use Rattle.std.proofs.Common.{sym, subst}
use Rattle.std.proofs.lemmas.Result.{IfErr-weaker}
use Rattle.kap_io.specs.Moments.{Moments}
use Rattle.kap_engine.specs.Changing.{IsWhyNoneEnabled, IsWhyNoneEnded, stands_full_before_or_after}
use Rattle.kap_server.specs.Changing.{record_of}
use Rattle.kap_server.specs.declared.words.Change.{Change}
use Rattle.kap_server.proofs.ChangeLaws.{ended_why}
use Rattle.kap_server.proofs.changing.make_change.Goals as goal

pub returns-in-Disable-clause-why : goal.returns-in-Disable-clause-why
returns-in-Disable-clause-why g c =
    let before = g.P.Patterns.refusals c.args.pats.now in
    let refused = g.P.Patterns.refused c.args.pats.now in
    let store = c.args.engine.now.store in
    IfErr-weaker c.disable.result (IsWhyNoneEnded c.args.id.now store.kept.tasks) (IsWhyNoneEnabled before before refused store.log.part c.args.id.now store.kept.tasks) (ended_why before before refused store.log.part c.args.id.now store.kept.tasks) c.disable.ensures.why

pub returns-in-Enable-clause-any_moment : goal.returns-in-Enable-clause-any_moment
returns-in-Enable-clause-any_moment g c = λ tells rs at.
    subst (λ (change : Change). Moments g.D.Disk.moment g.D.Disk.may_leave g.D.Disk.left_since c.args.disk.now c.enable.new.disk (stands_full_before_or_after g.N.Node g.N.ScriptNode.planned rs (record_of change c.args.id.now))) (sym c.in-Enable.is)
    (c.enable.ensures.any_moment tells rs at)

pub returns-in-Disable-clause-any_moment : goal.returns-in-Disable-clause-any_moment
returns-in-Disable-clause-any_moment g c = λ tells rs at.
    subst (λ (change : Change). Moments g.D.Disk.moment g.D.Disk.may_leave g.D.Disk.left_since c.args.disk.now c.disable.new.disk (stands_full_before_or_after g.N.Node g.N.ScriptNode.planned rs (record_of change c.args.id.now))) (sym c.in-Disable.is)
    (c.disable.ensures.any_moment tells rs at)

pub returns-in-Delete-clause-any_moment : goal.returns-in-Delete-clause-any_moment
returns-in-Delete-clause-any_moment g c = λ tells rs at.
    subst (λ (change : Change). Moments g.D.Disk.moment g.D.Disk.may_leave g.D.Disk.left_since c.args.disk.now c.delete.new.disk (stands_full_before_or_after g.N.Node g.N.ScriptNode.planned rs (record_of change c.args.id.now))) (sym c.in-Delete.is)
    (c.delete.ensures.any_moment tells rs at)
