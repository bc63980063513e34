use Rattle.std.proofs.Common.{IfSome, ◌∙◌, [], ◌∷◌, length, subst}
use Rattle.task_run.specs.Courses.{from_first, later_effects}
use Rattle.task_run.specs.Plans.{graph_of}
use Rattle.flow_tests.specs.Captures.{RanBoth}
use Rattle.flow_tests.proofs.captures.goes_on_and_collects.Goals as goal

pub collect_both-all-requires-clause-behind : goal.collect_both-all-requires-clause-behind
collect_both-all-requires-clause-behind g c =
    let ran = subst (λ both. IfSome both (λ nets. RanBoth g.N.Node c.args.plan c.args.points.now c.args.mark nets.0 nets.1)) c.in-Some.is c.in_ok-net.ensures in
    ran.behind

pub collect_both-all-requires-clause-gathered : goal.collect_both-all-requires-clause-gathered
collect_both-all-requires-clause-gathered g c =
    let ran = subst (λ both. IfSome both (λ nets. RanBoth g.N.Node c.args.plan c.args.points.now c.args.mark nets.0 nets.1)) c.in-Some.is c.in_ok-net.ensures in
    ran.gathered

pub collect_both-all-requires-clause-gathered_too : goal.collect_both-all-requires-clause-gathered_too
collect_both-all-requires-clause-gathered_too g c =
    let ran = subst (λ both. IfSome both (λ nets. RanBoth g.N.Node c.args.plan c.args.points.now c.args.mark nets.0 nets.1)) c.in-Some.is c.in_ok-net.ensures in
    ran.gathered_too

pub returns-clause-unspent : goal.returns-clause-unspent
returns-clause-unspent g c =
    let ran = subst (λ both. IfSome both (λ nets. RanBoth g.N.Node c.args.plan c.args.points.now c.args.mark nets.0 nets.1)) c.in-Some.is c.in_ok-net.ensures in
    c.collect_both-all.ensures.unspent ∙ ran.unspent

pub returns-clause-unspent_too : goal.returns-clause-unspent_too
returns-clause-unspent_too g c =
    let ran = subst (λ both. IfSome both (λ nets. RanBoth g.N.Node c.args.plan c.args.points.now c.args.mark nets.0 nets.1)) c.in-Some.is c.in_ok-net.ensures in
    c.collect_both-all.ensures.unspent_too ∙ ran.unspent_too

pub returns-clause-in_order : goal.returns-clause-in_order
returns-clause-in_order g c =
    let node = g.N.Node in
    let points = c.args.points.now in
    let courses = from_first points (graph_of node.spec c.args.plan ∷ []) in
    let ran = subst (λ both. IfSome both (λ nets. RanBoth g.N.Node c.args.plan c.args.points.now c.args.mark nets.0 nets.1)) c.in-Some.is c.in_ok-net.ensures in
    c.collect_both-all.ensures.in_order (later_effects node.answer 0 (length points) courses) (c.epochs_go_on.ensures.rises 0 (length points) 0 courses c.requires.numbers c.requires.rises) ran.did
