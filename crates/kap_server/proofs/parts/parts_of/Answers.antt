use Rattle.std.proofs.Common.{◌≡◌, map, take, ap, subst, sym, ◌∙◌}
use Rattle.task_run.specs.Plans.{AreFirstStates, graph_of}
use Rattle.flow_core.specs.Gathering.{LivesRise}
use Rattle.kap_server.specs.Parts.{first_run}
use Rattle.kap_server.proofs.BesideLaws.{CanBegin, can_behind, can_first, had_parted, lives_parted}
use Rattle.kap_server.proofs.parts.parts_of.Goals as goal

pub part_of-requires-clause-first : goal.part_of-requires-clause-first
part_of-requires-clause-first g c κs within =
    let node = g.N.Node in
    subst (AreFirstStates node.spec node.state node.first) (sym c.in_ok-behind.ensures.items) (can_first node.spec node.state node.first node.life node.number c.args.size c.parting.rest.items c.parting.invariant.can).begin

pub part_of-requires-clause-rise : goal.part_of-requires-clause-rise
part_of-requires-clause-rise g c κs within =
    let node = g.N.Node in
    subst (λ plans. LivesRise node.life node.number 1 (map (graph_of node.spec) plans)) (sym c.in_ok-behind.ensures.items) (can_first node.spec node.state node.first node.life node.number c.args.size c.parting.rest.items c.parting.invariant.can).rise

pub parting-preserved : goal.parting-preserved
parting-preserved g c =
    let node = g.N.Node in
    let rest = c.parting.rest.items in
    let part = c.in_ok-part_of.field-0 in
    let is : part.run ≡ first_run c.args.capacity (map (graph_of node.spec) (take c.args.size rest)) = c.in_ok-part_of.ensures ∙ ap (λ plans. first_run c.args.capacity (map (graph_of node.spec) plans)) c.in_ok-behind.ensures.items in
    record {
      can = subst (CanBegin node.spec node.state node.first node.life node.number) (sym c.in_ok-behind.ensures.tail) (can_behind node.spec node.state node.first node.life node.number c.args.size rest c.parting.invariant.can);
      lives = rw (c.in_ok-push.ensures.items, c.in_ok-behind.ensures.tail) (lives_parted node.spec node.state node.first node.life node.number (λ part. part.run) c.args.capacity c.args.size c.parting.parts.items part rest is ∙ c.parting.invariant.lives);
      had = rw c.in_ok-push.ensures.items (had_parted node.spec node.state node.first node.life node.number (λ part. part.run) c.args.capacity c.parting.parts.items part _ is c.parting.invariant.had);
    }
