use Rattle.std.proofs.Common.{◌∙◌, []}
use Rattle.node_core.proofs.CutLaws.{after_up_to}
use Rattle.node_core.proofs.RunLaws.{ran_more, later_ports}
use Rattle.node_core.proofs.runs.run.Goals as goal

pub feeding-preserved : goal.feeding-preserved
feeding-preserved g c =
    let node = g.N.Node in
    let p = node.spec c.args.node.now in
    let same = c.feeding.invariant.spec in record {
      spec = c.in_ok-feed.ensures.spec ∙ same;
      ports = later_ports (node.ports p) c.feeding.port-iterator.rest.items (c.in-Some.port, c.in-Some.item) c.next.new.self.rest.items c.in-Some.ensures.steps.0 c.feeding.invariant.ports;
      ran = ran_more (node.step p) (node.first p) c.feeding.yielded (c.in-Some.port, c.in-Some.item) (node.state c.feeding.node) (node.state c.feed.new.self) c.args.out.now c.feeding.out c.feed.new.out c.args.effects.now c.feeding.effects c.feed.new.effects
          c.feeding.invariant.ran (rw same at c.in_ok-feed.ensures.state) (rw same at c.in_ok-feed.ensures.items) (rw same at c.in_ok-feed.ensures.effects);
    }

pub returns-in_err-feed-clause-up_to : goal.returns-in_err-feed-clause-up_to
returns-in_err-feed-clause-up_to g c = λ s ordered.
    let p = g.N.Node.spec c.args.node.now in
    after_up_to (g.N.Node.life p) (g.N.Node.number p) (g.N.Node.answer p) (λ before x. g.met.N.Node.stamped p before x) s [] c.args.inputs.items ordered

pub returns-clause-up_to : goal.returns-clause-up_to
returns-clause-up_to g c = λ s ordered.
    let p = g.N.Node.spec c.args.node.now in
    after_up_to (g.N.Node.life p) (g.N.Node.number p) (g.N.Node.answer p) (λ before x. g.met.N.Node.stamped p before x) s [] c.args.inputs.items ordered
