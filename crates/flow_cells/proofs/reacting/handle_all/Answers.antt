use Rattle.std.proofs.Common.{◌≡◌, ◌<◌, ◌≤◌, ◌∙◌, length, refl, arith}
use Rattle.merge_node.proofs.BufferLaws.{next-some, next-less}
use Rattle.flow_cells.specs.Handled.{Waits}
use Rattle.flow_cells.specs.HandledLaws.{Handles-none, Handles-more}
use Rattle.flow_cells.proofs.OutLaws.{Waits-refl, Waits-trans, zip-refl, zip-trans}
use Rattle.flow_cells.proofs.reacting.handle_all.Goals as goal

pub handling-init : goal.handling-init
handling-init g c = record {
  outs = zip-refl Waits Waits-refl c.args.core.now.outs.items;
  handles = Handles-none g.N.Node c.args.core.now c.args.buffer.now;
  parents = refl;
  gathered = refl;
}

pub react-requires : goal.react-requires
react-requires g c =
    let t = next-some c.handling.buffer c.next.new.self c.in-Some.parent c.in-Some.msg c.in-Some.ensures.gives c.in-Some.ensures.left in
    let less = next-less c.handling.buffer _ t in
    let within : c.in-Some.parent < length c.handling.buffer = less.within in
    let bound : length c.args.buffer.now ≤ g.N.Node.ports (g.N.Node.spec c.args.core.now.node) = c.requires in
    let same : length c.handling.buffer ≡ length c.args.buffer.now = c.handling.invariant.parents in
    rw c.handling.invariant.handles.spec (omega (arith, within, bound, same))

pub handling-smaller : goal.handling-smaller
handling-smaller g c =
    let t = next-some c.handling.buffer c.next.new.self c.in-Some.parent c.in-Some.msg c.in-Some.ensures.gives c.in-Some.ensures.left in
    (next-less c.handling.buffer _ t).fewer

pub handling-preserved : goal.handling-preserved
handling-preserved g c =
    let t = next-some c.handling.buffer c.next.new.self c.in-Some.parent c.in-Some.msg c.in-Some.ensures.gives c.in-Some.ensures.left in
    record {
      outs = zip-trans Waits Waits-trans _ c.handling.core.outs.items _ c.handling.invariant.outs c.in_ok-react.ensures.outs;
      handles = Handles-more g.N.Node c.args.core.now c.handling.core c.args.buffer.now c.handling.buffer c.next.new.self c.in-Some.parent c.in-Some.msg c.react.new.self
          c.handling.invariant.handles t c.in_ok-react.ensures.spec c.in_ok-react.ensures.keeps c.in_ok-react.ensures.reacts;
      parents = (next-less c.handling.buffer _ t).parents ∙ c.handling.invariant.parents;
      gathered = c.in_ok-react.ensures.gathered ∙ c.handling.invariant.gathered;
    }
