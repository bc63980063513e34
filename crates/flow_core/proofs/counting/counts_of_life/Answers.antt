use Rattle.std.proofs.Common.{◌≡◌, ◌<◌, ℕ, suc, List, [], ◌∷◌, ◌++◌, length, take, ap, ◌∙◌, arith}
use Rattle.flow_core.proofs.CountLaws.{counted_more}
use Rattle.flow_core.specs.Drops.{drops_of}
use Rattle.flow_core.proofs.counting.counts_of_life.Goals as goal

pub counting-preserved : goal.counting-preserved
counting-preserved g c =
    let node = g.N.Node in
    let cells = c.args.life.now.cells in
    let n = c.counting.cell in
    let lt : n < length cells = omega arith in
    let next : suc n ≡ c.in-Some.next = omega arith in
    record {
      within = omega arith;
      counted = c.in_ok-push.ensures.ok
          ∙ ap (λ (ns : List ℕ). ns ++ c.dropped.result ∷ []) c.counting.invariant.counted
          ∙ counted_more (λ p. node.drops (node.state p.core.node)) cells n c.dropped.result lt c.dropped.ensures
          ∙ ap (λ (m : ℕ). drops_of node (take m cells)) next;
    }
