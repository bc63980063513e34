use Rattle.std.proofs.Common.{ℕ, List, subst, ◌∙◌}
use Rattle.std.specs.FinMap.{from_entries, insert}
use Rattle.kap_base.specs.Maps.{byte_order}
use Rattle.topic_core.proofs.TreeLaws.{Copied, copied_more}
use Rattle.topic_core.proofs.text_tree.copy_of.Goals as goal

pub copying-preserved : goal.copying-preserved
copying-preserved g c =
    let all = c.args.tree.now.entries in
    let e : List ℕ × g.row.V.Denot = (c.in-Some.key.now, c.in-Some.value.now) in
    copied_more all c.copying.copy.entries c.put.new.tree.entries e c.next.new.self c.into_iter-key-iterator.ensures.into_iter_gives.5
    (subst (λ (l : List (List ℕ × g.row.V.Denot)). Copied all c.copying.copy.entries l) c.in-Some.ensures.steps c.copying.invariant)
    (c.in_ok-put.ensures.ok ∙ (λ i. insert (from_entries {R = byte_order} c.copying.copy.entries) (c.in_ok-copy.ensures.copy i) (c.in_ok-copy-2.ensures i)))
