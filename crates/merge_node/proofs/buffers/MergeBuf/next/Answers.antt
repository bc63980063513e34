use Rattle.std.proofs.Common.{◌≡◌, ◌∙◌, ◌<◌, length, Option, ap, subst, sym}
use Rattle.std.specs.Prelude.{◌↔◌, IsNone, IsTrue}
use Rattle.merge_node.specs.Merge.{Lists, Entry}
use Rattle.merge_node.specs.Buffers.{has_empty, next, said}
use Rattle.merge_node.proofs.FrontLaws.{none_where_empty}
use Rattle.merge_node.proofs.buffers.MergeBuf.next.Goals as goal

pub returns-clause-none : goal.returns-clause-none
returns-clause-none c =
    let lists : c.self.inside.buffers.items ≡ c.args.self.now = c.self.view_is in
    let some : 0 < length c.args.self.now = subst (λ (ls : Lists). 0 < length ls) lists c.self.invariant.0 in
    let gives : c.take_next.result ≡ said (next c.args.self.now) =
    c.take_next.ensures.gives ∙ ap (λ (ls : Lists). said (next ls)) (c.deref_mut.ensures.value ∙ lists) in
    subst (λ (o : Option Entry). IsNone o ↔ IsTrue (has_empty c.args.self.now)) (sym gives) (none_where_empty c.args.self.now some)
