use Rattle.std.proofs.Common.{◌≡◌, ◌∙◌, ℕ, List, [], length, replicate, sym, ap, subst}
use Rattle.flow_cells.specs.declared.parts.InEdge.{InEdge}
use Rattle.flow_cells.specs.Made.{one_or_more}
use Rattle.merge_node.specs.Merge.{Lists}
use Rattle.std.specs.List.{AllByRecursion as Each}
use Rattle.flow_cells.specs.Made.{IsNothing}
use Rattle.flow_cells.proofs.MadeLaws.{made-keeps, nothing-buffered, nothing-received}
use Rattle.flow_cells.proofs.making.make.Goals as goal

pub returns-clause-keeps : goal.returns-clause-keeps
returns-clause-keeps g c =
    let ins = c.args.ins.items in
    let parents : c.parents_of.result ≡ one_or_more (length ins) = c.parents_of.ensures ∙ ap (λ (es : List InEdge). one_or_more (length es)) c.deref.ensures.value in
    let buffer : c.in_ok-buffer.buffer ≡ replicate (one_or_more (length ins)) [] = c.in_ok-buffer.ensures ∙ ap (λ (n : ℕ). replicate n []) parents in
    let source : c.of-source.result.value.items ≡ [] = ap (λ v. v.items) c.of-source.ensures ∙ c.new-none.ensures.items in
    made-keeps g.N.Node c.args.passed.0 c.args.node c.make_core-core.result c.of-base.result.value ins c.of-source.result.value.items c.in_ok-buffer.buffer c.of-base.ensures c.make_core-core.ensures
    c.requires.fresh source buffer c.requires.ports

pub returns-clause-nothing : goal.returns-clause-nothing
returns-clause-nothing g c =
    let source : c.of-source.result.value.items ≡ [] = ap (λ v. v.items) c.of-source.ensures ∙ c.new-none.ensures.items in
    nothing-received c.args.ins.items c.of-source.result.value.items c.requires.fresh source

pub returns-clause-empty : goal.returns-clause-empty
returns-clause-empty g c = subst (λ (ls : Lists). Each IsNothing ls) (sym c.in_ok-buffer.ensures) (nothing-buffered c.parents_of.result)
