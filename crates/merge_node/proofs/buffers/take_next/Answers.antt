use Rattle.std.proofs.Common.{◌∙◌, sym, ap}
use Rattle.merge_node.specs.Buffers.{left_of, said}
use Rattle.merge_node.proofs.FrontLaws.{looked_empty, looked_full}
use Rattle.merge_node.proofs.buffers.take_next.Goals as goal

pub returns-in_default-clause-gives : goal.returns-in_default-clause-gives
returns-in_default-clause-gives c = sym (ap said (looked_empty c.args.buffers.now c.in_default.ensures))

pub returns-in_default-clause-left : goal.returns-in_default-clause-left
returns-in_default-clause-left c = sym (ap (λ o. left_of o c.args.buffers.now) (looked_empty c.args.buffers.now c.in_default.ensures))

pub take_found-requires-clause-within : goal.take_found-requires-clause-within
take_found-requires-clause-within c = (looked_full c.args.buffers.now c.in-Some.best c.in-Some.ensures).within

pub returns-clause-gives : goal.returns-clause-gives
returns-clause-gives c = c.take_found.ensures.gives ∙ sym (ap said (looked_full c.args.buffers.now c.in-Some.best c.in-Some.ensures).next)

pub returns-clause-left : goal.returns-clause-left
returns-clause-left c = c.take_found.ensures.left ∙ sym (ap (λ o. left_of o c.args.buffers.now) (looked_full c.args.buffers.now c.in-Some.best c.in-Some.ensures).next)
