-- A node of any kind numbers its effects.
use Rattle.std.proofs.Common.{subst, sym}
use Rattle.node_core.specs.Meaning.{Answer}
use Rattle.flow_core.specs.Gathering.{NumbersEffects}
use Rattle.flow_core.proofs.NumberLaws.{stamped_numbers}
use Rattle.node_set.specs.Kinds.{any}
use Rattle.node_set.specs.Nodes.{AnySpec}

-- its effects with one stamp rise, whatever its kind
pub any_numbers : (spec : AnySpec) → NumbersEffects (any.answer spec)
any_numbers spec =
    subst (λ (answer : Answer). NumbersEffects answer) (sym (any.answers spec))
    (stamped_numbers (any.life spec) (any.number spec) (any.saying spec))
