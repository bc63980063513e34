-- What is seen of a new node, where one is made.
use Rattle.std.specs.Prelude.{◌≡◌, Result, Ok, Err, IfOk}
use Rattle.kap_base.specs.declared.memory.NoMemory.{NoMemory}
use Rattle.node_set.specs.declared.kinds.AnyNode.{AnyNode}
use Rattle.node_set.specs.Kinds.{IsNew, any, spec_of, state_of}
use Rattle.node_set.specs.Nodes.{AnySpec}

-- it has the spec
pub has_spec : (made : Result AnyNode NoMemory) (at : AnySpec) → IfOk made (λ n. IsNew n at) → IfOk made (λ n. spec_of n ≡ at)
has_spec (Ok n) at h = h.spec_is
has_spec (Err e) at h = tt

-- and is in that one's first state
pub is_first : (made : Result AnyNode NoMemory) (at : AnySpec) → IfOk made (λ n. IsNew n at) → IfOk made (λ n. state_of n ≡ any.first at)
is_first (Ok n) at h = h.state_is
is_first (Err e) at h = tt
