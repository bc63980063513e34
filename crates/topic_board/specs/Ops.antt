-- What readers see once operations were handed to them.
use Rattle.std.specs.Prelude.{List, fold}
use Rattle.topic_core.specs.declared.transition.Transition.{Transition}

-- the transitions of the last of these operations, and these transitions where there are no operations
abbrev pub last_of : {O : Type 0} → (O → List Transition) → List Transition → List O → List Transition
last_of list xs ops = fold (λ ys op. list op) xs ops
