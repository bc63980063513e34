-- Words on lists of what is given.
use Rattle.std.specs.Prelude.{ℕ, Bool, if◌then◌else◌, List, [], ◌∷◌, ◌++◌, Option, Some, None, Result, Ok, Err}
use Rattle.tick_compile.specs.declared.node_fault.NodeFault.{NodeFault}
use Rattle.tick_compile.specs.declared.node_fault.NodeFault.TheVariants.{Argument}

-- the only one of a list
abbrev pub only : {A : Type 0} → List A → Option A
only [] = None
only (x ∷ []) = Some x
only (x ∷ y ∷ more) = None

-- the two of a list
abbrev pub two : {A : Type 0} → List A → Option (A × A)
two [] = None
two (x ∷ []) = None
two (x ∷ y ∷ []) = Some (x, y)
two (x ∷ y ∷ z ∷ more) = None

-- both, where both are there
abbrev pub both : {A B : Type 0} → Option A → Option B → Option (A × B)
both None y = None
both (Some x) None = None
both (Some x) (Some y) = Some (x, y)

-- one more in front, where both are there
abbrev pub with_first : {A : Type 0} → Option A → Option (List A) → Option (List A)
with_first None rest = None
with_first (Some x) None = None
with_first (Some x) (Some xs) = Some (x ∷ xs)

-- what each of a list is, where each is something
abbrev pub each : {A B : Type 0} → (A → Option B) → List A → Option (List B)
each f [] = Some []
each f (x ∷ xs) = with_first (f x) (each f xs)

-- these in front, where there is a list
abbrev pub with_front : {A : Type 0} → List A → Option (List A) → Option (List A)
with_front front None = None
with_front front (Some xs) = Some (front ++ xs)

-- what is there, or the fault of the node or the property whose name stands at this place
abbrev pub needed : {A : Type 0} → ℕ → Option A → Result A NodeFault
needed at None = Err (Argument at)
needed at (Some x) = Ok x

-- the value where the test holds, or that fault
abbrev pub fitting : {A : Type 0} → ℕ → Bool → A → Result A NodeFault
fitting at test x = if test then Ok x else Err (Argument at)
