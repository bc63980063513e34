-- What a step that succeeded says of its parts.
use Rattle.std.proofs.Common.{◌≡◌, ℕ, Bool, true, false, cond, List, Option, Some, None, Result, Ok, Err, refl, ap, ◌∙◌}
use Rattle.kap_base.specs.Words.{◌>>=◌}
use Rattle.tick_vars.specs.declared.fault.VarFault.TheVariants.{Batch}
use Rattle.tick_vars.specs.Nodes.{ArgTree, LitArg, StarArg, LambdaArg, NodeArg}
use Rattle.tick_vars.specs.Names.{Scope, as_node, is_batch, known, looked_up}

-- what a scope tells, another tells too
abbrev pub Extends : Scope → Scope → Type 0
Extends s f = (name : List ℕ) (arg : ArgTree) → s name ≡ Some arg → f name ≡ Some arg

-- a name that was found stands for something
pub found : (scope : Scope) (name : List ℕ) (at : ℕ) (arg : ArgTree) → looked_up scope name at ≡ Ok arg → scope name ≡ Some arg
found scope name at arg is =
    let go : (batch : Bool) (there : Option ArgTree) → cond batch (Err (Batch at)) (known at there) ≡ Ok arg → there ≡ Some arg =
    λ batch there. elim batch as (λ b. cond b (Err (Batch at)) (known at there) ≡ Ok arg → there ≡ Some arg) [
      | true ↦ λ e. absurd cc
      | false ↦ elim there as (λ t. known at t ≡ Ok arg → t ≡ Some arg) [ None ↦ λ e. absurd cc | Some x ↦ λ e. cc ]
    ] in
    go (is_batch name) (scope name) is

-- a name to which something was linked stands for a node
pub linked_node : (at number : ℕ) (arg : ArgTree) → as_node at arg ≡ Ok number → (place : ℕ) × (arg ≡ NodeArg number place)
linked_node at number (LitArg lit place) is = absurd cc
linked_node at number (StarArg place) is = absurd cc
linked_node at number (LambdaArg body place) is = absurd cc
linked_node at number (NodeArg other place) is = (place, cc)

-- both steps succeed
pub then_ok : {A B E : Type 0} (r : Result A E) (f : A → Result B E) (a : A) (b : B) → r ≡ Ok a → f a ≡ Ok b → (r >>= f) ≡ Ok b
then_ok r f a b first second = ap (λ x. x >>= f) first ∙ second

-- `batch` stands for nothing
abbrev pub NoBatch : Scope → Type 0
NoBatch s = (name : List ℕ) → is_batch name ≡ true → s name ≡ None

-- a name that stands for something is found
pub told : (s : Scope) → NoBatch s → (name : List ℕ) (at : ℕ) (arg : ArgTree) → s name ≡ Some arg → looked_up s name at ≡ Ok arg
told s no_batch name at arg is =
    elim (is_batch name) as (λ b. is_batch name ≡ b → cond b (Err (Batch at)) (known at (s name)) ≡ Ok arg) [
      | true ↦ λ e. let none = no_batch name e in absurd cc
      | false ↦ λ e. ap (known at) is
    ] refl
