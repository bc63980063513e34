-- The nodes among arguments.
use Rattle.std.proofs.Common.{◌≡◌, ◌≢◌, ℕ, zero, suc, List, [], ◌∷◌, ◌++◌, Option, Some, None, refl, ap, ◌∙◌}
use Rattle.kap_base.specs.declared.dbrp.Dbrp.{Dbrp}
use Rattle.tick_compile.specs.declared.given.Node.{Node as NodeOf}
use Rattle.tick_compile.specs.declared.given.Given.{Given}
use Rattle.tick_compile.specs.declared.given.Given.TheVariants.{Lit, Star, Lambda, Node}
use Rattle.tick_compile.specs.Words.{each, with_first}
use Rattle.tick_compile.specs.Sorts.{as_node}
use Rattle.tick_compile.specs.Nodes.{node_spec, nodes_in, other_node}

-- one argument more
pub nodes_more : {L : Type 0} (given : Given L) (args : List (Given L)) → nodes_in (given ∷ args) ≡ nodes_in (given ∷ []) ++ nodes_in args
nodes_more (Lit lit) args = refl
nodes_more Star args = refl
nodes_more (Lambda lambda) args = refl
nodes_more (Node number) args = refl

-- one node more
one_node : (number : ℕ) (rest : List ℕ) (o : Option (List ℕ)) (nodes : List ℕ) → ((more : List ℕ) → o ≡ Some more → rest ≡ more) → with_first (Some number) o ≡ Some nodes
    → number ∷ rest ≡ nodes
one_node number rest None nodes again is = absurd cc
one_node number rest (Some more) nodes again is = let same : number ∷ more ≡ nodes = cc in ap (λ (l : List ℕ). number ∷ l) (again more refl) ∙ same

-- where all arguments are nodes, these are the nodes among them
pub nodes_given : {L : Type 0} (args : List (Given L)) (nodes : List ℕ) → each as_node args ≡ Some nodes → nodes_in args ≡ nodes
nodes_given [] nodes is = cc
nodes_given (Node number ∷ args) nodes is = one_node number (nodes_in args) (each as_node args) nodes (nodes_given args) is
nodes_given (Lit lit ∷ args) nodes is = absurd cc
nodes_given (Star ∷ args) nodes is = absurd cc
nodes_given (Lambda lambda ∷ args) nodes is = absurd cc

-- a node that isn't the stream
pub other_number : {L : Type 0} (dbrps : List Dbrp) (n : ℕ) (node : NodeOf L) → n ≢ 0 → node_spec dbrps n node ≡ other_node n node
other_number dbrps zero node some = absurd (some refl)
other_number dbrps (suc n) node some = refl
