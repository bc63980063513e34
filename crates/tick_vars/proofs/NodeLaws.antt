-- Nodes as they lie in memory, and their trees.
use Rattle.std.proofs.Common.{◌≡◌, ℕ, zero, suc, ◌<◌, List, [], ◌∷◌, ◌++◌, map, length, get_or, refl, ap, ◌∙◌, arith}
use Rattle.std.proofs.Math.ListN.{set}
use Rattle.std.proofs.lemmas.List.{map-append}
use Rattle.tick_vars.specs.declared.nodes.Prop.{Prop}
use Rattle.tick_vars.specs.declared.nodes.RawNode.{RawNode}
use Rattle.tick_vars.specs.Nodes.{PropTree, node_tree, node_trees, prop_tree}
use Rattle.tick_vars.specs.Binding.{with_prop}

-- a property more at a place
pub prop_set : (nodes : List RawNode) (number : ℕ) (prop : Prop) (d : RawNode) (props : List Prop) → number < length nodes → props ≡ (get_or nodes number d).props ++ prop ∷ []
    → node_trees (set nodes number (record (get_or nodes number d) { props = props })) ≡ with_prop number (prop_tree prop) (node_trees nodes)
prop_set [] number prop d props lt is = absurd (omega arith)
prop_set (node ∷ nodes) zero prop d props lt is = ap (λ ps. record (node_tree node) { props = ps } ∷ node_trees nodes) (ap (map prop_tree) is ∙ map-append prop_tree node.props (prop ∷ []))
prop_set (node ∷ nodes) (suc number) prop d props lt is = ap (λ l. node_tree node ∷ l) (prop_set nodes number prop d props (omega arith) is)

-- there is no node with this number
pub prop_beyond : (nodes : List RawNode) (number : ℕ) (prop : PropTree) → (number < length nodes → ⊥) → node_trees nodes ≡ with_prop number prop (node_trees nodes)
prop_beyond [] number prop beyond = refl
prop_beyond (node ∷ nodes) zero prop beyond = absurd (beyond (omega arith))
prop_beyond (node ∷ nodes) (suc number) prop beyond = ap (λ l. node_tree node ∷ l) (prop_beyond nodes number prop (λ lt. beyond (omega arith)))
