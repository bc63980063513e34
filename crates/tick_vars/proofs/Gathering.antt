-- Nodes that events lead to: those there were, and those that are made, each with the properties that are set on it.
use Rattle.std.proofs.Common.{◌≡◌, ℕ, zero, suc, ◌+◌, ◌<◌, ◌≤◌, false, cond, eqb, eq-eqb, List, [], ◌∷◌, ◌++◌, map, length, refl, sym, ap, subst, ◌∙◌, arith}
use Rattle.std.proofs.lemmas.List.{append-nil, append_assoc, length_push}
use Rattle.std.proofs.lemmas.Bool.Decides.{nat_tests}
use Rattle.tick_vars.specs.Nodes.{PropTree, NodeTree}
use Rattle.tick_vars.specs.Names.{Scope}
use Rattle.tick_vars.specs.Binding.{with_prop}
use Rattle.tick_vars.specs.Law.{Upstream, OnNode, OnName, Event, MakesNode, SetsProp, DeclaresName, UsesValue, NamesDbrp, arg_of, node_at, nodes_made, number_of, props_on}
use Rattle.tick_vars.proofs.Playing.{AllBelow, NodeBelow, length_with_prop, play}

-- nodes from this number on, with these properties more
abbrev pub given : (ℕ → List PropTree) → ℕ → List NodeTree → List NodeTree
given props number [] = []
given props number (node ∷ nodes) = record node { props = node.props ++ props number } ∷ given props (number + 1) nodes

given_none : (number : ℕ) (nodes : List NodeTree) → nodes ≡ given (λ _. []) number nodes
given_none number [] = refl
given_none number (node ∷ nodes) = λ i. record node { props = sym (append-nil node.props) i } ∷ given_none (number + 1) nodes i

given_same : (p q : ℕ → List PropTree) (number : ℕ) (nodes : List NodeTree) → ((n : ℕ) → number ≤ n → p n ≡ q n) → given p number nodes ≡ given q number nodes
given_same p q number [] same = refl
given_same p q number (node ∷ nodes) same = λ i.
    record node { props = node.props ++ same number (omega arith) i } ∷ given_same p q (number + 1) nodes (λ n le. same n (omega arith)) i

given_push : (p : ℕ → List PropTree) (number next : ℕ) (nodes : List NodeTree) (node : NodeTree) → number + length nodes ≡ next
    → given p number (nodes ++ node ∷ []) ≡ given p number nodes ++ record node { props = node.props ++ p next } ∷ []
given_push p number next [] node is = let e : number ≡ next = omega arith in ap (λ n. record node { props = node.props ++ p n } ∷ []) e
given_push p number next (first ∷ nodes) node is =
    ap (λ l. record first { props = first.props ++ p number } ∷ l) (given_push p (number + 1) next nodes node (omega arith))

-- a property more, on the node with the number `at`, which is the `other`th of these
given_set : (p q : ℕ → List PropTree) (number other at : ℕ) (prop : PropTree) (nodes : List NodeTree) → number + other ≡ at
    → q at ≡ prop ∷ p at → ((n : ℕ) → (n ≡ at → ⊥) → q n ≡ p n) → given p number (with_prop other prop nodes) ≡ given q number nodes
given_set p q number other at prop [] is here there = refl
given_set p q number zero at prop (node ∷ nodes) is here there =
    let e : number ≡ at = omega arith in
    let props : (node.props ++ prop ∷ []) ++ p number ≡ node.props ++ q number =
    append_assoc node.props (prop ∷ []) (p number) ∙ ap (λ l. node.props ++ l) (subst (λ n. prop ∷ p n ≡ q n) (sym e) (sym here)) in
    let rest : given p (number + 1) nodes ≡ given q (number + 1) nodes = given_same p q (number + 1) nodes (λ n le. sym (there n (λ same. omega arith))) in
    λ i. record node { props = props i } ∷ rest i
given_set p q number (suc other) at prop (node ∷ nodes) is here there =
    let props : p number ≡ q number = sym (there number (λ same. omega arith)) in
    let rest = given_set p q (number + 1) other at prop nodes (omega arith) here there in
    λ i. record node { props = node.props ++ props i } ∷ rest i

made_same : (scope : Scope) (p q : ℕ → List PropTree) (next : ℕ) (es : List Event) → ((n : ℕ) → next ≤ n → p n ≡ q n) → nodes_made scope p next es ≡ nodes_made scope q next es
made_same scope p q next [] same = refl
made_same scope p q next (MakesNode kind under args at ∷ es) same = λ i.
    record { kind = kind; parent = node_at scope under; args = map (arg_of scope) args; props = same next (omega arith) i; at = at } ∷ made_same scope p q (next + 1) es (λ n le. same n (omega arith)) i
made_same scope p q next (SetsProp name on args at ∷ es) same = made_same scope p q next es same
made_same scope p q next (DeclaresName name value ∷ es) same = made_same scope p q next es same
made_same scope p q next (UsesValue value ∷ es) same = made_same scope p q next es same
made_same scope p q next (NamesDbrp dbrp ∷ es) same = made_same scope p q next es same

pub below : (f : Scope) (next : ℕ) (on : Upstream) → NodeBelow f next on → node_at f on < next
below f next (OnNode number) h = h
below f next (OnName name) h = let e : number_of (f name) ≡ h.0 = ap number_of h.2 in let lt = h.3 in omega arith

pub gathered : (f : Scope) (es : List Event) (next : ℕ) (nodes : List NodeTree) → length nodes ≡ next → AllBelow f next es
    → play f es nodes ≡ given (λ n. props_on f n es) 0 nodes ++ nodes_made f (λ n. props_on f n es) next es
gathered f [] next nodes len stands = given_none 0 nodes ∙ sym (append-nil (given (λ _. []) 0 nodes))
gathered f (MakesNode kind under args at ∷ es) next nodes len stands =
    let node : NodeTree = record { kind = kind; parent = node_at f under; args = map (arg_of f) args; props = []; at = at } in
    let p : ℕ → List PropTree = λ n. props_on f n es in
    let more = length_push nodes node in
    gathered f es (next + 1) (nodes ++ node ∷ []) (omega arith) stands.2
    ∙ ap (λ l. l ++ nodes_made f p (next + 1) es) (given_push p 0 next nodes node (omega arith))
    ∙ append_assoc (given p 0 nodes) (record node { props = p next } ∷ []) (nodes_made f p (next + 1) es)
gathered f (SetsProp name on args at ∷ es) next nodes len stands =
    let prop : PropTree = record { name = name; args = map (arg_of f) args; at = at } in
    let number = node_at f on in
    let p : ℕ → List PropTree = λ n. props_on f n es in
    let q : ℕ → List PropTree = λ n. props_on f n (SetsProp name on args at ∷ es) in
    let lt = below f next on stands.0 in
    let here : q number ≡ prop ∷ p number = ap (λ b. cond b (prop ∷ p number) (p number)) (eq-eqb number number refl) in
    let there : (n : ℕ) → (n ≡ number → ⊥) → q n ≡ p n = λ n other. let e : eqb number n ≡ false = grind (arith, nat_tests) in ap (λ b. cond b (prop ∷ p n) (p n)) e in
    gathered f es next (with_prop number prop nodes) (length_with_prop number prop nodes ∙ len) stands.2
    ∙ (λ i. given_set p q 0 number number prop nodes (omega arith) here there i ++ made_same f p q next es (λ n le. sym (there n (λ same. omega arith))) i)
gathered f (DeclaresName name value ∷ es) next nodes len stands = gathered f es next nodes len stands.1
gathered f (UsesValue value ∷ es) next nodes len stands = gathered f es next nodes len stands.1
gathered f (NamesDbrp dbrp ∷ es) next nodes len stands = gathered f es next nodes len stands
