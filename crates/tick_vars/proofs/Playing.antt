-- Events, played one after the other over the nodes so far.
use Rattle.std.proofs.Common.{◌≡◌, ℕ, zero, suc, ◌+◌, ◌<◌, List, [], ◌∷◌, ◌++◌, map, length, Some, refl, subst, arith}
use Rattle.std.proofs.lemmas.List.{length_push}
use Rattle.tick_vars.specs.Nodes.{ArgTree, NodeArg, PropTree, NodeTree}
use Rattle.tick_vars.specs.Names.{Scope}
use Rattle.tick_vars.specs.Binding.{with_prop}
use Rattle.tick_vars.specs.Law.{Upstream, OnNode, OnName, Written, FromLit, FromStar, FromLambda, FromChain, Event, MakesNode, SetsProp, DeclaresName, UsesValue, NamesDbrp, HasValues, Settled, arg_of, node_at}

-- behind one event more
abbrev pub played : Scope → Event → List NodeTree → List NodeTree
played scope (MakesNode kind under args at) nodes =
    nodes ++ record { kind = kind; parent = node_at scope under; args = map (arg_of scope) args; props = []; at = at } ∷ []
played scope (SetsProp name on args at) nodes = with_prop (node_at scope on) (record { name = name; args = map (arg_of scope) args; at = at }) nodes
played scope (DeclaresName name value) nodes = nodes
played scope (UsesValue value) nodes = nodes
played scope (NamesDbrp dbrp) nodes = nodes

-- behind all of these
abbrev pub play : Scope → List Event → List NodeTree → List NodeTree
play scope [] nodes = nodes
play scope (event ∷ events) nodes = play scope events (played scope event nodes)

-- how many nodes they make
abbrev pub makes : List Event → ℕ
makes [] = 0
makes (MakesNode kind under args at ∷ events) = 1 + makes events
makes (SetsProp name on args at ∷ events) = makes events
makes (DeclaresName name value ∷ events) = makes events
makes (UsesValue value ∷ events) = makes events
makes (NamesDbrp dbrp ∷ events) = makes events

-- what is written stands for something, by nodes below this number
abbrev pub NodeBelow : Scope → ℕ → Upstream → Type 0
NodeBelow f next (OnNode number) = number < next
NodeBelow f next (OnName name) = (number : ℕ) × (place : ℕ) × (f name ≡ Some (NodeArg number place)) × (number < next)

abbrev pub ArgBelow : Scope → ℕ → Written → Type 0
ArgBelow f next (FromLit lit at) = Unit {0}
ArgBelow f next (FromStar at) = Unit {0}
ArgBelow f next (FromLambda body at) = HasValues f body
ArgBelow f next (FromChain (OnNode number) at) = number < next
ArgBelow f next (FromChain (OnName name) at) = (arg : ArgTree) × (f name ≡ Some arg) × Settled next arg

abbrev pub ArgsBelow : Scope → ℕ → List Written → Type 0
ArgsBelow f next [] = Unit {0}
ArgsBelow f next (first ∷ rest) = ArgBelow f next first × ArgsBelow f next rest

-- the same of events, where names stand for what they do in the end
abbrev pub AllBelow : Scope → ℕ → List Event → Type 0
AllBelow f next [] = Unit {0}
AllBelow f next (MakesNode kind under args at ∷ events) = NodeBelow f next under × ArgsBelow f next args × AllBelow f (next + 1) events
AllBelow f next (SetsProp name on args at ∷ events) = NodeBelow f next on × ArgsBelow f next args × AllBelow f next events
AllBelow f next (DeclaresName name value ∷ events) = ArgBelow f next value × AllBelow f next events
AllBelow f next (UsesValue value ∷ events) = ArgBelow f next value × AllBelow f next events
AllBelow f next (NamesDbrp dbrp ∷ events) = AllBelow f next events

pub play_append : (scope : Scope) (es fs : List Event) (nodes : List NodeTree) → play scope (es ++ fs) nodes ≡ play scope fs (play scope es nodes)
play_append scope [] fs nodes = refl
play_append scope (e ∷ es) fs nodes = play_append scope es fs (played scope e nodes)

pub makes_append : (es fs : List Event) → makes (es ++ fs) ≡ makes es + makes fs
makes_append [] fs = omega arith
makes_append (MakesNode kind under args at ∷ es) fs = let e = makes_append es fs in omega arith
makes_append (SetsProp name on args at ∷ es) fs = makes_append es fs
makes_append (DeclaresName name value ∷ es) fs = makes_append es fs
makes_append (UsesValue value ∷ es) fs = makes_append es fs
makes_append (NamesDbrp dbrp ∷ es) fs = makes_append es fs

pub below_append : (scope : Scope) (next : ℕ) (es fs : List Event) → AllBelow scope next es → AllBelow scope (next + makes es) fs → AllBelow scope next (es ++ fs)
below_append scope next [] fs a b = let e : next + 0 ≡ next = omega arith in subst (λ n. AllBelow scope n fs) e b
below_append scope next (MakesNode kind under args at ∷ es) fs a b =
    let e : next + (1 + makes es) ≡ next + 1 + makes es = omega arith in
    (a.0, a.1, below_append scope (next + 1) es fs a.2 (subst (λ n. AllBelow scope n fs) e b))
below_append scope next (SetsProp name on args at ∷ es) fs a b = (a.0, a.1, below_append scope next es fs a.2 b)
below_append scope next (DeclaresName name value ∷ es) fs a b = (a.0, below_append scope next es fs a.1 b)
below_append scope next (UsesValue value ∷ es) fs a b = (a.0, below_append scope next es fs a.1 b)
below_append scope next (NamesDbrp dbrp ∷ es) fs a b = below_append scope next es fs a b

pub length_with_prop : (number : ℕ) (prop : PropTree) (nodes : List NodeTree) → length (with_prop number prop nodes) ≡ length nodes
length_with_prop number prop [] = refl
length_with_prop zero prop (node ∷ nodes) = refl
length_with_prop (suc number) prop (node ∷ nodes) = let e = length_with_prop number prop nodes in omega arith

pub length_play : (scope : Scope) (es : List Event) (nodes : List NodeTree) → length (play scope es nodes) ≡ length nodes + makes es
length_play scope [] nodes = omega arith
length_play scope (MakesNode kind under args at ∷ es) nodes =
    let node : NodeTree = record { kind = kind; parent = node_at scope under; args = map (arg_of scope) args; props = []; at = at } in
    let a = length_play scope es (nodes ++ node ∷ []) in
    let b = length_push nodes node in
    omega arith
length_play scope (SetsProp name on args at ∷ es) nodes =
    let prop : PropTree = record { name = name; args = map (arg_of scope) args; at = at } in
    let a = length_play scope es (with_prop (node_at scope on) prop nodes) in
    let b = length_with_prop (node_at scope on) prop nodes in
    omega arith
length_play scope (DeclaresName name value ∷ es) nodes = length_play scope es nodes
length_play scope (UsesValue value ∷ es) nodes = length_play scope es nodes
length_play scope (NamesDbrp dbrp ∷ es) nodes = length_play scope es nodes
