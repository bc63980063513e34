-- What the nodes of events with stands names refer to stands before them.
use Rattle.std.proofs.Common.{◌≡◌, ℕ, ◌+◌, ◌≤◌, Bool, true, false, cond, List, [], ◌∷◌, map, length, refl, arith}
use Rattle.std.specs.Prelude.{◌==◌}
use Rattle.tick_vars.specs.Nodes.{PropTree}
use Rattle.tick_vars.specs.Names.{Scope}
use Rattle.tick_vars.specs.Law.{Written, Event, MakesNode, SetsProp, DeclaresName, UsesValue, NamesDbrp, AllSettled, NodesSettled, PropsSettled, arg_of, node_at, nodes_made, props_on}
use Rattle.tick_vars.proofs.Playing.{AllBelow, ArgsBelow, makes}
use Rattle.tick_vars.proofs.Simulation.{arg_settled, settled_more}
use Rattle.tick_vars.proofs.Gathering.{below}

args_settled : (f : Scope) (k l : ℕ) (from : List Written) → k ≤ l → ArgsBelow f k from → AllSettled l (map (arg_of f) from)
args_settled f k l [] le h = tt
args_settled f k l (first ∷ rest) le h = (settled_more k l (arg_of f first) le (arg_settled f k first h.0), args_settled f k l rest le h.1)

one_more : (b : Bool) (count : ℕ) (prop : PropTree) (props : List PropTree) → AllSettled count prop.args → PropsSettled count props → PropsSettled count (cond b (prop ∷ props) props)
one_more true count prop props a b = (a, b)
one_more false count prop props a b = b

pub props_settled : (f : Scope) (count number next : ℕ) (es : List Event) → next + makes es ≤ count → AllBelow f next es → PropsSettled count (props_on f number es)
props_settled f count number next [] le stands = tt
props_settled f count number next (MakesNode kind under args at ∷ es) le stands = props_settled f count number (next + 1) es (omega arith) stands.2
props_settled f count number next (SetsProp name on args at ∷ es) le stands =
    one_more (node_at f on == number) count (record { name = name; args = map (arg_of f) args; at = at }) (props_on f number es)
    (args_settled f next count args (omega arith) stands.1) (props_settled f count number next es le stands.2)
props_settled f count number next (DeclaresName name value ∷ es) le stands = props_settled f count number next es le stands.1
props_settled f count number next (UsesValue value ∷ es) le stands = props_settled f count number next es le stands.1
props_settled f count number next (NamesDbrp dbrp ∷ es) le stands = props_settled f count number next es le stands

pub nodes_settled : (f : Scope) (props : ℕ → List PropTree) (count next : ℕ) (es : List Event) → ((n : ℕ) → PropsSettled count (props n)) → AllBelow f next es → NodesSettled count next (nodes_made f props next es)
nodes_settled f props count next [] all stands = tt
nodes_settled f props count next (MakesNode kind under args at ∷ es) all stands =
    (below f next under stands.0, args_settled f next next args (omega arith) stands.1, all next, nodes_settled f props count (next + 1) es all stands.2)
nodes_settled f props count next (SetsProp name on args at ∷ es) all stands = nodes_settled f props count next es all stands.2
nodes_settled f props count next (DeclaresName name value ∷ es) all stands = nodes_settled f props count next es all stands.1
nodes_settled f props count next (UsesValue value ∷ es) all stands = nodes_settled f props count next es all stands.1
nodes_settled f props count next (NamesDbrp dbrp ∷ es) all stands = nodes_settled f props count next es all stands

pub length_made : (f : Scope) (props : ℕ → List PropTree) (next : ℕ) (es : List Event) → length (nodes_made f props next es) ≡ makes es
length_made f props next [] = refl
length_made f props next (MakesNode kind under args at ∷ es) = let e = length_made f props (next + 1) es in omega arith
length_made f props next (SetsProp name on args at ∷ es) = length_made f props next es
length_made f props next (DeclaresName name value ∷ es) = length_made f props next es
length_made f props next (UsesValue value ∷ es) = length_made f props next es
length_made f props next (NamesDbrp dbrp ∷ es) = length_made f props next es
