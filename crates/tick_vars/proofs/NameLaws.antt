-- Names as a map keeps them, and what they stand for.
use Rattle.std.proofs.Common.{◌≡◌, ℕ, Bool, true, false, cond, List, [], ◌∷◌, ◌++◌, Option, Some, None, option_map, Result, Ok, refl, sym, ap, ◌∙◌}
use Rattle.std.specs.Borrow.{Bor}
use Rattle.std.specs.HashMap.{HashMap, UpdatesBy, get_by}
use Rattle.std.specs.Map.{lookup}
use Rattle.std.specs.Prelude.{bytes_eq, codes}
use Rattle.std.proofs.lemmas.Map.Text.{hash_map_updates_str}
use Rattle.kap_base.proofs.TestLaws.{ok_is}
use Rattle.tick_vars.specs.declared.nodes.Arg.{Arg}
use Rattle.tick_vars.specs.declared.nodes.RawNode.{RawNode}
use Rattle.kap_base.specs.declared.dbrp.Dbrp.{Dbrp}
use Rattle.tick_vars.specs.declared.fault.VarFault.{VarFault}
use Rattle.tick_vars.specs.Nodes.{NodeArg, NodeTree, arg_tree, node_tree, node_trees}
use Rattle.tick_vars.specs.Names.{Scope, first_scope, scope_of, with_name}
use Rattle.tick_vars.specs.Binding.{Progress, at_first, stream_node}

chosen : {A B : Type 0} (f : A → B) (test : Bool) (x : A) (other : Option A) → option_map f (cond test (Some x) other) ≡ cond test (Some (f x)) (option_map f other)
chosen f true x other = refl
chosen f false x other = refl

-- a name more
pub name_put : {S : Type 0} (m n : HashMap (Bor (List ℕ)) Arg S) (name : List ℕ) (arg : Arg)
    → UpdatesBy (λ x y. bytes_eq x.now y.now) (λ k. bytes_eq name k.now) m n (Some arg) → scope_of n ≡ with_name name (arg_tree arg) (scope_of m)
name_put m n name arg updates i other = (ap (option_map arg_tree) (hash_map_updates_str name m n (Some arg) updates other) ∙ chosen arg_tree (bytes_eq name other) arg (get_by (λ k. bytes_eq other k.now) m)) i

-- no names
pub no_names : {S : Type 0} (m : HashMap (Bor (List ℕ)) Arg S) → m.entries ≡ [] → scope_of m ≡ (λ _. None)
no_names m is = λ i name. option_map arg_tree (lookup (λ key. bytes_eq name key.now) (is i))

-- `stream` as the first name
pub first_put : {S : Type 0} (m : HashMap (Bor (List ℕ)) Arg S) (scope : Scope) → m.entries ≡ []
    → ◌≡◌ {A = Result Scope VarFault} (Ok (with_name (codes "stream") (NodeArg 0 0) (scope_of m))) (Ok scope) → ◌≡◌ {A = Result Scope VarFault} (Ok first_scope) (Ok scope)
first_put m scope is put = sym (ap (λ s. Ok (with_name (codes "stream") (NodeArg 0 0) s)) (no_names m is)) ∙ put

-- what there is before the first statement
pub begun : (scope : Scope) (node : RawNode) (before nodes : List RawNode) (dbrps : List Dbrp) → ◌≡◌ {A = Result Scope VarFault} (Ok first_scope) (Ok scope)
    → ◌≡◌ {A = Result NodeTree VarFault} (Ok stream_node) (Ok (node_tree node)) → before ≡ [] → nodes ≡ before ++ node ∷ [] → dbrps ≡ []
    → ◌≡◌ {A = Result Progress VarFault} (Ok at_first) (Ok (record { scope = scope; nodes = node_trees nodes; dbrps = dbrps }))
begun scope node before nodes dbrps names is first one none =
    let stream : stream_node ∷ [] ≡ node_trees nodes = ap (λ n. n ∷ []) (ok_is stream_node (node_tree node) is) ∙ sym (ap node_trees (one ∙ ap (λ l. l ++ node ∷ []) first)) in
    λ i. Ok (record { scope = ok_is first_scope scope names i; nodes = stream i; dbrps = sym none i })
