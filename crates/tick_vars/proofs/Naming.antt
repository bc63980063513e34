-- A script is bound exactly where its names are in order.
use Rattle.std.proofs.Common.{◌≡◌, ℕ, ◌+◌, Bool, true, false, cond, ◌||◌, List, [], ◌∷◌, ◌++◌, length, Some, None, Result, Ok, Err, refl, sym, ap, subst, ◌∙◌}
use Rattle.std.specs.Prelude.{is_some, codes, bytes_eq}
use Rattle.std.proofs.lemmas.Slice.Eq.{bytes_eq-Decides}
use Rattle.kap_base.proofs.TestLaws.{bind_ok}
use Rattle.kap_base.specs.Words.{◌>>=◌}
use Rattle.tick_parser.specs.Trees.{ValTree, LitVal, StarVal, LambdaVal, ChainVal, ValTrees, NoVals, MoreVals, JointTrees, NoJoints, MoreJoints, StmtTree, VarStmt, DbrpStmt, ChainStmt}
use Rattle.tick_vars.specs.declared.fault.VarFault.{VarFault}
use Rattle.tick_vars.specs.declared.fault.VarFault.TheVariants.{Twice}
use Rattle.tick_vars.specs.Nodes.{ArgTree, LitArg, StarArg, LambdaArg, NodeArg, NodeTree, BoundTree}
use Rattle.tick_vars.specs.Names.{Scope, as_node, bound_lambda, first_scope, handed_on, is_batch, looked_up, with_name}
use Rattle.tick_vars.specs.Binding.{WithNodes, Progress, and_arg, at_first, bound_links, bound_of, bound_stmt, bound_stmts, bound_val, bound_vals, linked}
use Rattle.tick_vars.specs.Law.{Upstream, OnName, OnNode, Written, FromLit, FromStar, FromLambda, FromChain, Event, MakesNode, SetsProp, DeclaresName, UsesValue, NamesDbrp, AreArgs, AreNamed, IsArg, IsNode, IsWellNamed, all_done, arg_of, done_along, done_among, done_by, done_in, chain_end, in_the_end, pipes_among, pipes_in, pipes_of, written_val, written_vals}
use Rattle.tick_vars.proofs.Steps.{NoBatch, then_ok, told}
use Rattle.tick_vars.proofs.Playing.{AllBelow, ArgBelow, ArgsBelow, NodeBelow}
use Rattle.tick_vars.proofs.Lambdas.{lambda_ok}
use Rattle.tick_vars.proofs.Simulation.{InScope, length_done, val_done}
use Rattle.tick_vars.proofs.Quiet.{Quiet, quiet_along, quiet_among, quiet_in, quiet_scope}
use Rattle.tick_vars.proofs.Statements.{declared_ok, stmt_done}
use Rattle.tick_vars.proofs.Written.{first_in_scope}

-- ---- events one after the other

named_append : (s : Scope) (es fs : List Event) → AreNamed s es → AreNamed (in_the_end s es) fs → AreNamed s (es ++ fs)
named_append s [] fs a b = b
named_append s (MakesNode kind under args at ∷ es) fs a b = (a.0, a.1, named_append s es fs a.2 b)
named_append s (SetsProp name on args at ∷ es) fs a b = (a.0, a.1, named_append s es fs a.2 b)
named_append s (DeclaresName name value ∷ es) fs a b = (a.0, a.1, named_append (with_name name (arg_of s value) s) es fs a.2 b)
named_append s (UsesValue value ∷ es) fs a b = (a.0, named_append s es fs a.1 b)
named_append s (NamesDbrp dbrp ∷ es) fs a b = named_append s es fs a b

named_parts : (s : Scope) (es fs : List Event) → AreNamed s (es ++ fs) → AreNamed s es × AreNamed (in_the_end s es) fs
named_parts s [] fs h = (tt, h)
named_parts s (MakesNode kind under args at ∷ es) fs h = let r = named_parts s es fs h.2 in ((h.0, h.1, r.0), r.1)
named_parts s (SetsProp name on args at ∷ es) fs h = let r = named_parts s es fs h.2 in ((h.0, h.1, r.0), r.1)
named_parts s (DeclaresName name value ∷ es) fs h = let r = named_parts (with_name name (arg_of s value) s) es fs h.2 in ((h.0, h.1, r.0), r.1)
named_parts s (UsesValue value ∷ es) fs h = let r = named_parts s es fs h.1 in ((h.0, r.0), r.1)
named_parts s (NamesDbrp dbrp ∷ es) fs h = named_parts s es fs h

-- the second part, where the first declares nothing
named_rest : (s : Scope) (es fs : List Event) → Quiet es → AreNamed s (es ++ fs) → AreNamed s fs
named_rest s es fs quiet h = subst (λ x. AreNamed x fs) (quiet_scope s es quiet) (named_parts s es fs h).1

-- ---- what was bound is in order

node_named : (s : Scope) (next : ℕ) (on : Upstream) → NodeBelow s next on → IsNode s on
node_named s next (OnNode number) h = tt
node_named s next (OnName name) h = (h.0, h.1, h.2)

arg_named : (s : Scope) (next : ℕ) (from : Written) → ArgBelow s next from → IsArg s from
arg_named s next (FromLit lit at) h = tt
arg_named s next (FromStar at) h = tt
arg_named s next (FromLambda body at) h = h
arg_named s next (FromChain (OnNode number) at) h = tt
arg_named s next (FromChain (OnName name) at) h = (h.0, h.1)

args_named : (s : Scope) (next : ℕ) (from : List Written) → ArgsBelow s next from → AreArgs s from
args_named s next [] h = tt
args_named s next (first ∷ rest) h = (arg_named s next first h.0, args_named s next rest h.1)

quiet_named : (s : Scope) (next : ℕ) (es : List Event) → Quiet es → AllBelow s next es → AreNamed s es
quiet_named s next [] q h = tt
quiet_named s next (MakesNode kind under args at ∷ es) q h = (node_named s next under h.0, args_named s next args h.1, quiet_named s (next + 1) es q h.2)
quiet_named s next (SetsProp name on args at ∷ es) q h = (node_named s next on h.0, args_named s next args h.1, quiet_named s next es q h.2)
quiet_named s next (DeclaresName name value ∷ es) q h = absurd q
quiet_named s next (UsesValue value ∷ es) q h = absurd q
quiet_named s next (NamesDbrp dbrp ∷ es) q h = absurd q

-- `batch` is never declared
with_name_batch : (s : Scope) (name : List ℕ) (arg : ArgTree) → is_batch name ≡ false → NoBatch s → NoBatch (with_name name arg s)
with_name_batch s name arg other_name no_batch other is =
    elim (bytes_eq name other) as (λ b. bytes_eq name other ≡ b → cond b (Some arg) (s other) ≡ None) [
      | true ↦ λ e. let same : name ≡ other = (bytes_eq-Decides name other).0 e in let batch : is_batch name ≡ true = subst (λ n. is_batch n ≡ true) (sym same) is in absurd cc
      | false ↦ λ e. no_batch other is
    ] refl

not_batch : (batch there : Bool) → (batch || there) ≡ false → batch ≡ false
not_batch true there is = absurd cc
not_batch false there is = refl

pub batch_kept : (s : Scope) (es : List Event) → NoBatch s → AreNamed s es → NoBatch (in_the_end s es)
batch_kept s [] no_batch h = no_batch
batch_kept s (MakesNode kind under args at ∷ es) no_batch h = batch_kept s es no_batch h.2
batch_kept s (SetsProp name on args at ∷ es) no_batch h = batch_kept s es no_batch h.2
batch_kept s (DeclaresName name value ∷ es) no_batch h =
    batch_kept (with_name name (arg_of s value) s) es (with_name_batch s name (arg_of s value) (not_batch (is_batch name) (is_some (s name)) h.0) no_batch) h.2
batch_kept s (UsesValue value ∷ es) no_batch h = batch_kept s es no_batch h.1
batch_kept s (NamesDbrp dbrp ∷ es) no_batch h = batch_kept s es no_batch h

stmt_named : (s s' : Progress) (stmt : StmtTree) (next : ℕ) → InScope next s.scope → length s.nodes ≡ next → bound_stmt s stmt ≡ Ok s' → AreNamed s.scope (done_by next stmt)
stmt_named s s' (VarStmt name value at) next ins len is =
    let d = declared_ok s s' name value at is in
    let v = val_done s.scope s.scope (λ n a h. h) value next s.nodes d.0 ins len d.1 in
    let es = done_in next value in
    let src = written_val next value in
    let quiet = quiet_in value next in
    let last : AreNamed s.scope (DeclaresName name src ∷ []) = (d.4, arg_named s.scope (next + pipes_in value) src v.1, tt) in
    named_append s.scope es (DeclaresName name src ∷ []) (quiet_named s.scope next es quiet (v.2).stands) (subst (λ x. AreNamed x (DeclaresName name src ∷ [])) (sym (quiet_scope s.scope es quiet)) last)
stmt_named s s' (DbrpStmt db rp at) next ins len is = tt
stmt_named s s' (ChainStmt head links at) next ins len is =
    let chain = ChainVal head links at in
    let a = bind_ok (bound_val s.scope s.nodes chain) (λ made. Ok (record s { nodes = made.nodes })) s' is in
    let v = val_done s.scope s.scope (λ n a h. h) chain next s.nodes a.0 ins len a.1 in
    let es = done_along next (OnName head) links in
    let src = written_val next chain in
    let quiet = quiet_along links next (OnName head) in
    let last : AreNamed s.scope (UsesValue src ∷ []) = (arg_named s.scope (next + pipes_in chain) src v.1, tt) in
    named_append s.scope es (UsesValue src ∷ []) (quiet_named s.scope next es quiet (v.2).stands) (subst (λ x. AreNamed x (UsesValue src ∷ [])) (sym (quiet_scope s.scope es quiet)) last)

pub stmts_named : (script : List StmtTree) (s s' : Progress) (next : ℕ) → InScope next s.scope → length s.nodes ≡ next → bound_stmts s script ≡ Ok s' → AreNamed s.scope (all_done next script)
stmts_named [] s s' next ins len is = tt
stmts_named (stmt ∷ script) s s' next ins len is =
    let a = bind_ok (bound_stmt s stmt) (λ x. bound_stmts x script) s' is in
    let mid = a.0 in
    let then = next + pipes_of stmt in
    let es = done_by next stmt in
    let one = stmt_done s.scope s mid stmt next (λ n x h. h) ins len a.1 in
    let rest = stmts_named script mid s' then one.in_scope (length_done s.scope next (pipes_of stmt) es s.nodes mid.nodes one.done len) a.2 in
    named_append s.scope es (all_done then script) (stmt_named s mid stmt next ins len a.1) (subst (λ x. AreNamed x (all_done then script)) one.scope_is rest)

pub named : (script : List StmtTree) (bound : BoundTree) → bound_of script ≡ Ok bound → IsWellNamed script
named script bound is =
    let a = bind_ok (bound_stmts at_first script) (λ s. Ok (record { dbrps = s.dbrps; nodes = s.nodes })) bound is in
    stmts_named script at_first a.0 1 first_in_scope refl a.1

-- ---- what is in order is bound

-- the node from which the links of a chain go on
first_node : (s : Scope) (next : ℕ) (on : Upstream) (node : Bool) (name : List ℕ) (args : ValTrees) (at : ℕ) (rest : JointTrees) → AreNamed s (done_along next on (MoreJoints node name args at rest)) → IsNode s on
first_node s next on true name args at rest h =
    let then = next + pipes_among args in
    (named_rest s (done_among next args) (MakesNode name on (written_vals next args) at ∷ done_along (then + 1) (OnNode then) rest) (quiet_among args next) h).0
first_node s next on false name args at rest h =
    let then = next + pipes_among args in
    (named_rest s (done_among next args) (SetsProp name on (written_vals next args) at ∷ done_along then on rest) (quiet_among args next) h).0

module _ (s : Scope) (no_batch : NoBatch s) where
  -- a chain, where its links are bound
  chain_ok : (head : List ℕ) (links : JointTrees) (at next : ℕ) (nodes : List NodeTree) → ((made : WithNodes ℕ) → (m : WithNodes ℕ) × (bound_links s made links ≡ Ok m))
      → AreNamed s (done_along next (OnName head) links) → IsArg s (FromChain (chain_end next (OnName head) links) at) → (m : WithNodes ArgTree) × (bound_val s nodes (ChainVal head links at) ≡ Ok m)
  chain_ok head NoJoints at next nodes along named is =
      let m : WithNodes ArgTree = record { value = handed_on at is.0; nodes = nodes } in
      (m, then_ok (looked_up s head at) (λ arg. Ok (record { value = handed_on at arg; nodes = nodes })) is.0 m (told s no_batch head at is.0 is.1) refl)
  chain_ok head (MoreJoints node name args place rest) at next nodes along named is =
      let links = MoreJoints node name args place rest in
      let n = first_node s next (OnName head) node name args place rest named in
      let made : WithNodes ℕ = record { value = n.0; nodes = nodes } in
      let l = along made in
      let go : ℕ → Result (WithNodes ℕ) VarFault = λ number. bound_links s (record { value = number; nodes = nodes }) links in
      let m : WithNodes ArgTree = record { value = NodeArg (l.0).value at; nodes = (l.0).nodes } in
      let found : (looked_up s head at >>= as_node at) ≡ Ok n.0 = then_ok (looked_up s head at) (as_node at) (NodeArg n.0 n.1) n.0 (told s no_batch head at (NodeArg n.0 n.1) n.2) refl in
      let linked : (looked_up s head at >>= as_node at >>= go) ≡ Ok l.0 = then_ok (looked_up s head at >>= as_node at) go n.0 l.0 found l.1 in
      (m, then_ok (looked_up s head at >>= as_node at >>= go) (λ made. Ok (record { value = NodeArg made.value at; nodes = made.nodes })) l.0 m linked refl)

  mutual
    val_ok : (v : ValTree) (next : ℕ) (nodes : List NodeTree) → AreNamed s (done_in next v) → IsArg s (written_val next v) → (m : WithNodes ArgTree) × (bound_val s nodes v ≡ Ok m)
    val_ok (LitVal lit at) next nodes named is = (record { value = LitArg lit at; nodes = nodes }, refl)
    val_ok (StarVal at) next nodes named is = (record { value = StarArg at; nodes = nodes }, refl)
    val_ok (LambdaVal body at) next nodes named is =
        let b = lambda_ok s no_batch body is in
        let m : WithNodes ArgTree = record { value = LambdaArg b.0 at; nodes = nodes } in
        (m, then_ok (bound_lambda s body) (λ body. Ok (record { value = LambdaArg body at; nodes = nodes })) b.0 m b.1 refl)
    val_ok (ChainVal head links at) next nodes named is = chain_ok head links at next nodes (λ made. links_ok links next (OnName head) made named) named is

    vals_ok : (vs : ValTrees) (next : ℕ) (made : WithNodes (List ArgTree)) → AreNamed s (done_among next vs) → AreArgs s (written_vals next vs) → (m : WithNodes (List ArgTree)) × (bound_vals s made vs ≡ Ok m)
    vals_ok NoVals next made named are = (made, refl)
    vals_ok (MoreVals first rest) next made named are =
        let es = done_in next first in
        let fs = done_among (next + pipes_in first) rest in
        let v = val_ok first next made.nodes (named_parts s es fs named).0 are.0 in
        let r = vals_ok rest (next + pipes_in first) (and_arg made.value v.0) (named_rest s es fs (quiet_in first next) named) are.1 in
        (r.0, then_ok (bound_val s made.nodes first) (λ n. bound_vals s (and_arg made.value n) rest) v.0 r.0 v.1 r.1)

    links_ok : (links : JointTrees) (next : ℕ) (on : Upstream) (made : WithNodes ℕ) → AreNamed s (done_along next on links) → (m : WithNodes ℕ) × (bound_links s made links ≡ Ok m)
    links_ok NoJoints next on made named = (made, refl)
    links_ok (MoreJoints true name args at rest) next on made named =
        let then = next + pipes_among args in
        let es = done_among next args in
        let fs : List Event = MakesNode name on (written_vals next args) at ∷ done_along (then + 1) (OnNode then) rest in
        let here = named_rest s es fs (quiet_among args next) named in
        let a = vals_ok args next (record { value = []; nodes = made.nodes }) (named_parts s es fs named).0 here.1 in
        let r = links_ok rest (then + 1) (OnNode then) (linked true name at made.value a.0) here.2 in
        (r.0, then_ok (bound_vals s (record { value = []; nodes = made.nodes }) args) (λ w. bound_links s (linked true name at made.value w) rest) a.0 r.0 a.1 r.1)
    links_ok (MoreJoints false name args at rest) next on made named =
        let then = next + pipes_among args in
        let es = done_among next args in
        let fs : List Event = SetsProp name on (written_vals next args) at ∷ done_along then on rest in
        let here = named_rest s es fs (quiet_among args next) named in
        let a = vals_ok args next (record { value = []; nodes = made.nodes }) (named_parts s es fs named).0 here.1 in
        let r = links_ok rest then on (linked false name at made.value a.0) here.2 in
        (r.0, then_ok (bound_vals s (record { value = []; nodes = made.nodes }) args) (λ w. bound_links s (linked false name at made.value w) rest) a.0 r.0 a.1 r.1)

stmt_ok : (s : Progress) (stmt : StmtTree) (next : ℕ) → NoBatch s.scope → AreNamed s.scope (done_by next stmt) → (s' : Progress) × (bound_stmt s stmt ≡ Ok s')
stmt_ok s (VarStmt name value at) next no_batch named =
    let es = done_in next value in
    let last : List Event = DeclaresName name (written_val next value) ∷ [] in
    let here = named_rest s.scope es last (quiet_in value next) named in
    let v = val_ok s.scope no_batch value next s.nodes (named_parts s.scope es last named).0 here.1 in
    let s' : Progress = record { scope = with_name name (v.0).value s.scope; nodes = (v.0).nodes; dbrps = s.dbrps } in
    let go : WithNodes ArgTree → Result Progress VarFault = λ made. Ok (record { scope = with_name name made.value s.scope; nodes = made.nodes; dbrps = s.dbrps }) in
    (s', ap (λ b. cond b (Err (Twice at)) (bound_val s.scope s.nodes value >>= go)) here.0 ∙ then_ok (bound_val s.scope s.nodes value) go v.0 s' v.1 refl)
stmt_ok s (DbrpStmt db rp at) next no_batch named = (record s { dbrps = s.dbrps ++ record { db = db; rp = rp } ∷ [] }, refl)
stmt_ok s (ChainStmt head links at) next no_batch named =
    let chain = ChainVal head links at in
    let es = done_along next (OnName head) links in
    let last : List Event = UsesValue (written_val next chain) ∷ [] in
    let here = named_rest s.scope es last (quiet_along links next (OnName head)) named in
    let v = val_ok s.scope no_batch chain next s.nodes (named_parts s.scope es last named).0 here.0 in
    let s' : Progress = record s { nodes = (v.0).nodes } in
    (s', then_ok (bound_val s.scope s.nodes chain) (λ made. Ok (record s { nodes = made.nodes })) v.0 s' v.1 refl)

pub stmts_ok : (script : List StmtTree) (s : Progress) (next : ℕ) → NoBatch s.scope → InScope next s.scope → length s.nodes ≡ next → AreNamed s.scope (all_done next script) → (s' : Progress) × (bound_stmts s script ≡ Ok s')
stmts_ok [] s next no_batch ins len named = (s, refl)
stmts_ok (stmt ∷ script) s next no_batch ins len named =
    let then = next + pipes_of stmt in
    let es = done_by next stmt in
    let fs = all_done then script in
    let parts = named_parts s.scope es fs named in
    let a = stmt_ok s stmt next no_batch parts.0 in
    let mid = a.0 in
    let one = stmt_done s.scope s mid stmt next (λ n x h. h) ins len a.1 in
    let r = stmts_ok script mid then (subst NoBatch (sym one.scope_is) (batch_kept s.scope es no_batch parts.0)) one.in_scope
    (length_done s.scope next (pipes_of stmt) es s.nodes mid.nodes one.done len) (subst (λ x. AreNamed x fs) (sym one.scope_is) parts.1) in
    (r.0, then_ok (bound_stmt s stmt) (λ x. bound_stmts x script) mid r.0 a.1 r.1)

pub first_no_batch : NoBatch first_scope
first_no_batch = with_name_batch (λ _. None) (codes "stream") (NodeArg 0 0) refl (λ name is. refl)

pub bound : (script : List StmtTree) → IsWellNamed script → (bound : BoundTree) × (bound_of script ≡ Ok bound)
bound script named =
    let a = stmts_ok script at_first 1 first_no_batch first_in_scope refl named in
    let b : BoundTree = record { dbrps = (a.0).dbrps; nodes = (a.0).nodes } in
    (b, then_ok (bound_stmts at_first script) (λ s. Ok (record { dbrps = s.dbrps; nodes = s.nodes })) a.0 b a.1 refl)
