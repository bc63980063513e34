-- What binding does is what the events do, where names stand for what they do in the end.
use Rattle.std.proofs.Common.{◌≡◌, ℕ, ◌+◌, ◌<◌, ◌≤◌, true, false, List, [], ◌∷◌, ◌++◌, map, length, Some, unwrap_or, Result, Ok, refl, sym, ap, subst, ◌∙◌, arith}
use Rattle.std.proofs.lemmas.List.{append-nil, append_assoc, length_push}
use Rattle.kap_base.proofs.TestLaws.{bind_ok, ok_is}
use Rattle.kap_base.specs.Words.{◌>>=◌}
use Rattle.tick_parser.specs.Trees.{ValTree, LitVal, StarVal, LambdaVal, ChainVal, ValTrees, NoVals, MoreVals, JointTrees, NoJoints, MoreJoints}
use Rattle.tick_vars.specs.declared.fault.VarFault.{VarFault}
use Rattle.tick_vars.specs.Nodes.{ArgTree, LitArg, StarArg, LambdaArg, NodeArg, NodeTree}
use Rattle.tick_vars.specs.Names.{Scope, as_node, bound_lambda, handed_on, looked_up}
use Rattle.tick_vars.specs.Binding.{WithNodes, and_arg, bound_links, bound_val, bound_vals, linked, with_prop}
use Rattle.tick_vars.specs.Law.{Upstream, OnNode, OnName, Written, FromLit, FromStar, FromLambda, FromChain, Event, MakesNode, SetsProp, Settled, arg_of, done_along, done_among, done_in, chain_end, node_at, number_of, pipes_along, pipes_among, pipes_in, written_val, written_vals}
use Rattle.tick_vars.proofs.Steps.{Extends, found, linked_node}
use Rattle.tick_vars.proofs.Playing.{AllBelow, ArgBelow, ArgsBelow, NodeBelow, below_append, length_play, length_with_prop, makes, makes_append, play, play_append}
use Rattle.tick_vars.proofs.Lambdas.{lambda_replaced, nameless}

-- ---- more nodes

pub settled_more : (k l : ℕ) (arg : ArgTree) → k ≤ l → Settled k arg → Settled l arg
settled_more k l (LitArg lit at) le h = tt
settled_more k l (StarArg at) le h = tt
settled_more k l (LambdaArg body at) le h = h
settled_more k l (NodeArg number at) le h = omega arith

-- what the names of a scope stand for is settled
abbrev pub InScope : ℕ → Scope → Type 0
InScope k s = (name : List ℕ) (arg : ArgTree) → s name ≡ Some arg → Settled k arg

pub scope_more : (k l : ℕ) (s : Scope) → k ≤ l → InScope k s → InScope l s
scope_more k l s le h name arg is = settled_more k l arg le (h name arg is)

node_more : (f : Scope) (k l : ℕ) (on : Upstream) → k ≤ l → NodeBelow f k on → NodeBelow f l on
node_more f k l (OnNode number) le h = omega arith
node_more f k l (OnName name) le h = let lt = h.3 in (h.0, h.1, h.2, omega arith)

arg_more : (f : Scope) (k l : ℕ) (from : Written) → k ≤ l → ArgBelow f k from → ArgBelow f l from
arg_more f k l (FromLit lit at) le h = tt
arg_more f k l (FromStar at) le h = tt
arg_more f k l (FromLambda body at) le h = h
arg_more f k l (FromChain (OnNode number) at) le h = omega arith
arg_more f k l (FromChain (OnName name) at) le h = (h.0, h.1, settled_more k l h.0 le h.2)

handed_settled : (k at : ℕ) (arg : ArgTree) → Settled k arg → Settled k (handed_on at arg)
handed_settled k at (LitArg lit place) h = tt
handed_settled k at (StarArg place) h = tt
handed_settled k at (LambdaArg body place) h = h
handed_settled k at (NodeArg number place) h = h

pub arg_settled : (f : Scope) (k : ℕ) (from : Written) → ArgBelow f k from → Settled k (arg_of f from)
arg_settled f k (FromLit lit at) h = tt
arg_settled f k (FromStar at) h = tt
arg_settled f k (FromLambda body at) h = nameless f body h
arg_settled f k (FromChain (OnNode number) at) h = h
arg_settled f k (FromChain (OnName name) at) h = subst (λ o. Settled k (handed_on at (unwrap_or o (StarArg at)))) (sym h.1) (handed_settled k at h.0 h.2)

-- ---- chains

chain_arg : (f : Scope) (k at : ℕ) (on : Upstream) → NodeBelow f k on → NodeArg (node_at f on) at ≡ arg_of f (FromChain on at)
chain_arg f k at (OnNode number) h = refl
chain_arg f k at (OnName name) h = ap (λ o. NodeArg (number_of o) at) h.2 ∙ sym (ap (λ o. handed_on at (unwrap_or o (StarArg at))) h.2)

chain_is_arg : (f : Scope) (k at : ℕ) (on : Upstream) → NodeBelow f k on → ArgBelow f k (FromChain on at)
chain_is_arg f k at (OnNode number) h = h
chain_is_arg f k at (OnName name) h = (NodeArg h.0 h.1, h.2, h.3)

-- ---- events

-- the events lead from these nodes to those, and make so many
pub record Done (f : Scope) (next count : ℕ) (events : List Event) (nodes after : List NodeTree) : Type 0 where
  pub after_is : after ≡ play f events nodes
  pub counted : makes events ≡ count
  pub stands : AllBelow f next events

pub done_nothing : (f : Scope) (next : ℕ) (nodes after : List NodeTree) → nodes ≡ after → Done f next 0 [] nodes after
done_nothing f next nodes after is = record { after_is = sym is; counted = refl; stands = tt }

pub done_both : (f : Scope) (next c d n : ℕ) (es fs : List Event) (nodes mid after : List NodeTree) → c + d ≡ n → Done f next c es nodes mid → Done f (next + c) d fs mid after → Done f next n (es ++ fs) nodes after
done_both f next c d n es fs nodes mid after sum one two = record {
  after_is = two.after_is ∙ ap (play f fs) one.after_is ∙ sym (play_append f es fs nodes);
  counted = let a = makes_append es fs in let b = one.counted in let e = two.counted in omega arith;
  stands = below_append f next es fs one.stands (subst (λ k. AllBelow f (next + k) fs) (sym one.counted) two.stands);
}

pub length_done : (f : Scope) (next count : ℕ) (events : List Event) (nodes after : List NodeTree) → Done f next count events nodes after → length nodes ≡ next → length after ≡ next + count
length_done f next count events nodes after h is =
    let a : length after ≡ length (play f events nodes) = ap length h.after_is in
    let b = length_play f events nodes in
    let e = h.counted in
    omega arith

-- a node, and what comes after it
done_node : (f : Scope) (next count on_number at : ℕ) (name : List ℕ) (on : Upstream) (from : List Written) (args : List ArgTree) (events : List Event) (nodes after : List NodeTree)
    → NodeBelow f next on → on_number ≡ node_at f on → ArgsBelow f next from → args ≡ map (arg_of f) from
    → Done f (next + 1) count events (nodes ++ record { kind = name; parent = on_number; args = args; props = []; at = at } ∷ []) after
    → Done f next (1 + count) (MakesNode name on from at ∷ events) nodes after
done_node f next count on_number at name on from args events nodes after is_on on_is are args_are h = record {
  after_is = h.after_is ∙ (λ i. play f events (nodes ++ record { kind = name; parent = on_is i; args = args_are i; props = []; at = at } ∷ []));
  counted = ap (λ k. 1 + k) h.counted;
  stands = (is_on, are, h.stands);
}

-- a property, and what comes after it
done_prop : (f : Scope) (next count on_number at : ℕ) (name : List ℕ) (on : Upstream) (from : List Written) (args : List ArgTree) (events : List Event) (nodes after : List NodeTree)
    → NodeBelow f next on → on_number ≡ node_at f on → ArgsBelow f next from → args ≡ map (arg_of f) from
    → Done f next count events (with_prop on_number (record { name = name; args = args; at = at }) nodes) after
    → Done f next count (SetsProp name on from at ∷ events) nodes after
done_prop f next count on_number at name on from args events nodes after is_on on_is are args_are h = record {
  after_is = h.after_is ∙ (λ i. play f events (with_prop (on_is i) (record { name = name; args = args_are i; at = at }) nodes));
  counted = h.counted;
  stands = (is_on, are, h.stands);
}

-- ---- values and links

abbrev ValDone : Scope → ℕ → ValTree → List NodeTree → WithNodes ArgTree → Type 0
ValDone f next v nodes m =
    (m.value ≡ arg_of f (written_val next v)) × ArgBelow f (next + pipes_in v) (written_val next v) × Done f next (pipes_in v) (done_in next v) nodes m.nodes

abbrev ValsDone : Scope → ℕ → ValTrees → WithNodes (List ArgTree) → WithNodes (List ArgTree) → Type 0
ValsDone f next vs made m =
    (m.value ≡ made.value ++ map (arg_of f) (written_vals next vs)) × ArgsBelow f (next + pipes_among vs) (written_vals next vs)
    × Done f next (pipes_among vs) (done_among next vs) made.nodes m.nodes

abbrev LinksDone : Scope → ℕ → Upstream → JointTrees → WithNodes ℕ → WithNodes ℕ → Type 0
LinksDone f next on links made m =
    (m.value ≡ node_at f (chain_end next on links)) × NodeBelow f (next + pipes_along links) (chain_end next on links)
    × Done f next (pipes_along links) (done_along next on links) made.nodes m.nodes

-- a chain, where its links are done
chain_done : (s f : Scope) → Extends s f → (head : List ℕ) (links : JointTrees) (at next : ℕ) (nodes : List NodeTree) (m : WithNodes ArgTree) → InScope next s
    → ((made last : WithNodes ℕ) → length made.nodes ≡ next → NodeBelow f next (OnName head) → made.value ≡ node_at f (OnName head) → bound_links s made links ≡ Ok last → LinksDone f next (OnName head) links made last)
    → length nodes ≡ next → bound_val s nodes (ChainVal head links at) ≡ Ok m → ValDone f next (ChainVal head links at) nodes m
chain_done s f extends head NoJoints at next nodes m ins along len is =
    let a = bind_ok (looked_up s head at) (λ arg. Ok (record { value = handed_on at arg; nodes = nodes })) m is in
    let there = found s head at a.0 a.1 in
    let e = ok_is (record { value = handed_on at a.0; nodes = nodes }) m a.2 in (
      sym (ap (λ x. x.value) e) ∙ sym (ap (λ o. handed_on at (unwrap_or o (StarArg at))) (extends head a.0 there)),
      (a.0, extends head a.0 there, settled_more next (next + 0) a.0 (omega arith) (ins head a.0 there)),
      done_nothing f next nodes m.nodes (ap (λ x. x.nodes) e),
    )
chain_done s f extends head (MoreJoints node name args place rest) at next nodes m ins along len is =
    let links = MoreJoints node name args place rest in
    let go : ℕ → Result (WithNodes ℕ) VarFault = λ number. bound_links s (record { value = number; nodes = nodes }) links in
    let a = bind_ok (looked_up s head at >>= as_node at >>= go) (λ made. Ok (record { value = NodeArg made.value at; nodes = made.nodes })) m is in
    let b = bind_ok (looked_up s head at >>= as_node at) go a.0 a.1 in
    let d = bind_ok (looked_up s head at) (as_node at) b.0 b.1 in
    let there = found s head at d.0 d.1 in
    let n = linked_node at b.0 d.0 d.2 in
    let told : f head ≡ Some (NodeArg b.0 n.0) = extends head d.0 there ∙ ap (λ x. Some x) n.1 in
    let below : b.0 < next = subst (Settled next) n.1 (ins head d.0 there) in
    let r = along (record { value = b.0; nodes = nodes }) a.0 len (b.0, n.0, told, below) (sym (ap number_of told)) b.2 in
    let e = ok_is (record { value = NodeArg (a.0).value at; nodes = (a.0).nodes }) m a.2 in
    let last = chain_end next (OnName head) links in (
      sym (ap (λ x. x.value) e) ∙ ap (λ k. NodeArg k at) r.0 ∙ chain_arg f (next + pipes_along links) at last r.1,
      chain_is_arg f (next + pipes_along links) at last r.1,
      subst (λ after. Done f next (pipes_along links) (done_along next (OnName head) links) nodes after) (ap (λ x. x.nodes) e) r.2,
    )

module _ (s f : Scope) (extends : Extends s f) where
  mutual
    pub val_done : (v : ValTree) (next : ℕ) (nodes : List NodeTree) (m : WithNodes ArgTree) → InScope next s → length nodes ≡ next → bound_val s nodes v ≡ Ok m → ValDone f next v nodes m
    val_done (LitVal lit at) next nodes m ins len is =
        let e = ok_is (record { value = LitArg lit at; nodes = nodes }) m is in
        (sym (ap (λ x. x.value) e), tt, done_nothing f next nodes m.nodes (ap (λ x. x.nodes) e))
    val_done (StarVal at) next nodes m ins len is =
        let e = ok_is (record { value = StarArg at; nodes = nodes }) m is in
        (sym (ap (λ x. x.value) e), tt, done_nothing f next nodes m.nodes (ap (λ x. x.nodes) e))
    val_done (LambdaVal body at) next nodes m ins len is =
        let a = bind_ok (bound_lambda s body) (λ body. Ok (record { value = LambdaArg body at; nodes = nodes })) m is in
        let r = lambda_replaced s f extends body a.0 a.1 in
        let e = ok_is (record { value = LambdaArg a.0 at; nodes = nodes }) m a.2 in
        (sym (ap (λ x. x.value) e) ∙ ap (λ b. LambdaArg b at) r.0, r.1, done_nothing f next nodes m.nodes (ap (λ x. x.nodes) e))
    val_done (ChainVal head links at) next nodes m ins len is =
        chain_done s f extends head links at next nodes m ins (λ made last long is_on on_is h. links_done links next (OnName head) made last ins long is_on on_is h) len is

    pub vals_done : (vs : ValTrees) (next : ℕ) (made m : WithNodes (List ArgTree)) → InScope next s → length made.nodes ≡ next → bound_vals s made vs ≡ Ok m → ValsDone f next vs made m
    vals_done NoVals next made m ins len is =
        let e = ok_is made m is in
        (sym (ap (λ x. x.value) e) ∙ sym (append-nil made.value), tt, done_nothing f next made.nodes m.nodes (ap (λ x. x.nodes) e))
    vals_done (MoreVals first rest) next made m ins len is =
        let a = bind_ok (bound_val s made.nodes first) (λ n. bound_vals s (and_arg made.value n) rest) m is in
        let v = val_done first next made.nodes a.0 ins len a.1 in
        let then = next + pipes_in first in
        let r = vals_done rest then (and_arg made.value a.0) m (scope_more next then s (omega arith) ins) (length_done f next (pipes_in first) (done_in next first) made.nodes (a.0).nodes v.2 len) a.2 in
        let same : then + pipes_among rest ≡ next + (pipes_in first + pipes_among rest) = omega arith in (
          r.0 ∙ append_assoc made.value ((a.0).value ∷ []) (map (arg_of f) (written_vals then rest)) ∙ ap (λ x. made.value ++ x ∷ map (arg_of f) (written_vals then rest)) v.0,
          (arg_more f then (next + (pipes_in first + pipes_among rest)) (written_val next first) (omega arith) v.1, subst (λ k. ArgsBelow f k (written_vals then rest)) same r.1),
          done_both f next (pipes_in first) (pipes_among rest) (pipes_in first + pipes_among rest) (done_in next first) (done_among then rest) made.nodes (a.0).nodes m.nodes refl v.2 r.2,
        )

    pub links_done : (links : JointTrees) (next : ℕ) (on : Upstream) (made m : WithNodes ℕ) → InScope next s → length made.nodes ≡ next → NodeBelow f next on → made.value ≡ node_at f on
        → bound_links s made links ≡ Ok m → LinksDone f next on links made m
    links_done NoJoints next on made m ins len is_on on_is is =
        let e = ok_is made m is in
        (sym (ap (λ x. x.value) e) ∙ on_is, node_more f next (next + 0) on (omega arith) is_on, done_nothing f next made.nodes m.nodes (ap (λ x. x.nodes) e))
    links_done (MoreJoints true name args at rest) next on made m ins len is_on on_is is =
        let a = bind_ok (bound_vals s (record { value = []; nodes = made.nodes }) args) (λ w. bound_links s (linked true name at made.value w) rest) m is in
        let w = a.0 in
        let v = vals_done args next (record { value = []; nodes = made.nodes }) w ins len a.1 in
        let then = next + pipes_among args in
        let count = length_done f next (pipes_among args) (done_among next args) made.nodes w.nodes v.2 len in
        let node : NodeTree = record { kind = name; parent = made.value; args = w.value; props = []; at = at } in
        let more = length_push w.nodes node in
        let r = links_done rest (then + 1) (OnNode then) (linked true name at made.value w) m (scope_more next (then + 1) s (omega arith) ins) (omega arith) (omega arith) count a.2 in
        let same : then + 1 + pipes_along rest ≡ next + (pipes_among args + 1 + pipes_along rest) = omega arith in (
          r.0,
          subst (λ k. NodeBelow f k (chain_end (then + 1) (OnNode then) rest)) same r.1,
          done_both f next (pipes_among args) (1 + pipes_along rest) (pipes_among args + 1 + pipes_along rest) (done_among next args) (MakesNode name on (written_vals next args) at ∷ done_along (then + 1) (OnNode then) rest)
              made.nodes w.nodes m.nodes (omega arith) v.2
              (done_node f then (pipes_along rest) made.value at name on (written_vals next args) w.value (done_along (then + 1) (OnNode then) rest) w.nodes m.nodes
              (node_more f next then on (omega arith) is_on) on_is v.1 v.0 r.2),
        )
    links_done (MoreJoints false name args at rest) next on made m ins len is_on on_is is =
        let a = bind_ok (bound_vals s (record { value = []; nodes = made.nodes }) args) (λ w. bound_links s (linked false name at made.value w) rest) m is in
        let w = a.0 in
        let v = vals_done args next (record { value = []; nodes = made.nodes }) w ins len a.1 in
        let then = next + pipes_among args in
        let count = length_done f next (pipes_among args) (done_among next args) made.nodes w.nodes v.2 len in
        let kept = length_with_prop made.value (record { name = name; args = w.value; at = at }) w.nodes in
        let is_then = node_more f next then on (omega arith) is_on in
        let r = links_done rest then on (linked false name at made.value w) m (scope_more next then s (omega arith) ins) (kept ∙ count) is_then on_is a.2 in
        let same : then + pipes_along rest ≡ next + (pipes_among args + 0 + pipes_along rest) = omega arith in (
          r.0,
          subst (λ k. NodeBelow f k (chain_end then on rest)) same r.1,
          done_both f next (pipes_among args) (pipes_along rest) (pipes_among args + 0 + pipes_along rest) (done_among next args) (SetsProp name on (written_vals next args) at ∷ done_along then on rest)
              made.nodes w.nodes m.nodes (omega arith) v.2
              (done_prop f then (pipes_along rest) made.value at name on (written_vals next args) w.value (done_along then on rest) w.nodes m.nodes is_then on_is v.1 v.0 r.2),
        )
