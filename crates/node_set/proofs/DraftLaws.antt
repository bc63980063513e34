-- Nodes that were made for those of a graph are what is planned of a task.
use Rattle.std.proofs.Common.{◌≡◌, ℕ, ◌+◌, ◌<◌, ◌≤◌, Bool, true, false, Option, None, Some, List, [], ◌∷◌, ◌++◌, length, map, refl, sym, ap, ◌∙◌, subst, append_assoc, append-nil, arith}
use Rattle.std.specs.Prelude.{◌&&◌, ◌||◌, IsTrue, if◌then◌else◌, nat_eq, nat_le, nat_lt, zip}
use Rattle.std.specs.List.{AllByRecursion as Each, list_all}
use Rattle.std.proofs.lemmas.Bool.Decides.{nat_tests}
use Rattle.kap_base.specs.Tree.{Tree}
use Rattle.kap_base.proofs.TestLaws.{first_of, second_of}
use Rattle.task_graph.specs.Edges.{cannot_stand, ends_chain, is_stream, is_wrong_kind}
use Rattle.task_graph.specs.Graphs.{IsGraph, are_behind, are_different, fault_from, has_shape, is_fit, node_fault, some_parent as has_parent}
use Rattle.task_graph.specs.Graphs.{first as earlier}
use Rattle.task_graph.specs.declared.graph.GraphFault.{GraphFault}
use Rattle.task_graph.specs.declared.graph.GraphFault.TheVariants.{Chain, Kind, Parents, TooManyNodes}
use Rattle.task_graph.specs.declared.graph.TheConstants.{NODE_LIMIT, PARENT_LIMIT}
use Rattle.task_graph.specs.declared.spec.NodeSpec.{NodeSpec}
use Rattle.task_graph.specs.declared.spec.Spec.{Spec}
use Rattle.task_graph.specs.declared.spec.Spec.TheVariants.{Stream, From, Where, Eval, GroupBy, Log, Default, Delete, Shift, Sample, Window, Select, StateCount, ChangeDetect, Difference, CumulativeSum, Elapsed, Union, Join, Alert}
use Rattle.task_run.specs.Plans.{AreBelow, AreFirstNodes, AreNodesFrom, IsNodeAt, IsPlan, PlanValue, graph_of}
use Rattle.node_set.specs.Drafts.{AddsNodes, AreNodesOf, DraftValue, IsNodeOf}
use Rattle.node_set.specs.Tasks.{Planned, Sits, nodes_from}

-- ---- parents

is_some_one : (n : ℕ) → IsTrue (nat_eq n 1) → 0 < n
is_some_one n h = grind (arith, nat_tests)

is_some : (n : ℕ) → IsTrue (nat_lt 0 n) → 0 < n
is_some n h = grind (arith, nat_tests)

-- what fits has a parent
some_parent : (n : ℕ) (spec : Spec Tree) → IsTrue (is_fit n spec) → 0 < n
some_parent n (Stream dbrps) = is_some_one n
some_parent n (From from) = is_some_one n
some_parent n (Where condition) = is_some_one n
some_parent n (Eval eval) = λ h. is_some_one n (first_of (nat_eq n 1) (nat_lt 0 (length eval.results)) h)
some_parent n (GroupBy group) = is_some_one n
some_parent n (Log log) = is_some_one n
some_parent n (Default settings) = is_some_one n
some_parent n (Delete settings) = is_some_one n
some_parent n (Shift by) = is_some_one n
some_parent n (Sample k) = is_some_one n
some_parent n (Window window) = is_some_one n
some_parent n (Select select) = is_some_one n
some_parent n (StateCount count) = is_some_one n
some_parent n (ChangeDetect fields) = is_some_one n
some_parent n (Difference field) = is_some_one n
some_parent n (CumulativeSum field) = is_some_one n
some_parent n (Elapsed elapsed) = is_some_one n
some_parent n (Union rename) = is_some n
some_parent n (Join join) = λ h. is_some n (first_of (nat_lt 0 n) (nat_eq (length join.prefixes) n) (first_of (nat_lt 0 n && nat_eq (length join.prefixes) n) (are_different join.prefixes) h))
some_parent n (Alert alert) = is_some_one n

below : (number : ℕ) (parents : List ℕ) → IsTrue (list_all (λ p. nat_lt p number) parents) → AreBelow number parents
below number [] h = tt
below number (p ∷ ps) h =
    let lower : IsTrue (nat_lt p number) = first_of (nat_lt p number) (list_all (λ p. nat_lt p number) ps) h in
    (grind (arith, nat_tests), below number ps (second_of (nat_lt p number) (list_all (λ p. nat_lt p number) ps) h))

-- ---- how many nodes a graph has

no_fault : (a b : Option GraphFault) → earlier a b ≡ None → (a ≡ None) × (b ≡ None)
no_fault None b h = (refl, h)
no_fault (Some f) b h = absurd cc

not_many : (b : Bool) (rest : Option GraphFault) → (if b then Some TooManyNodes else rest) ≡ None → b ≡ false
not_many true rest h = absurd cc
not_many false rest h = refl

is_low : (nodes : List (NodeSpec Tree)) (number : ℕ) (node : NodeSpec Tree) → node_fault nodes number node ≡ None → nat_le NODE_LIMIT number ≡ false
is_low nodes number node h = not_many (nat_le NODE_LIMIT number) _ h

-- nodes without a fault, numbered from here on, are few
few_from : (all : List (NodeSpec Tree)) (number : ℕ) (nodes : List (NodeSpec Tree)) → number ≤ NODE_LIMIT → fault_from all number nodes ≡ None → number + length nodes ≤ NODE_LIMIT
few_from all number [] le h = omega (arith, le)
few_from all number (node ∷ nodes) le h =
    let none = no_fault (node_fault all number node) (fault_from all (number + 1) nodes) h in
    let low : nat_le NODE_LIMIT number ≡ false = is_low all number node none.0 in
    let less : number < NODE_LIMIT = grind (arith, nat_tests) in
    let more = few_from all (number + 1) nodes (omega (arith, less)) none.1 in
    omega (arith, more)

-- a graph has few nodes
pub few : (graph : List (NodeSpec Tree)) → IsGraph graph → 0 + length graph ≤ NODE_LIMIT
few graph h = few_from graph 0 graph (omega arith) h.faultless

-- a later question is asked where an earlier one has no answer
asked_later : (b : Bool) (fault : GraphFault) (rest : Option GraphFault) → (if b then Some fault else rest) ≡ None → (b ≡ false) × (rest ≡ None)
asked_later true fault rest h = absurd cc
asked_later false fault rest h = (refl, h)

second_none : (a b : Bool) → (a || b) ≡ false → b ≡ false
second_none true b h = absurd cc
second_none false b h = h

-- a node without a fault has few parents
few_parents_of : (all : List (NodeSpec Tree)) (number : ℕ) (node : NodeSpec Tree) → node_fault all number node ≡ None → length node.parents ≤ PARENT_LIMIT
few_parents_of all number node h =
    let chains : Bool = has_parent (ends_chain {L = Tree}) all node.parents in
    let stands : Bool = has_parent (cannot_stand {L = Tree} node.spec) all node.parents in
    let wrong : Bool = has_parent (is_wrong_kind {L = Tree} node.spec) all node.parents in
    let many : Bool = nat_lt PARENT_LIMIT (length node.parents) in
    let last : Option GraphFault = if wrong then Some (Kind number) else None in
    let third : Option GraphFault = if stands || many then Some (Parents number) else last in
    let second : Option GraphFault = if chains then Some (Chain number) else third in
    let behind : third ≡ None = (asked_later chains (Chain number) third (asked_later (nat_le NODE_LIMIT number) TooManyNodes second h).1).1 in
    let low : many ≡ false = second_none stands many (asked_later (stands || many) (Parents number) last behind).0 in
    grind (arith, nat_tests)

few_parents_from : (all : List (NodeSpec Tree)) (number : ℕ) (nodes : List (NodeSpec Tree)) → fault_from all number nodes ≡ None → Each (λ (ps : List ℕ). length ps ≤ PARENT_LIMIT) (map (λ n. n.parents) nodes)
few_parents_from all number [] h = tt
few_parents_from all number (node ∷ nodes) h =
    let none = no_fault (node_fault all number node) (fault_from all (number + 1) nodes) h in
    (few_parents_of all number node none.0, few_parents_from all (number + 1) nodes none.1)

-- each node of a graph has few parents
pub few_parents : (graph : List (NodeSpec Tree)) → IsGraph graph → Each (λ (ps : List ℕ). length ps ≤ PARENT_LIMIT) (map (λ n. n.parents) graph)
few_parents graph h = few_parents_from graph 0 graph h.faultless

module _ {N P S : Type 0} (spec : N → P) (state : N → S) (first : P → S) (planned : Planned P) (task : List ℕ) where
  abbrev Are : ℕ → ℕ → List (NodeSpec Tree) → List N → Type 0
  Are = AreNodesOf spec state first planned task

  abbrev Adds : ℕ → ℕ → List (NodeSpec Tree) → DraftValue N → DraftValue N → Type 0
  Adds = AddsNodes spec state first planned task

  -- ---- adding nodes

  -- one node that is another's
  record IsOne (life number : ℕ) (node : NodeSpec Tree) (ns : List N) : Type 0 where
    pub n : N
    pub is : ns ≡ n ∷ []
    pub of : IsNodeOf spec state first planned task life number node n

  one : (life number : ℕ) (node : NodeSpec Tree) (ns : List N) → Are life number (node ∷ []) ns → IsOne life number node ns
  one life number node [] h = absurd h
  one life number node (n ∷ []) h = record { n = n; is = refl; of = h.0 }
  one life number node (n ∷ m ∷ ms) h = absurd h.1

  -- a list with one item more and then others
  then_more : {A : Type 0} (a b c more : List A) (x : A) → b ≡ a ++ x ∷ [] → c ≡ b ++ more → c ≡ a ++ x ∷ more
  then_more {A = A} a b c more x p q = q ∙ ap (λ (l : List A). l ++ more) p ∙ append_assoc a (x ∷ []) more

  pub adds_first : (life number : ℕ) (node : NodeSpec Tree) (nodes : List (NodeSpec Tree)) (a b c : DraftValue N)
      → Adds life number (node ∷ []) a b → Adds life (number + 1) nodes b c → Adds life number (node ∷ nodes) a c
  adds_first life number node nodes a b c p q =
      let o = one life number node p.added p.are in
      record {
        added = o.n ∷ q.added;
        are = (o.of, q.are);
        nodes_are = then_more a.nodes b.nodes c.nodes q.added o.n (p.nodes_are ∙ ap (λ (l : List N). a.nodes ++ l) o.is) q.nodes_are;
        parents_are = then_more a.parents b.parents c.parents (map (λ n. n.parents) nodes) node.parents p.parents_are q.parents_are;
        names_are = then_more a.names b.names c.names (map (λ n. n.name) nodes) node.name p.names_are q.names_are;
      }

  pub adds_none : (life number : ℕ) (a : DraftValue N) → Adds life number [] a a
  adds_none life number a = record {
    added = [];
    are = tt;
    nodes_are = sym (append-nil a.nodes);
    parents_are = sym (append-nil a.parents);
    names_are = sym (append-nil a.names);
  }

  -- ---- what was added is the graph

  pub are_graph : (life number : ℕ) (graph : List (NodeSpec Tree)) (ns : List N) → Are life number graph ns
      → map (λ (p : N × List ℕ). record { spec = spec p.0; parents = p.1 }) (zip ns (map (λ n. n.parents) graph)) ≡ nodes_from planned task life number graph
  are_graph life number [] [] h = refl
  are_graph life number [] (n ∷ ns) h = absurd h
  are_graph life number (g ∷ gs) [] h = absurd h
  are_graph life number (g ∷ gs) (n ∷ ns) h = rw (h.0.made, are_graph life (number + 1) gs ns h.1) refl

  pub begin : (life number : ℕ) (graph : List (NodeSpec Tree)) (ns : List N) → Are life number graph ns → AreFirstNodes spec state first ns
  begin life number [] [] h = tt
  begin life number [] (n ∷ ns) h = absurd h
  begin life number (g ∷ gs) [] h = absurd h
  begin life number (g ∷ gs) (n ∷ ns) h = (h.0.begins ∙ ap first (sym h.0.made), begin life (number + 1) gs ns h.1)

  -- ---- and a plan

  module _ (ports life_of number_of : P → ℕ) (all_sit : (task : List ℕ) (life number : ℕ) (g : NodeSpec Tree) → Sits ports life_of number_of life number (length g.parents) g.spec (planned task life number g)) where
    abbrev PlannedFrom : ℕ → ℕ → List N → List (List ℕ) → Type 0
    PlannedFrom = AreNodesFrom spec ports life_of number_of

    sits : (life number : ℕ) (g : NodeSpec Tree) (n : N) → IsNodeOf spec state first planned task life number g n → Sits ports life_of number_of life number (length g.parents) g.spec (spec n)
    sits life number g n h = subst (Sits ports life_of number_of life number (length g.parents) g.spec) (sym h.made) (all_sit task life number g)

    -- the stream has no parent
    stands_first : (life : ℕ) (g : NodeSpec Tree) (n : N) → IsNodeOf spec state first planned task life 0 g n → IsTrue (is_stream g.spec) → length g.parents ≡ 0
        → IsNodeAt life 0 (ports (spec n)) (life_of (spec n)) (number_of (spec n)) g.parents
    stands_first life g n h stream none = by g.parents none where
      at : Sits ports life_of number_of life 0 (length g.parents) g.spec (spec n)
      at = sits life 0 g n h

      by : (parents : List ℕ) → length parents ≡ 0 → IsNodeAt life 0 (ports (spec n)) (life_of (spec n)) (number_of (spec n)) parents
      by [] e = record { life_is = at.life_is; number_is = at.number_is; earlier = tt; some_parent = λ h. absurd (omega arith); ports_are = at.stream_port stream }
      by (p ∷ ps) e = absurd (omega arith)

    stands : (life number : ℕ) (g : NodeSpec Tree) (n : N) → IsNodeOf spec state first planned task life number g n → IsTrue (is_fit (length g.parents) g.spec)
        → IsTrue (list_all (λ p. nat_lt p number) g.parents) → IsNodeAt life number (ports (spec n)) (life_of (spec n)) (number_of (spec n)) g.parents
    stands life number g n h fit lower =
        let at = sits life number g n h in
        let some : 0 < length g.parents = some_parent (length g.parents) g.spec fit in
        record {
          life_is = at.life_is;
          number_is = at.number_is;
          earlier = below number g.parents lower;
          some_parent = λ h. some;
          ports_are = at.ports_are fit;
        }

    planned_behind : (life number : ℕ) (graph : List (NodeSpec Tree)) (ns : List N) → Are life number graph ns → IsTrue (are_behind number graph) → PlannedFrom life number ns (map (λ n. n.parents) graph)
    planned_behind life number [] [] h shape = tt
    planned_behind life number [] (n ∷ ns) h shape = absurd h
    planned_behind life number (g ∷ gs) [] h shape = absurd h
    planned_behind life number (g ∷ gs) (n ∷ ns) h shape =
        let fit : Bool = is_fit (length g.parents) g.spec in
        let lower : Bool = list_all (λ p. nat_lt p number) g.parents in
        let here = first_of (fit && lower) (are_behind (number + 1) gs) shape in (
          stands life number g n h.0 (first_of fit lower here) (second_of fit lower here),
          planned_behind life (number + 1) gs ns h.1 (second_of (fit && lower) (are_behind (number + 1) gs) shape),
        )

    -- the nodes of a graph are a plan
    pub plan_stands : (life : ℕ) (graph : List (NodeSpec Tree)) (ns : List N) → Are life 0 graph ns → IsTrue (has_shape graph)
        → IsPlan spec ports life_of number_of (record { life = life; nodes = ns; parents = map (λ n. n.parents) graph })
    plan_stands life [] ns h shape = absurd cc
    plan_stands life (g ∷ gs) [] h shape = absurd h
    plan_stands life (g ∷ gs) (n ∷ ns) h shape =
        let stream : Bool = is_stream g.spec in
        let alone : Bool = nat_eq (length g.parents) 0 in
        let none : IsTrue alone = second_of stream alone (first_of (stream && alone) (are_behind 1 gs) shape) in
        record {
          some_node = omega arith;
          nodes = (stands_first life g n h.0 (first_of stream alone (first_of (stream && alone) (are_behind 1 gs) shape)) (grind (arith, nat_tests)), planned_behind life 1 gs ns h.1 (second_of (stream && alone) (are_behind 1 gs) shape));
        }

  -- ---- the whole graph

  -- nothing was made yet
  abbrev Nothing : DraftValue N
  Nothing = record { nodes = []; parents = []; names = [] }

  module _ (life : ℕ) (graph : List (NodeSpec Tree)) (d : DraftValue N) (adds : Adds life 0 graph Nothing d) where
    abbrev plan_of : DraftValue N → PlanValue N
    plan_of d = record { life = life; nodes = d.nodes; parents = d.parents }

    pub whole_nodes : graph_of spec (plan_of d) ≡ nodes_from planned task life 0 graph
    whole_nodes = rw (adds.nodes_are, adds.parents_are) (are_graph life 0 graph adds.added adds.are)

    pub whole_begin : AreFirstNodes spec state first d.nodes
    whole_begin = rw adds.nodes_are (begin life 0 graph adds.added adds.are)

    pub whole_plan : (ports life_of number_of : P → ℕ)
        → ((task : List ℕ) (life number : ℕ) (g : NodeSpec Tree) → Sits ports life_of number_of life number (length g.parents) g.spec (planned task life number g))
        → IsGraph graph → IsPlan spec ports life_of number_of (plan_of d)
    whole_plan ports life_of number_of all_sit h = rw (adds.nodes_are, adds.parents_are) (plan_stands ports life_of number_of all_sit life graph adds.added adds.are h.shape)
