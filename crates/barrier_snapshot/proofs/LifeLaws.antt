-- States of the nodes of lives, one behind the other.
use Rattle.std.proofs.Common.{◌≡◌, ◌≤◌, ℕ, ◌+◌, List, [], ◌∷◌, ◌++◌, length, map, None, Result, Err, refl, sym, ap, subst, ◌∙◌, suc, append_assoc, arith}
use Rattle.std.specs.List.{AllByRecursion as Each, AllZip}
use Rattle.merge_node.specs.declared.TheConstants.{PARENT_LIMIT}
use Rattle.flow_core.specs.Making.{HasFewParents}
use Rattle.node_core.specs.declared.node.Node.{Ghosts}
use Rattle.state_code.specs.declared.fault.CodeFault.{CodeFault}
use Rattle.state_code.specs.declared.fault.CodeFault.TheVariants.{At, NoMemory}
use Rattle.state_code.specs.Places.{Passes, Place, Refuses, TakesExactly}
use Rattle.state_code.specs.Spelling.{Reading, read_then, value_then}
use Rattle.task_run.specs.Plans.{AreNodesFrom, IsPlan, PlanValue}
use Rattle.barrier_snapshot.specs.declared.fault.SnapFault.{SnapFault}
use Rattle.barrier_snapshot.specs.declared.fault.SnapFault.TheVariants.{At as at_place}
use Rattle.barrier_snapshot.specs.Captures.{in_lives}
use Rattle.barrier_snapshot.specs.Loading.{IsSameLife, LoadsLives}
use Rattle.barrier_snapshot.specs.Reading.{RefusedBy, StopsAt, StopsBy, read_each, read_whole}
use Rattle.barrier_snapshot.proofs.ReadLaws.{parted, same_value}

-- ---- some nodes, and others behind them

module _ {P S : Type 0} (read : P → Reading S) where
  -- states of the first nodes, and of the others behind them
  pub each_append : (xs ys : List P) (bytes rest behind : List ℕ) (ss ts : List S) → read_each read xs bytes ≡ value_then ss rest → read_each read ys rest ≡ value_then ts behind → read_each read (xs ++ ys) bytes ≡ value_then (ss ++ ts) behind
  each_append [] ys bytes rest behind ss ts e f =
      let same = same_value [] ss bytes rest e in
      ap (read_each read ys) same.1 ∙ f ∙ ap (λ (l : List S). value_then (l ++ ts) behind) same.0
  each_append (p ∷ xs) ys bytes rest behind ss ts e f =
      let one = parted (read_whole (read p) bytes) (λ s after. read_then (read_each read xs after) (λ others last. value_then (s ∷ others) last)) (ss, rest) e in
      let two = parted (read_each read xs one.rest) (λ others last. value_then (one.value ∷ others) last) (ss, rest) one.second in
      let same = same_value (one.value ∷ two.value) ss two.rest rest two.second in
      let inner = each_append xs ys one.rest two.rest behind two.value ts two.first (ap (read_each read ys) same.1 ∙ f) in
      rw (one.first, inner) (ap (λ (l : List S). value_then (l ++ ts) behind) same.0)

  -- where the others have none, all have none
  pub each_second : (xs ys : List P) (bytes rest : List ℕ) (ss : List S) → read_each read xs bytes ≡ value_then ss rest → read_each read ys rest ≡ None → read_each read (xs ++ ys) bytes ≡ None
  each_second [] ys bytes rest ss e f = ap (read_each read ys) (same_value [] ss bytes rest e).1 ∙ f
  each_second (p ∷ xs) ys bytes rest ss e f =
      let one = parted (read_whole (read p) bytes) (λ s after. read_then (read_each read xs after) (λ others last. value_then (s ∷ others) last)) (ss, rest) e in
      let two = parted (read_each read xs one.rest) (λ others last. value_then (one.value ∷ others) last) (ss, rest) one.second in
      let same = same_value (one.value ∷ two.value) ss two.rest rest two.second in
      let inner = each_second xs ys one.rest two.rest two.value two.first (ap (read_each read ys) same.1 ∙ f) in
      rw (one.first, inner) refl

-- ---- where reading stops

module _ {P S : Type 0} (read : P → Reading S) where
  -- no state of the first node
  pub stops_here : (p : P) (specs : List P) (old : Place) (fault : CodeFault) → RefusedBy (read_whole (read p)) old fault → StopsBy read (p ∷ specs) old fault
  stops_here p specs old (At offset) refused = record { before = []; next = p; after = specs; states = []; place = old; specs_are = refl; passes = record { reads = refl; offset = refl }; none = refused.0; named = refused.1 }
  stops_here p specs old NoMemory refused = tt

  -- it stops among the first ones
  pub stops_within : (xs ys : List P) (old : Place) (fault : CodeFault) → StopsBy read xs old fault → StopsBy read (xs ++ ys) old fault
  stops_within xs ys old (At offset) s = record {
    before = s.before;
    next = s.next;
    after = s.after ++ ys;
    states = s.states;
    place = s.place;
    specs_are = ap (λ (l : List P). l ++ ys) s.specs_are ∙ append_assoc s.before (s.next ∷ s.after) ys;
    passes = s.passes;
    none = s.none;
    named = s.named;
  }
  stops_within xs ys old NoMemory s = tt

  -- or behind them
  pub stops_later : (xs ys : List P) (old mid : Place) (states : List S) (fault : CodeFault) → Passes (read_each read xs) old mid states → StopsBy read ys mid fault → StopsBy read (xs ++ ys) old fault
  stops_later xs ys old mid states (At offset) passes s = record {
    before = xs ++ s.before;
    next = s.next;
    after = s.after;
    states = states ++ s.states;
    place = s.place;
    specs_are = ap (λ (l : List P). xs ++ l) s.specs_are ∙ sym (append_assoc xs s.before (s.next ∷ s.after));
    passes = record {
      reads = each_append read xs s.before old.rest mid.rest s.place.rest states s.states passes.reads s.passes.reads;
      offset = (let one = passes.offset in let two = s.passes.offset in omega (arith, one, two));
    };
    none = s.none;
    named = s.named;
  }
  stops_later xs ys old mid states NoMemory passes s = tt

  -- the first node has its state
  pub passes_first : (p : P) (old new : Place) (s : S) → Passes (read_whole (read p)) old new s → Passes (read_each read (p ∷ [])) old new (s ∷ [])
  passes_first p old new s passes = record { reads = rw passes.reads refl; offset = passes.offset }

  -- where it stops, not all of them have a state
  pub stops_none : (specs : List P) (from : Place) (offset : ℕ) → StopsAt read specs from offset → read_each read specs from.rest ≡ None
  stops_none specs from offset s =
      let behind : read_each read (s.next ∷ s.after) s.place.rest ≡ None = rw s.none refl in
      ap (λ (l : List P). read_each read l from.rest) s.specs_are ∙ each_second read s.before (s.next ∷ s.after) from.rest s.place.rest s.states s.passes.reads behind

-- ---- lives

module _ {N P : Type 0} (spec : N → P) (ports life number : P → ℕ) where
  same_nodes : (which at : ℕ) (nodes others : List N) (parents : List (List ℕ)) → map spec others ≡ map spec nodes → AreNodesFrom spec ports life number which at nodes parents → AreNodesFrom spec ports life number which at others parents
  same_nodes which at [] [] parents e are = are
  same_nodes which at [] (n ∷ others) parents e are = absurd cc
  same_nodes which at (n ∷ nodes) [] parents e are = absurd cc
  same_nodes which at (n ∷ nodes) (m ∷ others) [] e are = absurd are
  same_nodes which at (n ∷ nodes) (m ∷ others) (ps ∷ parents) e are =
      let head : spec m ≡ spec n = cc in
      let tail : map spec others ≡ map spec nodes = cc in (
        record {
          life_is = ap life head ∙ are.0.life_is;
          number_is = ap number head ∙ are.0.number_is;
          earlier = are.0.earlier;
          some_parent = are.0.some_parent;
          ports_are = ap ports head ∙ are.0.ports_are;
        },
        same_nodes which (at + 1) nodes others parents tail are.1,
      )

  same_length : (nodes others : List N) → map spec others ≡ map spec nodes → length others ≡ length nodes
  same_length [] [] e = refl
  same_length [] (n ∷ others) e = absurd cc
  same_length (n ∷ nodes) [] e = absurd cc
  same_length (n ∷ nodes) (m ∷ others) e = ap suc (same_length nodes others cc)

  -- a plan stays one where its nodes are what they were
  pub same_plan : (which : ℕ) (nodes others : List N) (parents : List (List ℕ)) → map spec others ≡ map spec nodes → IsPlan spec ports life number (record { life = which; nodes = nodes; parents = parents }) → IsPlan spec ports life number (record { life = which; nodes = others; parents = parents })
  same_plan which nodes others parents e plan =
      record {
        some_node = (let same = same_length nodes others e in let some = plan.some_node in omega (arith, same, some));
        nodes = same_nodes which 0 nodes others parents e plan.nodes;
      }

module _ {N P S : Type 0} (g : Ghosts N P S) where
  -- where the first node stops, all do
  pub stops_node : (nodes : List N) (n : N) (others : List N) (old : Place) (fault : CodeFault) → nodes ≡ n ∷ others → RefusedBy (read_whole (g.read (g.spec n))) old fault → StopsBy g.read (map g.spec nodes) old fault
  stops_node nodes n others old fault is refused = subst (λ (ns : List N). StopsBy g.read (map g.spec ns) old fault) (sym is) (stops_here g.read (g.spec n) (map g.spec others) old fault refused)

  -- and where the others do
  pub stops_others : (nodes : List N) (n : N) (others : List N) (old mid : Place) (s : S) (fault : CodeFault) → nodes ≡ n ∷ others → Passes (read_whole (g.read (g.spec n))) old mid s → StopsBy g.read (map g.spec others) mid fault → StopsBy g.read (map g.spec nodes) old fault
  stops_others nodes n others old mid s fault is passes stops =
      subst (λ (ns : List N). StopsBy g.read (map g.spec ns) old fault) (sym is) (stops_later g.read (g.spec n ∷ []) (map g.spec others) old mid (s ∷ []) fault (passes_first g.read (g.spec n) old mid s passes) stops)

  -- lives whose nodes have few parents
  pub few_parents : (plans loaded : List (PlanValue N)) → AllZip (IsSameLife g.spec) plans loaded → Each HasFewParents plans → Each HasFewParents loaded
  few_parents [] [] same few = tt
  few_parents [] (l ∷ loaded) same few = absurd same
  few_parents (p ∷ plans) [] same few = absurd same
  few_parents (p ∷ plans) (l ∷ loaded) same few = (subst (Each (λ (ps : List ℕ). length ps ≤ PARENT_LIMIT)) (sym same.0.parents) few.0, few_parents plans loaded same.1 few.1)

  -- a life, and others behind it
  pub loads_more : (plan life : PlanValue N) (plans : List (PlanValue N)) (old mid new : Place) (before after : List (PlanValue N)) → IsSameLife g.spec plan life → Passes (read_each g.read (map g.spec plan.nodes)) old mid (map g.state life.nodes) → LoadsLives g plans mid new (before ++ life ∷ []) after → LoadsLives g (plan ∷ plans) old new before after
  loads_more plan life plans old mid new before after same passes others = record {
    loaded = life ∷ others.loaded;
    added = others.added ∙ append_assoc before (life ∷ []) others.loaded;
    same = (same, others.same);
    passes = record {
      reads = each_append g.read (map g.spec plan.nodes) (in_lives g.spec plans) old.rest mid.rest new.rest (map g.state life.nodes) (in_lives g.state others.loaded) passes.reads others.passes.reads;
      offset = (let one = passes.offset in let two = others.passes.offset in omega (arith, one, two));
    };
  }

  -- the same, where the lists are said by equations
  pub loads_then : (all : List (PlanValue N)) (plan life : PlanValue N) (plans : List (PlanValue N)) (old mid new : Place) (before between after : List (PlanValue N)) → all ≡ plan ∷ plans → between ≡ before ++ life ∷ [] → IsSameLife g.spec plan life → Passes (read_each g.read (map g.spec plan.nodes)) old mid (map g.state life.nodes) → LoadsLives g plans mid new between after → LoadsLives g all old new before after
  loads_then all plan life plans old mid new before between after is more same passes others =
      let here : LoadsLives g (plan ∷ plans) old new before after = loads_more plan life plans old mid new before after same passes (subst (λ (l : List (PlanValue N)). LoadsLives g plans mid new l after) more others) in
      subst (λ (l : List (PlanValue N)). LoadsLives g l old new before after) (sym is) here

  -- where the first life stops, all do
  pub stops_first : (all : List (PlanValue N)) (plan : PlanValue N) (plans : List (PlanValue N)) (old : Place) (fault : CodeFault) → all ≡ plan ∷ plans → StopsBy g.read (map g.spec plan.nodes) old fault → StopsBy g.read (in_lives g.spec all) old fault
  stops_first all plan plans old fault is stops = subst (λ (l : List (PlanValue N)). StopsBy g.read (in_lives g.spec l) old fault) (sym is) (stops_within g.read (map g.spec plan.nodes) (in_lives g.spec plans) old fault stops)

  -- and where the others do
  pub stops_second : (all : List (PlanValue N)) (plan : PlanValue N) (plans : List (PlanValue N)) (old mid : Place) (states : List S) (fault : CodeFault) → all ≡ plan ∷ plans → Passes (read_each g.read (map g.spec plan.nodes)) old mid states → StopsBy g.read (in_lives g.spec plans) mid fault → StopsBy g.read (in_lives g.spec all) old fault
  stops_second all plan plans old mid states fault is passes stops = subst (λ (l : List (PlanValue N)). StopsBy g.read (in_lives g.spec l) old fault) (sym is) (stops_later g.read (map g.spec plan.nodes) (in_lives g.spec plans) old mid states fault passes stops)

-- where reading stops, a fault names the place
pub stops_at : {P S : Type 0} (read : P → Reading S) (specs : List P) (from : Place) (fault : CodeFault) (offset : ℕ) → fault ≡ At offset → StopsBy read specs from fault → StopsAt read specs from offset
stops_at read specs from fault offset e stops = subst (StopsBy read specs from) e stops

-- what isn't taken isn't there, and the fault names the place
pub taken_at : {A : Type 0} (read : Reading A) (old new : Place) (fault : CodeFault) (offset : ℕ) → fault ≡ At offset → TakesExactly read old new (Err fault) → Refuses read old new offset
taken_at {A} read old new fault offset e none = subst (λ (f : CodeFault). TakesExactly {A = A} read old new (Err f)) e none

pub same_fault : {A : Type 0} (x y : CodeFault) → ◌≡◌ {A = Result A CodeFault} (Err x) (Err y) → x ≡ y
same_fault x y e = cc

pub same_offset : {A : Type 0} (x y : ℕ) → ◌≡◌ {A = Result A CodeFault} (Err (At x)) (Err (At y)) → x ≡ y
same_offset x y e = cc

pub same_place : {A : Type 0} (x y : ℕ) → ◌≡◌ {A = Result A SnapFault} (Err (at_place x)) (Err (at_place y)) → x ≡ y
same_place x y e = cc
