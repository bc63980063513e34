-- Where the node of any kind sits, and how many ports it has.
use Rattle.std.proofs.Common.{◌≡◌, ◌<◌, ℕ, Bool, true, false, List, length, refl, sym, ap, ◌∙◌, arith}
use Rattle.std.specs.Prelude.{◌&&◌, ◌==◌, if◌then◌else◌, IsTrue, max, nat_eq, nat_lt}
use Rattle.std.proofs.lemmas.Bool.Decides.{nat_tests}
use Rattle.kap_base.specs.Tree.{Tree}
use Rattle.kap_base.proofs.TestLaws.{first_of, second_of}
use Rattle.node_core.specs.Both.{either}
use Rattle.node_core.specs.Numbering.{rule_seat}
use Rattle.task_graph.specs.Graphs.{are_different, is_fit}
use Rattle.task_graph.specs.declared.spec.NodeSpec.{NodeSpec}
use Rattle.task_graph.specs.declared.spec.Spec.{Spec}
use Rattle.task_graph.specs.declared.spec.Spec.TheVariants.{Stream, From, Where, Eval, GroupBy, Log, Default, Delete, Shift, Sample, Window, Select, StateCount, ChangeDetect, Difference, CumulativeSum, Elapsed, Union, Join, Alert}
use Rattle.task_graph.specs.declared.spec.WindowSpec.{WindowSpec}
use Rattle.task_graph.specs.declared.spec.WindowSpec.TheVariants.{Timed, Counted}
use Rattle.join_node.specs.Joins.{parents}
use Rattle.node_set.specs.Nodes.{AnySpec, any_spec, in_edge_window, in_sliding_window, node_spec}
use Rattle.node_set.specs.Tasks.{Sits}

-- the life in which a node runs
abbrev pub any_life : AnySpec → ℕ
any_life =
    either
    (either (λ s. s.life) (either (λ s. s.life) (either (λ s. s.life) (either (λ s. s.life) (λ s. s.life)))))
    (either (either (either (λ s. s.life) (either (λ s. s.life) (λ s. s.life))) (λ s. s.life))
    (either (either (either (λ s. s.life) (λ s. s.life)) (λ s. s.life))
    (either (either (λ s. s.life) (λ s. s.life)) (λ s. s.life))))

-- the number of a node in its task
abbrev pub any_number : AnySpec → ℕ
any_number =
    either
    (either (λ s. s.node) (either (λ s. s.node) (either (λ s. s.node) (either (λ s. s.node) (λ s. s.node)))))
    (either (either (either (λ s. s.node) (either (λ s. s.node) (λ s. s.node))) (λ s. s.node))
    (either (either (either (λ s. s.node) (λ s. s.node)) (λ s. s.node))
    (either (either (λ s. s.node) (λ s. s.node)) (λ s. s.node))))

-- how many ports a node has: a union and a join one for each parent, each other node one
abbrev pub any_ports : AnySpec → ℕ
any_ports =
    either
    (either (λ s. 1) (either (λ s. 1) (either (λ s. 1) (either (λ s. 1) (λ s. 1)))))
    (either (either (either (λ s. 1) (either (λ s. 1) (λ s. 1))) (λ s. 1))
    (either (either (either (λ s. 1) (λ s. 1)) (λ s. 1))
    (either (either (λ s. s.kind.plain.parents) (λ s. parents s.kind.rule.spec)) (λ s. 1))))

is_one : (n : ℕ) → IsTrue (nat_eq n 1) → n ≡ 1
is_one n h = grind (arith, nat_tests)

some_port : (n : ℕ) → IsTrue (nat_lt 0 n) → n ≡ max 1 n
some_port n h =
    let some : 0 < n = grind (arith, nat_tests) in
    omega (arith, some)

-- a join has as many prefixes as parents
join_port : (n k : ℕ) (differ : Bool) → IsTrue (nat_lt 0 n && nat_eq k n && differ) → k ≡ max 1 n
join_port n k differ h =
    let both = first_of (nat_lt 0 n && nat_eq k n) differ h in
    let same : IsTrue (nat_eq k n) = second_of (nat_lt 0 n) (nat_eq k n) both in
    let equal : k ≡ n = grind (arith, nat_tests) in
    equal ∙ some_port n (first_of (nat_lt 0 n) (nat_eq k n) both)

-- what is seen of each of two is seen of either
of_either : {A : Type 0} (f : AnySpec → A) (x : A) (t : Bool) (one other : AnySpec) → f one ≡ x → f other ≡ x
    → f (if t then one else other) ≡ x
of_either f x true one other p q = p
of_either f x false one other p q = q

module _ (task : List ℕ) (life number : ℕ) (name : List ℕ) (n : ℕ) where
  -- a node of one port, whose kind asks for one parent
  one_port : (spec : Spec Tree) → any_life (any_spec task life number name n spec) ≡ life
      → any_number (any_spec task life number name n spec) ≡ number
      → any_ports (any_spec task life number name n spec) ≡ 1
      → (IsTrue (is_fit n spec) → n ≡ 1)
      → Sits any_ports any_life any_number life number n spec (any_spec task life number name n spec)
  one_port spec lives numbers port one = record {
    life_is = lives;
    number_is = numbers;
    ports_are = λ h. port ∙ ap (max 1) (sym (one h));
    stream_port = λ h. port;
  }

  window_sits : (window : WindowSpec)
      → Sits any_ports any_life any_number life number n (Window window)
      (any_spec task life number name n (Window window))
  window_sits (Timed period every align fill_period) =
      let sliding : AnySpec = in_sliding_window
      (rule_seat life number (record { period = period; fill_period = fill_period })) in
      let edges : AnySpec = in_edge_window
      (rule_seat life number
      (record { period = period; every = every; align = align; fill_period = fill_period })) in
      one_port (Window (Timed period every align fill_period))
      (of_either any_life life (every == 0) sliding edges refl refl)
      (of_either any_number number (every == 0) sliding edges refl refl)
      (of_either any_ports 1 (every == 0) sliding edges refl refl) (is_one n)
  window_sits (Counted period_count every_count fill_period) =
      one_port (Window (Counted period_count every_count fill_period)) refl refl refl (is_one n)

  -- the node of what a script hands to one sits where it is made to
  pub spec_sits : (spec : Spec Tree)
      → Sits any_ports any_life any_number life number n spec (any_spec task life number name n spec)
  spec_sits (Stream dbrps) = one_port (Stream dbrps) refl refl refl (is_one n)
  spec_sits (From from) = one_port (From from) refl refl refl (is_one n)
  spec_sits (Where condition) = one_port (Where condition) refl refl refl (is_one n)
  spec_sits (Eval eval) =
      one_port (Eval eval) refl refl refl (λ h. is_one n (first_of (nat_eq n 1) (nat_lt 0 (length eval.results)) h))
  spec_sits (GroupBy group) = one_port (GroupBy group) refl refl refl (is_one n)
  spec_sits (Log log) = one_port (Log log) refl refl refl (is_one n)
  spec_sits (Default settings) = one_port (Default settings) refl refl refl (is_one n)
  spec_sits (Delete settings) = one_port (Delete settings) refl refl refl (is_one n)
  spec_sits (Shift by) = one_port (Shift by) refl refl refl (is_one n)
  spec_sits (Sample k) = one_port (Sample k) refl refl refl (is_one n)
  spec_sits (Select select) = one_port (Select select) refl refl refl (is_one n)
  spec_sits (StateCount count) = one_port (StateCount count) refl refl refl (is_one n)
  spec_sits (ChangeDetect fields) = one_port (ChangeDetect fields) refl refl refl (is_one n)
  spec_sits (Difference field) = one_port (Difference field) refl refl refl (is_one n)
  spec_sits (CumulativeSum field) = one_port (CumulativeSum field) refl refl refl (is_one n)
  spec_sits (Elapsed elapsed) = one_port (Elapsed elapsed) refl refl refl (is_one n)
  spec_sits (Alert alert) = one_port (Alert alert) refl refl refl (is_one n)
  spec_sits (Window window) = window_sits window
  spec_sits (Union rename) =
      record { life_is = refl; number_is = refl; ports_are = some_port n; stream_port = λ h. absurd cc }
  spec_sits (Join join) =
      record {
        life_is = refl;
        number_is = refl;
        ports_are = join_port n (length join.prefixes) (are_different join.prefixes);
        stream_port = λ h. absurd cc;
      }

-- each node of a script sits where it is made to
pub each_sits : (task : List ℕ) (life number : ℕ) (node : NodeSpec Tree)
    → Sits any_ports any_life any_number life number (length node.parents) node.spec (node_spec task life number node)
each_sits task life number node = spec_sits task life number node.name (length node.parents) node.spec
