-- What a node is given fits its parents.
use Rattle.std.proofs.Common.{◌≡◌, ◌&&◌, ◌+◌, ℕ, suc, Bool, true, false, List, [], ◌∷◌, length, Option, Some, None, Result, Ok, Err, refl, sym, subst, nat_lt, nat_eq, arith}
use Rattle.std.specs.Prelude.{IfOk, option_map}
use Rattle.std.proofs.lemmas.Bool.Decides.{nat_tests}
use Rattle.kap_base.specs.Words.{◌>>=◌}
use Rattle.task_graph.specs.declared.spec.JoinSpec.{JoinSpec}
use Rattle.task_graph.specs.declared.spec.Select.{Select as Selects}
use Rattle.task_graph.specs.declared.spec.Spec.{Spec}
use Rattle.task_graph.specs.declared.spec.Spec.TheVariants as specs
use Rattle.task_graph.specs.Graphs.{are_different, is_fit}
use Rattle.tick_compile.specs.declared.changes.EvalProps.{EvalProps}
use Rattle.tick_compile.specs.declared.given.Node.{Node}
use Rattle.tick_compile.specs.declared.kind.Kind.{Kind}
use Rattle.tick_compile.specs.declared.kind.Kind.TheVariants.{From, Where, Eval, GroupBy, Log, Default, Delete, Shift, Sample, Window, Alert, Union, Join, State, Select, Rank}
use Rattle.tick_compile.specs.declared.node_fault.NodeFault.{NodeFault}
use Rattle.tick_compile.specs.declared.selects.Rank.{Rank as RankKind}
use Rattle.tick_compile.specs.declared.states.StateKind.{StateKind}
use Rattle.tick_compile.specs.declared.states.StateKind.TheVariants.{StateCount, ChangeDetect, Difference, CumulativeSum, Elapsed}
use Rattle.tick_compile.specs.Words.{each, fitting, needed}
use Rattle.tick_compile.specs.Sorts.{as_count, as_duration, as_lambda, as_node, as_text, as_unit, dimensions, nothing, one, pair}
use Rattle.tick_compile.specs.Rows.{all_set, no_props, set_by}
use Rattle.tick_compile.specs.Filters.{from_rows, from_spec, no_from, sample_spec, where_spec}
use Rattle.tick_compile.specs.Changes.{default_rows, default_spec, delete_rows, delete_spec, eval_results, eval_rows, eval_spec, group_by_rows, group_by_spec, log_rows, log_spec, no_eval, no_log, shift_spec}
use Rattle.tick_compile.specs.States.{as_rows, change_detect_spec, cumulative_sum_spec, difference_spec, elapsed_spec, field_spec, state_count_spec, state_spec}
use Rattle.tick_compile.specs.Windows.{no_window, window_form, window_rows, window_spec}
use Rattle.tick_compile.specs.Alerts.{alert_sets, alert_spec, no_alert}
use Rattle.tick_compile.specs.Selects.{no_select, rank_spec, ranked, select_rows, select_spec, selected}
use Rattle.tick_compile.specs.Joins.{join_rows, join_spec, no_join, rename_rows, union_spec}
use Rattle.tick_compile.specs.Kinds.{kind_named, spec_by, spec_of}
use Rattle.tick_compile.specs.Nodes.{nodes_above, nodes_in, parents_of}
use Rattle.tick_compile.proofs.NodeLaws.{nodes_given}

-- it fits the node's parents
abbrev pub IsRight : {L : Type 0} → Node L → Spec L → Type 0
IsRight node spec = is_fit (length (parents_of spec (nodes_above node))) spec ≡ true

-- what follows a step, where it succeeds
after : {A B E : Type 0} (P : B → Type 0) (r : Result A E) (f : A → Result B E) → ((x : A) → IfOk (f x) P) → IfOk (r >>= f) P
after P (Err e) f right = tt
after P (Ok x) f right = right x

-- what follows a step that makes this, where it succeeds
after_this : {A B E : Type 0} (P : B → Type 0) (r : Result A E) (f : A → Result B E) → ((x : A) → r ≡ Ok x → IfOk (f x) P) → IfOk (r >>= f) P
after_this P (Err e) f right = tt
after_this P (Ok x) f right = right x refl

is_there : {A : Type 0} (at : ℕ) (o : Option A) (x : A) → needed at o ≡ Ok x → o ≡ Some x
is_there at None x is = absurd cc
is_there at (Some y) x is = cc

some_above : (n : ℕ) → nat_lt 0 (suc n) ≡ true
some_above n = grind (arith, nat_tests)

-- what one step makes, where it succeeds
one_step : {A B E : Type 0} (P : B → Type 0) (r : Result A E) (make : A → B) → ((x : A) → P (make x)) → IfOk (r >>= λ x. Ok (make x)) P
one_step P (Err e) make right = tt
one_step P (Ok x) make right = right x

-- what two steps make, where they succeed
two_steps : {A B C E : Type 0} (P : C → Type 0) (r : Result A E) (s : A → Result B E) (make : A → B → C) → ((x : A) (y : B) → P (make x y)) → IfOk (r >>= λ x. s x >>= λ y. Ok (make x y)) P
two_steps P (Err e) s make right = tt
two_steps P (Ok x) s make right = one_step P (s x) (make x) (right x)

where_there : {A B : Type 0} (P : B → Type 0) (at : ℕ) (make : A → B) (o : Option A) → ((x : A) → P (make x)) → IfOk (needed at (option_map make o)) P
where_there P at make None right = tt
where_there P at make (Some x) right = right x

where_fitting : {A : Type 0} (P : A → Type 0) (at : ℕ) (test : Bool) (x : A) → (test ≡ true → P x) → IfOk (fitting at test x) P
where_fitting P at true x right = right refl
where_fitting P at false x right = tt

abbrev is_named : {L : Type 0} → List L → EvalProps → Bool
is_named lambdas eval = nat_lt 0 (length lambdas) && nat_eq (length lambdas) (length eval.names)

abbrev evaluated : {L : Type 0} → List L → EvalProps → Spec L
evaluated lambdas eval = specs.Eval (record { results = eval_results lambdas eval.names; keep = eval.keep })

both_are : (a b : Bool) → (a && b) ≡ true → (a ≡ true) × (b ≡ true)
both_are true b test = (refl, test)
both_are false b test = absurd cc

some_results : {L : Type 0} (lambdas : List L) (names : List (List ℕ)) → (nat_lt 0 (length lambdas) && nat_eq (length lambdas) (length names)) ≡ true
    → nat_lt 0 (length (eval_results lambdas names)) ≡ true
some_results [] names test =
    let parts = both_are (nat_lt 0 0) (nat_eq 0 (length names)) test in
    let none : nat_lt 0 0 ≡ true = parts.0 in
    absurd (grind (arith, nat_tests))
some_results (lambda ∷ lambdas) [] test =
    let parts = both_are (nat_lt 0 (length (lambda ∷ lambdas))) (nat_eq (length (lambda ∷ lambdas)) 0) test in
    let none : nat_eq (length (lambda ∷ lambdas)) 0 ≡ true = parts.1 in
    absurd (grind (arith, nat_tests))
some_results (lambda ∷ lambdas) (name ∷ names) test =
    let more = eval_results lambdas names in
    grind (arith, nat_tests)

module _ {L : Type 0} (node : Node L) where
  from_right : IfOk (from_spec node) (IsRight node)
  from_right = two_steps (IsRight node) (needed node.at (nothing node.args)) (λ _. all_set (set_by from_rows) no_from node.props) (λ _ from. specs.From from) (λ _ from. refl)

  where_right : IfOk (where_spec node) (IsRight node)
  where_right = two_steps (IsRight node) (needed node.at (one as_lambda node.args)) (λ _. no_props node.props) (λ l _. specs.Where l) (λ l _. refl)

  sample_right : IfOk (sample_spec node) (IsRight node)
  sample_right = two_steps (IsRight node) (needed node.at (one as_count node.args)) (λ _. no_props node.props) (λ n _. specs.Sample n) (λ n _. refl)

  group_by_right : IfOk (group_by_spec node) (IsRight node)
  group_by_right =
      two_steps (IsRight node) (needed node.at (dimensions node.args)) (λ d. all_set (set_by group_by_rows) (record { dims = d; by_measurement = false }) node.props)
      (λ _ group. specs.GroupBy group) (λ _ group. refl)

  log_right : IfOk (log_spec node) (IsRight node)
  log_right = two_steps (IsRight node) (needed node.at (nothing node.args)) (λ _. all_set (set_by log_rows) no_log node.props) (λ _ log. specs.Log log) (λ _ log. refl)

  default_right : IfOk (default_spec node) (IsRight node)
  default_right = two_steps (IsRight node) (needed node.at (nothing node.args)) (λ _. all_set (set_by default_rows) [] node.props) (λ _ settings. specs.Default settings) (λ _ settings. refl)

  delete_right : IfOk (delete_spec node) (IsRight node)
  delete_right = two_steps (IsRight node) (needed node.at (nothing node.args)) (λ _. all_set (set_by delete_rows) [] node.props) (λ _ settings. specs.Delete settings) (λ _ settings. refl)

  shift_right : IfOk (shift_spec node) (IsRight node)
  shift_right = two_steps (IsRight node) (needed node.at (one as_duration node.args)) (λ _. no_props node.props) (λ d _. specs.Shift d) (λ d _. refl)

  evaluated_right : (lambdas : List L) (eval : EvalProps) → IfOk (fitting node.at (is_named lambdas eval) (evaluated lambdas eval)) (IsRight node)
  evaluated_right lambdas eval = where_fitting (IsRight node) node.at (is_named lambdas eval) (evaluated lambdas eval) (λ test. some_results lambdas eval.names test)

  eval_right : IfOk (eval_spec node) (IsRight node)
  eval_right = go (needed node.at (each as_lambda node.args))
    where
      named : (lambdas : List L) (q : Result EvalProps NodeFault) → IfOk (q >>= λ eval. fitting node.at (is_named lambdas eval) (evaluated lambdas eval)) (IsRight node)
      named lambdas (Err e) = tt
      named lambdas (Ok eval) = evaluated_right lambdas eval

      go : (r : Result (List L) NodeFault)
          → IfOk (r >>= λ lambdas. all_set (set_by eval_rows) no_eval node.props >>= λ eval. fitting node.at (is_named lambdas eval) (evaluated lambdas eval)) (IsRight node)
      go (Err e) = tt
      go (Ok lambdas) = named lambdas (all_set (set_by eval_rows) no_eval node.props)

  state_count_right : IfOk (state_count_spec node) (IsRight node)
  state_count_right =
      two_steps (IsRight node) (needed node.at (one as_lambda node.args)) (λ _. all_set (set_by as_rows) None node.props)
      (λ l name. specs.StateCount (record { condition = l; name = name })) (λ _ name. refl)

  change_detect_right : IfOk (change_detect_spec node) (IsRight node)
  change_detect_right = two_steps (IsRight node) (needed node.at (each as_text node.args)) (λ _. no_props node.props) (λ fields _. specs.ChangeDetect fields) (λ fields _. refl)

  difference_right : IfOk (difference_spec node) (IsRight node)
  difference_right = one_step (IsRight node) (field_spec node) (λ field. specs.Difference field) (λ field. refl)

  cumulative_sum_right : IfOk (cumulative_sum_spec node) (IsRight node)
  cumulative_sum_right = one_step (IsRight node) (field_spec node) (λ field. specs.CumulativeSum field) (λ field. refl)

  elapsed_right : IfOk (elapsed_spec node) (IsRight node)
  elapsed_right =
      two_steps (IsRight node) (needed node.at (pair as_text as_unit node.args)) (λ _. all_set (set_by as_rows) None node.props)
      (λ given name. specs.Elapsed (record { field = given.0; unit = given.1; name = name })) (λ _ name. refl)

  state_right : (kind : StateKind) → IfOk (state_spec kind node) (IsRight node)
  state_right StateCount = state_count_right
  state_right ChangeDetect = change_detect_right
  state_right Difference = difference_right
  state_right CumulativeSum = cumulative_sum_right
  state_right Elapsed = elapsed_right

  window_right : IfOk (window_spec node) (IsRight node)
  window_right =
      after (IsRight node) (needed node.at (nothing node.args)) _
      (λ _. after (IsRight node) (all_set (set_by window_rows) no_window node.props) _
      (λ window. where_there (IsRight node) node.at specs.Window (window_form window) (λ form. refl)))

  alert_right : IfOk (alert_spec node) (IsRight node)
  alert_right = two_steps (IsRight node) (needed node.at (nothing node.args)) (λ _. all_set alert_sets no_alert node.props) (λ _ alert. specs.Alert alert) (λ _ alert. refl)

  select_right : (select : Selects) → IfOk (select_spec select node) (IsRight node)
  select_right select =
      two_steps (IsRight node) (needed node.at (one as_text node.args)) (λ _. all_set (set_by select_rows) no_select node.props) (λ field props. selected select field props) (λ field props. refl)

  rank_right : (rank : RankKind) → IfOk (rank_spec rank node) (IsRight node)
  rank_right rank =
      two_steps (IsRight node) (needed node.at (pair as_count as_text node.args)) (λ _. all_set (set_by select_rows) no_select node.props)
      (λ given props. selected (ranked rank given.0) given.1 props) (λ given props. refl)

  union_right : IfOk (union_spec node) (IsRight node)
  union_right =
      after (IsRight node) (needed node.at (each as_node node.args)) _
      (λ nodes. two_steps (IsRight node) (fitting node.at (nat_lt 0 (length nodes)) nodes) (λ _. all_set (set_by rename_rows) None node.props) (λ _ name. specs.Union name) (λ _ name. some_above (length (nodes_in node.args))))

  joined_right : (nodes : List ℕ) (join : JoinSpec) → each as_node node.args ≡ Some nodes → (nat_eq (length join.prefixes) (length nodes + 1) && are_different join.prefixes) ≡ true
      → is_fit {L = L} (length (node.parent ∷ nodes_in node.args)) (specs.Join join) ≡ true
  joined_right nodes join given test =
      subst (λ (l : List ℕ). (nat_lt 0 (length (node.parent ∷ l)) && nat_eq (length join.prefixes) (length (node.parent ∷ l)) && are_different join.prefixes) ≡ true) (sym (nodes_given node.args nodes given))
      (grind (arith, nat_tests))

  join_right : IfOk (join_spec node) (IsRight node)
  join_right =
      after_this (IsRight node) (needed node.at (each as_node node.args)) _
      (λ nodes is. after (IsRight node) (all_set (set_by join_rows) no_join node.props) _
      (λ join. where_fitting (IsRight node) node.at (nat_eq (length join.prefixes) (length nodes + 1) && are_different join.prefixes) (specs.Join join)
      (λ test. joined_right nodes join (is_there node.at (each as_node node.args) nodes is) test)))

  kind_right : (kind : Kind) → IfOk (spec_by (Some kind) node) (IsRight node)
  kind_right From = from_right
  kind_right Where = where_right
  kind_right Eval = eval_right
  kind_right GroupBy = group_by_right
  kind_right Log = log_right
  kind_right Default = default_right
  kind_right Delete = delete_right
  kind_right Shift = shift_right
  kind_right Sample = sample_right
  kind_right Window = window_right
  kind_right Alert = alert_right
  kind_right Union = union_right
  kind_right Join = join_right
  kind_right (State kind) = state_right kind
  kind_right (Select select) = select_right select
  kind_right (Rank rank) = rank_right rank

  some_right : (kind : Option Kind) → IfOk (spec_by kind node) (IsRight node)
  some_right None = tt
  some_right (Some kind) = kind_right kind

  pub spec_right : IfOk (spec_of node) (IsRight node)
  spec_right = some_right (kind_named node.kind)
