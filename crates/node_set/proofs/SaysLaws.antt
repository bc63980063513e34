-- What is seen of the node of any kind, kind by kind.
use Rattle.std.specs.Prelude.{◌≡◌, ℕ, Bool, true, false, ◌==◌, if◌then◌else◌, List, refl}
use Rattle.kap_base.specs.Tree.{Tree}
use Rattle.kap_base.specs.declared.items.Body.{Body}
use Rattle.node_core.specs.Groups.{in_groups, is_point}
use Rattle.node_core.specs.Meaning.{Answer}
use Rattle.node_core.specs.Numbering.{rule_seat, stamped}
use Rattle.task_graph.specs.declared.spec.Spec.{Spec}
use Rattle.task_graph.specs.declared.spec.Spec.TheVariants.{Stream, From, Where, Eval, GroupBy, Log, Default, Delete, Shift, Sample, Window, Select, StateCount, ChangeDetect, Difference, CumulativeSum, Elapsed, Union, Join, Alert}
use Rattle.task_graph.specs.declared.spec.WindowSpec.{WindowSpec}
use Rattle.task_graph.specs.declared.spec.WindowSpec.TheVariants.{Timed, Counted}
use Rattle.window_node.specs.Edges.{edge_says}
use Rattle.window_node.specs.Sliding.{sliding_says}
use Rattle.node_set.specs.Kinds.{any}
use Rattle.node_set.specs.Nodes.{AnySpec, any_spec, in_edge_window, in_sliding_window, window_spec}
use Rattle.node_set.specs.Says.{ports_of, says_of, takes_of, window_says}

-- ---- windows

-- one by time
timed_answers : (life number period every : ℕ) (align fill_period t : Bool)
    → ◌≡◌ {A = Answer} (any.answer (if t then in_sliding_window (rule_seat life number (record { period = period; fill_period = fill_period })) else in_edge_window (rule_seat life number (record { period = period; every = every; align = align; fill_period = fill_period }))))
    (stamped life number (in_groups (if t then sliding_says (record { period = period; fill_period = fill_period }) else edge_says (record { period = period; every = every; align = align; fill_period = fill_period }))))
timed_answers life number period every align fill_period true = refl
timed_answers life number period every align fill_period false = refl

window_answers : (life number : ℕ) (window : WindowSpec) → ◌≡◌ {A = Answer} (any.answer (window_spec life number window)) (stamped life number (in_groups (window_says window)))
window_answers life number (Timed period every align fill_period) = timed_answers life number period every align fill_period (every == 0)
window_answers life number (Counted period_count every_count fill_period) = refl

-- what is seen of both windows by time is seen of either
of_timed : {A : Type 0} (f : AnySpec → A) (x : A) (life number period every : ℕ) (align fill_period t : Bool)
    → f (in_sliding_window (rule_seat life number (record { period = period; fill_period = fill_period }))) ≡ x
    → f (in_edge_window (rule_seat life number (record { period = period; every = every; align = align; fill_period = fill_period }))) ≡ x
    → f (if t then in_sliding_window (rule_seat life number (record { period = period; fill_period = fill_period })) else in_edge_window (rule_seat life number (record { period = period; every = every; align = align; fill_period = fill_period }))) ≡ x
of_timed f x life number period every align fill_period true p q = p
of_timed f x life number period every align fill_period false p q = q

window_ports : (life number : ℕ) (window : WindowSpec) → any.ports (window_spec life number window) ≡ 1
window_ports life number (Timed period every align fill_period) = of_timed any.ports 1 life number period every align fill_period (every == 0) refl refl
window_ports life number (Counted period_count every_count fill_period) = refl

window_takes : (life number : ℕ) (window : WindowSpec) → ◌≡◌ {A = Body → Bool} (any.takes (window_spec life number window)) is_point
window_takes life number (Timed period every align fill_period) = of_timed {A = Body → Bool} any.takes is_point life number period every align fill_period (every == 0) refl refl
window_takes life number (Counted period_count every_count fill_period) = refl

-- ---- kind by kind

-- what it answers
pub answers : (task : List ℕ) (life number : ℕ) (name : List ℕ) (n : ℕ) (spec : Spec Tree) → ◌≡◌ {A = Answer} (any.answer (any_spec task life number name n spec)) (stamped life number (says_of task name spec))
answers task life number name n (Stream dbrps) = refl
answers task life number name n (From from) = refl
answers task life number name n (Where condition) = refl
answers task life number name n (Eval eval) = refl
answers task life number name n (GroupBy group) = refl
answers task life number name n (Log log) = refl
answers task life number name n (Default settings) = refl
answers task life number name n (Delete settings) = refl
answers task life number name n (Shift by) = refl
answers task life number name n (Sample k) = refl
answers task life number name n (Select select) = refl
answers task life number name n (StateCount count) = refl
answers task life number name n (ChangeDetect fields) = refl
answers task life number name n (Difference field) = refl
answers task life number name n (CumulativeSum field) = refl
answers task life number name n (Elapsed elapsed) = refl
answers task life number name n (Union rename) = refl
answers task life number name n (Join join) = refl
answers task life number name n (Alert alert) = refl
answers task life number name n (Window window) = window_answers life number window

-- how many ports it has
pub ports : (task : List ℕ) (life number : ℕ) (name : List ℕ) (n : ℕ) (spec : Spec Tree) → any.ports (any_spec task life number name n spec) ≡ ports_of n spec
ports task life number name n (Stream dbrps) = refl
ports task life number name n (From from) = refl
ports task life number name n (Where condition) = refl
ports task life number name n (Eval eval) = refl
ports task life number name n (GroupBy group) = refl
ports task life number name n (Log log) = refl
ports task life number name n (Default settings) = refl
ports task life number name n (Delete settings) = refl
ports task life number name n (Shift by) = refl
ports task life number name n (Sample k) = refl
ports task life number name n (Select select) = refl
ports task life number name n (StateCount count) = refl
ports task life number name n (ChangeDetect fields) = refl
ports task life number name n (Difference field) = refl
ports task life number name n (CumulativeSum field) = refl
ports task life number name n (Elapsed elapsed) = refl
ports task life number name n (Union rename) = refl
ports task life number name n (Join join) = refl
ports task life number name n (Alert alert) = refl
ports task life number name n (Window window) = window_ports life number window

-- which bodies are for it
pub takes : (task : List ℕ) (life number : ℕ) (name : List ℕ) (n : ℕ) (spec : Spec Tree) → ◌≡◌ {A = Body → Bool} (any.takes (any_spec task life number name n spec)) (takes_of spec)
takes task life number name n (Stream dbrps) = refl
takes task life number name n (From from) = refl
takes task life number name n (Where condition) = refl
takes task life number name n (Eval eval) = refl
takes task life number name n (GroupBy group) = refl
takes task life number name n (Log log) = refl
takes task life number name n (Default settings) = refl
takes task life number name n (Delete settings) = refl
takes task life number name n (Shift by) = refl
takes task life number name n (Sample k) = refl
takes task life number name n (Select select) = refl
takes task life number name n (StateCount count) = refl
takes task life number name n (ChangeDetect fields) = refl
takes task life number name n (Difference field) = refl
takes task life number name n (CumulativeSum field) = refl
takes task life number name n (Elapsed elapsed) = refl
takes task life number name n (Union rename) = refl
takes task life number name n (Join join) = refl
takes task life number name n (Alert alert) = refl
takes task life number name n (Window window) = window_takes life number window
