-- eval, groupBy, log, default, delete and shift: their arguments and properties, and what is asked of the whole.
use Rattle.std.specs.Prelude.{◌&&◌, ℕ, true, false, nat_eq, nat_lt, List, [], ◌∷◌, ◌++◌, length, Some, None, Result, Ok, codes}
use Rattle.kap_base.specs.Words.{◌>>=◌}
use Rattle.task_graph.specs.declared.spec.DefaultSetting.{DefaultSetting}
use Rattle.task_graph.specs.declared.spec.DefaultSetting.TheVariants as defaults
use Rattle.task_graph.specs.declared.spec.DeleteSetting.{DeleteSetting}
use Rattle.task_graph.specs.declared.spec.DeleteSetting.TheVariants as deletes
use Rattle.task_graph.specs.declared.spec.EvalResult.{EvalResult}
use Rattle.task_graph.specs.declared.spec.GroupBySpec.{GroupBySpec}
use Rattle.task_graph.specs.declared.spec.Keep.{Keep}
use Rattle.task_graph.specs.declared.spec.Keep.TheVariants as keeps
use Rattle.task_graph.specs.declared.spec.LogSpec.{LogSpec}
use Rattle.task_graph.specs.declared.spec.Spec.{Spec}
use Rattle.task_graph.specs.declared.spec.Spec.TheVariants as specs
use Rattle.tick_compile.specs.declared.changes.EvalProps.{EvalProps}
use Rattle.tick_compile.specs.declared.node_fault.NodeFault.{NodeFault}
use Rattle.tick_compile.specs.declared.given.Node.{Node}
use Rattle.tick_compile.specs.Words.{each, fitting, needed}
use Rattle.tick_compile.specs.Sorts.{as_default, as_duration, as_lambda, as_name, as_text, dimensions, nothing, one, pair}
use Rattle.tick_compile.specs.Rows.{Row, all_set, no_props, row, set_by}

-- eval(l..): `.keep()` keeps all fields
abbrev pub kept : List (List ℕ) → Keep
kept [] = keeps.All
kept (name ∷ names) = keeps.Names (name ∷ names)

-- the properties of an eval node: the names of its results, and the fields that it keeps
abbrev pub eval_rows : {L : Type 0} → List (Row L EvalProps)
eval_rows =
    row (codes "as") (each as_name) (λ names eval. record eval { names = names })
    ∷ row (codes "keep") (each as_text) (λ names eval. record eval { keep = kept names })
    ∷ []

-- an eval node of which no property is set: it keeps its results alone
abbrev pub no_eval : EvalProps
no_eval = record { names = []; keep = keeps.Results }

-- each lambda with its name
abbrev pub eval_results : {L : Type 0} → List L → List (List ℕ) → List (EvalResult L)
eval_results [] names = []
eval_results (lambda ∷ lambdas) [] = []
eval_results (lambda ∷ lambdas) (name ∷ names) = record { lambda = lambda; name = name } ∷ eval_results lambdas names

-- as many names as lambdas, at least one
abbrev pub eval_spec : {L : Type 0} → Node L → Result (Spec L) NodeFault
eval_spec node =
    needed node.at (each as_lambda node.args) >>= λ lambdas. all_set (set_by eval_rows) no_eval node.props >>= λ eval.
    fitting node.at (nat_lt 0 (length lambdas) && nat_eq (length lambdas) (length eval.names))
    (specs.Eval (record { results = eval_results lambdas eval.names; keep = eval.keep }))

-- groupBy(s..) or groupBy(*)
abbrev pub group_by_rows : {L : Type 0} → List (Row L GroupBySpec)
group_by_rows = row (codes "byMeasurement") nothing (λ _ group. record group { by_measurement = true }) ∷ []

-- what a groupBy node is given, or its first fault
abbrev pub group_by_spec : {L : Type 0} → Node L → Result (Spec L) NodeFault
group_by_spec node =
    needed node.at (dimensions node.args)
    >>= λ d. all_set (set_by group_by_rows) (record { dims = d; by_measurement = false }) node.props
    >>= λ group. Ok (specs.GroupBy group)

-- log()
abbrev pub log_rows : {L : Type 0} → List (Row L LogSpec)
log_rows =
    row (codes "level") (one as_text) (λ s log. record log { level = Some s })
    ∷ row (codes "prefix") (one as_text) (λ s log. record log { prefix = Some s })
    ∷ []

-- a log node of which no property is set
abbrev pub no_log : LogSpec
no_log = record { level = None; prefix = None }

-- what a log node is given, or its first fault
abbrev pub log_spec : {L : Type 0} → Node L → Result (Spec L) NodeFault
log_spec node = needed node.at (nothing node.args) >>= λ _. all_set (set_by log_rows) no_log node.props
    >>= λ log. Ok (specs.Log log)

-- default()
abbrev pub default_rows : {L : Type 0} → List (Row L (List DefaultSetting))
default_rows =
    row (codes "field") (pair as_name as_default) (λ given settings. settings ++ defaults.Field given.0 given.1 ∷ [])
    ∷ row (codes "tag") (pair as_name as_name) (λ given settings. settings ++ defaults.Tag given.0 given.1 ∷ [])
    ∷ []

-- what a default node is given, or its first fault: its settings in the order of the script
abbrev pub default_spec : {L : Type 0} → Node L → Result (Spec L) NodeFault
default_spec node = needed node.at (nothing node.args) >>= λ _. all_set (set_by default_rows) [] node.props
    >>= λ settings. Ok (specs.Default settings)

-- delete()
abbrev pub delete_rows : {L : Type 0} → List (Row L (List DeleteSetting))
delete_rows =
    row (codes "field") (one as_text) (λ s settings. settings ++ deletes.Field s ∷ [])
    ∷ row (codes "tag") (one as_text) (λ s settings. settings ++ deletes.Tag s ∷ [])
    ∷ []

-- what a delete node is given, or its first fault: its settings in the order of the script
abbrev pub delete_spec : {L : Type 0} → Node L → Result (Spec L) NodeFault
delete_spec node = needed node.at (nothing node.args) >>= λ _. all_set (set_by delete_rows) [] node.props
    >>= λ settings. Ok (specs.Delete settings)

-- shift(d)
abbrev pub shift_spec : {L : Type 0} → Node L → Result (Spec L) NodeFault
shift_spec node = needed node.at (one as_duration node.args) >>= λ d. no_props node.props >>= λ _. Ok (specs.Shift d)
