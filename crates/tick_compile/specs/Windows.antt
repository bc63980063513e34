-- window: its properties, and its two forms.
use Rattle.std.specs.Prelude.{◌||◌, Bool, true, false, if◌then◌else◌, List, [], ◌∷◌, Option, Some, None, Result, codes, is_some, option_map, unwrap_or}
use Rattle.kap_base.specs.Words.{◌>>=◌}
use Rattle.task_graph.specs.declared.spec.Spec.{Spec}
use Rattle.task_graph.specs.declared.spec.Spec.TheVariants as specs
use Rattle.task_graph.specs.declared.spec.WindowSpec.{WindowSpec}
use Rattle.task_graph.specs.declared.spec.WindowSpec.TheVariants.{Timed, Counted}
use Rattle.tick_compile.specs.declared.node_fault.NodeFault.{NodeFault}
use Rattle.tick_compile.specs.declared.given.Node.{Node}
use Rattle.tick_compile.specs.declared.windows.WindowProps.{WindowProps}
use Rattle.tick_compile.specs.Words.{needed}
use Rattle.tick_compile.specs.Sorts.{as_count, as_period, as_span, nothing, one}
use Rattle.tick_compile.specs.Rows.{Row, all_set, row, set_by}

-- window()
abbrev pub window_rows : {L : Type 0} → List (Row L WindowProps)
window_rows =
    row (codes "period") (one as_period) (λ d window. record window { period = Some d })
    ∷ row (codes "every") (one as_span) (λ d window. record window { every = Some d })
    ∷ row (codes "align") nothing (λ _ window. record window { align = true })
    ∷ row (codes "fillPeriod") nothing (λ _ window. record window { fill_period = true })
    ∷ row (codes "periodCount") (one as_count) (λ n window. record window { period_count = Some n })
    ∷ row (codes "everyCount") (one as_count) (λ n window. record window { every_count = Some n })
    ∷ []

-- a window of which no property is set
abbrev pub no_window : WindowProps
no_window = record {
  period = None;
  every = None;
  align = false;
  fill_period = false;
  period_count = None;
  every_count = None;
}

-- a property of the form by time is set
abbrev pub is_timed : WindowProps → Bool
is_timed window = is_some window.period || is_some window.every || window.align

-- a property of the form by the number of points is set
abbrev pub is_counted : WindowProps → Bool
is_counted window = is_some window.period_count || is_some window.every_count

-- by time: `.every` is 0 where it isn't set
abbrev pub timed_form : WindowProps → Option WindowSpec
timed_form window = option_map (λ d. Timed d (unwrap_or window.every 0) window.align window.fill_period) window.period

-- by the number of points: `.everyCount` is 1 where it isn't set
abbrev pub counted_form : WindowProps → Option WindowSpec
counted_form window =
    option_map (λ n. Counted n (unwrap_or window.every_count 1) window.fill_period) window.period_count

-- one of the two forms, with its period, and nothing of the other form
abbrev pub window_form : WindowProps → Option WindowSpec
window_form window =
    if is_counted window then (if is_timed window then None else counted_form window) else timed_form window

-- what a window node is given, or its first fault
abbrev pub window_spec : {L : Type 0} → Node L → Result (Spec L) NodeFault
window_spec node =
    needed node.at (nothing node.args) >>= λ _. all_set (set_by window_rows) no_window node.props >>= λ window.
    needed node.at (option_map specs.Window (window_form window))
