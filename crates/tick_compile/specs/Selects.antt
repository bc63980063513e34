-- The select nodes: their names, their arguments and properties.
use Rattle.std.specs.Prelude.{ℕ, true, false, if◌then◌else◌, List, [], ◌∷◌, Option, Some, None, Result, Ok, codes, bytes_eq}
use Rattle.kap_base.specs.Words.{◌>>=◌}
use Rattle.task_graph.specs.declared.spec.Select.{Select}
use Rattle.task_graph.specs.declared.spec.Select.TheVariants as selects
use Rattle.task_graph.specs.declared.spec.Spec.{Spec}
use Rattle.task_graph.specs.declared.spec.Spec.TheVariants as specs
use Rattle.tick_compile.specs.declared.node_fault.NodeFault.{NodeFault}
use Rattle.tick_compile.specs.declared.given.Node.{Node}
use Rattle.tick_compile.specs.declared.selects.Rank.{Rank}
use Rattle.tick_compile.specs.declared.selects.Rank.TheVariants.{Top, Bottom}
use Rattle.tick_compile.specs.declared.selects.SelectProps.{SelectProps}
use Rattle.tick_compile.specs.Words.{needed}
use Rattle.tick_compile.specs.Sorts.{as_count, as_name, as_text, nothing, one, pair}
use Rattle.tick_compile.specs.Rows.{Row, all_set, row, set_by}

-- what is chosen by a node of a name that takes a field alone
abbrev pub select_named : List ℕ → Option Select
select_named name =
    if bytes_eq name (codes "sum") then Some selects.Sum else (
    if bytes_eq name (codes "count") then Some selects.Count else (
    if bytes_eq name (codes "min") then Some selects.Min else (
    if bytes_eq name (codes "max") then Some selects.Max else (
    if bytes_eq name (codes "first") then Some selects.First else (
    if bytes_eq name (codes "last") then Some selects.Last else (
    if bytes_eq name (codes "spread") then Some selects.Spread else (
    if bytes_eq name (codes "distinct") then Some selects.Distinct else None)))))))

-- of which rank the points are that a node of a name chooses
abbrev pub rank_named : List ℕ → Option Rank
rank_named name =
    if bytes_eq name (codes "top") then Some Top else (if bytes_eq name (codes "bottom") then Some Bottom else None)

-- the properties of a select node
abbrev pub select_rows : {L : Type 0} → List (Row L SelectProps)
select_rows =
    row (codes "as") (one as_name) (λ s props. record props { name = Some s })
    ∷ row (codes "usePointTimes") nothing (λ _ props. record props { use_point_times = true })
    ∷ []

-- a select node of which no property is set
abbrev pub no_select : SelectProps
no_select = record { name = None; use_point_times = false }

-- a select node that chooses so from this field, with these properties
abbrev pub selected : {L : Type 0} → Select → List ℕ → SelectProps → Spec L
selected select field props =
    specs.Select (record { select = select; field = field; name = props.name; use_point_times = props.use_point_times })

-- sum(f), and each other that takes a field alone
abbrev pub select_spec : {L : Type 0} → Select → Node L → Result (Spec L) NodeFault
select_spec select node =
    needed node.at (one as_text node.args) >>= λ field. all_set (set_by select_rows) no_select node.props
    >>= λ props. Ok (selected select field props)

-- the first so many points of a rank
abbrev pub ranked : Rank → ℕ → Select
ranked Top n = selects.Top n
ranked Bottom n = selects.Bottom n

-- top(n, f) and bottom(n, f)
abbrev pub rank_spec : {L : Type 0} → Rank → Node L → Result (Spec L) NodeFault
rank_spec rank node =
    needed node.at (pair as_count as_text node.args) >>= λ given. all_set (set_by select_rows) no_select node.props
    >>= λ props.
    Ok (selected (ranked rank given.0) given.1 props)
