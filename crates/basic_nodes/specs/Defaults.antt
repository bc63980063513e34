-- `default`: what is missing is set.
use Rattle.std.specs.Prelude.{if◌then◌else◌, List, [], ◌∷◌}
use Rattle.std.specs.FinMap.{contains_key, insert}
use Rattle.kap_base.specs.Points.{PointValue}
use Rattle.kap_base.specs.declared.value.Value.{Value}
use Rattle.kap_base.specs.declared.value.Value.TheVariants as values
use Rattle.node_core.specs.declared.said.Said.{Said}
use Rattle.task_graph.specs.declared.spec.DefaultSetting.{DefaultSetting}
use Rattle.task_graph.specs.declared.spec.DefaultSetting.TheVariants.{Field, Tag}
use Rattle.task_graph.specs.declared.spec.DefaultValue.{DefaultValue}
use Rattle.task_graph.specs.declared.spec.DefaultValue.TheVariants.{Int, Bool as Truth, Str}
use Rattle.node_core.specs.Meaning.{passed}

-- the value of a field
abbrev pub value_of : DefaultValue → Value
value_of (Int n) = values.Int n
value_of (Truth b) = values.Bool b
value_of (Str text) = values.Str text

-- a field or a tag that is there stays, another is set
abbrev pub with_default : DefaultSetting → PointValue → PointValue
with_default (Field name value) p =
    if contains_key p.fields name then p else record p { fields = insert p.fields name (value_of value) }
with_default (Tag name value) p = if contains_key p.tags name then p else record p { tags = insert p.tags name value }

-- in the order of the properties
abbrev pub with_defaults : List DefaultSetting → PointValue → PointValue
with_defaults [] p = p
with_defaults (setting ∷ settings) p = with_defaults settings (with_default setting p)

-- the point with each setting that it lacks
abbrev pub default_says : List DefaultSetting → PointValue → Said
default_says settings p = passed (with_defaults settings p)
