-- What rules are given of what a script hands over.
use Rattle.std.specs.Prelude.{ℕ, List, [], ◌∷◌}
use Rattle.std.specs.List.{flat_map}
use Rattle.lambda_types.specs.declared.lambda.Lambda.{Lambda}
use Rattle.task_graph.specs.declared.spec.DeleteSetting.{DeleteSetting}
use Rattle.task_graph.specs.declared.spec.DeleteSetting.TheVariants as deletes
use Rattle.task_graph.specs.declared.spec.Dims.{Dims}
use Rattle.task_graph.specs.declared.spec.Dims.TheVariants as dims
use Rattle.task_graph.specs.declared.spec.FromSpec.{FromSpec}
use Rattle.task_graph.specs.declared.spec.GroupBySpec.{GroupBySpec}
use Rattle.basic_nodes.specs.declared.deletions.Deletion.{Deletion}
use Rattle.basic_nodes.specs.declared.dimensions.Grouping.{Grouping}
use Rattle.basic_nodes.specs.declared.dimensions.Grouping.TheVariants.{By, ByAll}
use Rattle.basic_nodes.specs.declared.dimensions.Regrouping.{Regrouping}
use Rattle.basic_nodes.specs.declared.selection.Selection.{Selection}
use Rattle.basic_nodes.specs.Dimensions.{in_order}

-- dimensions as a point needs them
abbrev pub grouping_of : Dims → Grouping
grouping_of (dims.Names names) = By (in_order names)
grouping_of dims.All = ByAll

-- what `from` selects, of its spec
abbrev pub selection_of : FromSpec Lambda → Selection
selection_of f =
    record {
      database = f.database;
      policy = f.retention_policy;
      measurement = f.measurement;
      conditions = f.conditions;
      grouping = grouping_of f.dims;
      by_measurement = f.by_measurement;
    }

-- by what `groupBy` groups, of its spec
abbrev pub regrouping_of : GroupBySpec → Regrouping
regrouping_of g = record { grouping = grouping_of g.dims; by_measurement = g.by_measurement }

-- the field that a setting of `delete` names, if it names one
abbrev pub field_named : DeleteSetting → List (List ℕ)
field_named (deletes.Field name) = name ∷ []
field_named (deletes.Tag name) = []

-- and the tag
abbrev pub tag_named : DeleteSetting → List (List ℕ)
tag_named (deletes.Field name) = []
tag_named (deletes.Tag name) = name ∷ []

-- what `delete` takes away, of its settings
abbrev pub deletion_of : List DeleteSetting → Deletion
deletion_of settings = record { fields = flat_map field_named settings; tags = flat_map tag_named settings }
