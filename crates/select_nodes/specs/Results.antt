-- What a select says of a batch.
use Rattle.std.specs.Prelude.{◌≡◌, ◌⊎◌, ℕ, Bool, true, false, not, List, [], map, filter, zip, codes, Option, Some, None, is_some, refl}
use Rattle.std.specs.FinMap.{empty, insert}
use Rattle.kap_base.specs.Groups.{BatchValue, GroupValue}
use Rattle.kap_base.specs.Maps.{KeyMap, with_entries}
use Rattle.kap_base.specs.Points.{PointValue}
use Rattle.kap_base.specs.Texts.{is_empty}
use Rattle.kap_base.specs.declared.items.Body.{Body}
use Rattle.kap_base.specs.declared.items.Body.TheVariants as bodies
use Rattle.node_core.specs.declared.said.Said.{Said}
use Rattle.node_core.specs.Meaning.{silence}
use Rattle.task_graph.specs.declared.spec.Select.{Select}
use Rattle.task_graph.specs.declared.spec.Select.TheVariants.{Sum, Count, Min, Max, First, Last, Spread, Distinct, Top, Bottom}
use Rattle.task_graph.specs.declared.spec.SelectSpec.{SelectSpec}
use Rattle.select_nodes.specs.Choices.{chosen}
use Rattle.select_nodes.specs.Picks.{PickValue}

-- the name of the node
abbrev pub node_name : Select → List ℕ
node_name Sum = codes "sum"
node_name Count = codes "count"
node_name Min = codes "min"
node_name Max = codes "max"
node_name First = codes "first"
node_name Last = codes "last"
node_name Spread = codes "spread"
node_name Distinct = codes "distinct"
node_name (Top n) = codes "top"
node_name (Bottom n) = codes "bottom"

-- the field of a result: the one that is given, or else the node's name
abbrev pub name_or : Option (List ℕ) → List ℕ → List ℕ
name_or None own = own
name_or (Some name) own = name

-- the field of a result: the one that is given, or the node's name
abbrev pub field_name : SelectSpec → List ℕ
field_name s = name_or s.name (node_name s.select)

-- dimensions with their values, without those that have none
abbrev pub valued : List (List ℕ) → List (List ℕ) → List (List ℕ × List ℕ)
valued dims values = filter (λ e. not (is_empty e.1)) (zip dims values)

-- the tags of a group: its dimensions that have values
abbrev pub group_tags : GroupValue → KeyMap (List ℕ)
group_tags g = with_entries empty (valued g.dims g.values)

-- a point of a measurement and a group with one field, of no database and no retention policy
abbrev pub result_of : List ℕ → GroupValue → List ℕ → PickValue → PointValue
result_of name group field pick = record {
  db = [];
  rp = [];
  name = name;
  tags = group_tags group;
  fields = insert empty field pick.value;
  dims = group.dims;
  by_name = is_some group.name;
  time = pick.time;
}

-- a point for each of these
abbrev pub results : List ℕ → GroupValue → List ℕ → List PickValue → Said
results name group field picks =
    record { bodies = map (λ pick. bodies.Point (result_of name group field pick)) picks; deeds = []; drops = 0 }

-- what is said of a batch: a point for each value that is chosen, of the batch's measurement and group
abbrev pub batch_says : SelectSpec → BatchValue → Said
batch_says s b = results b.name b.group (field_name s) (chosen s b.tmax b.points)

-- a batch, and no point
abbrev pub is_batch : Body → Bool
is_batch (bodies.Point p) = false
is_batch (bodies.Batch b) = true

-- nothing is said of a point
abbrev pub select_says : SelectSpec → ℕ → Body → Said
select_says s port (bodies.Point p) = silence
select_says s port (bodies.Batch b) = batch_says s b

-- which is what the other sort of body is
pub silent : (spec : SelectSpec) (port : ℕ) (body : Body) → is_batch body ≡ false → select_says spec port body ≡ silence
silent spec port (bodies.Point p) e = refl
silent spec port (bodies.Batch b) e = absurd cc

-- a group has no measurement, or this one
abbrev pub IsNamed : List ℕ → Option (List ℕ) → Type 0
IsNamed name g = (g ≡ None) ⊎ (g ≡ Some name)
