-- The point that a join makes of a set.
use Rattle.std.specs.Prelude.{ℕ, ℤ, ◌&&◌, Bool, List, [], ◌∷◌, ◌++◌, map, Option, Some, None}
use Rattle.std.specs.FinMap.{empty, entries}
use Rattle.std.specs.List.{list_all}
use Rattle.kap_base.specs.Maps.{with_entries}
use Rattle.kap_base.specs.Points.{PointValue, is_value}
use Rattle.kap_base.specs.Texts.{is_name}
use Rattle.kap_base.specs.declared.items.Body.{Body}
use Rattle.kap_base.specs.declared.items.Body.TheVariants as bodies
use Rattle.kap_base.specs.declared.value.Value.{Value}
use Rattle.kap_base.specs.declared.value.Value.TheVariants.{Int}
use Rattle.task_graph.specs.declared.spec.Fill.{Fill}
use Rattle.task_graph.specs.declared.spec.Fill.TheVariants as fills
use Rattle.task_graph.specs.declared.spec.JoinSpec.{JoinSpec}
use Rattle.join_node.specs.Sets.{Set}

-- ---- fields

-- the name of a field, and its value
abbrev pub Entry : Type 0
Entry = List ℕ × Value

-- names and values that fields can have
abbrev pub are_entries : List Entry → Bool
are_entries es = list_all (λ e. is_name e.0 && is_value e.1) es

-- what stands between a prefix and the name of a field: a dot, unless another text is given
abbrev pub delimiter_of : Option (List ℕ) → List ℕ
delimiter_of None = 46 ∷ []
delimiter_of (Some text) = text

-- the name of a field of the result
abbrev pub field_name : List ℕ → List ℕ → List ℕ → List ℕ
field_name delimiter prefix name = prefix ++ (delimiter ++ name)

-- a number in the place of a value, where there is one
abbrev pub value_or : Option ℤ → Value → Value
value_or None value = value
value_or (Some number) value = Int number

-- fields under a prefix, each with this number in the place of its value, where there is one
abbrev pub named_fields : List ℕ → List ℕ → Option ℤ → List Entry → List Entry
named_fields delimiter prefix number es = map (λ e. (field_name delimiter prefix e.0, value_or number e.1)) es

-- what makes up for the missing point of a parent: with `.fill(n)` that number for each field of the first present
-- parent
abbrev pub missing_fields : Fill → List ℕ → List ℕ → List Entry → List Entry
missing_fields fills.None delimiter prefix firsts = []
missing_fields fills.Null delimiter prefix firsts = []
missing_fields (fills.Number number) delimiter prefix firsts = named_fields delimiter prefix (Some number) firsts

-- the fields that a parent gives
abbrev pub parent_fields : JoinSpec → List ℕ → List Entry → Option PointValue → List Entry
parent_fields j prefix firsts (Some p) = named_fields (delimiter_of j.delimiter) prefix None (entries p.fields)
parent_fields j prefix firsts None = missing_fields j.fill (delimiter_of j.delimiter) prefix firsts

-- those that all parents give, in order: each has a prefix
abbrev pub set_fields : JoinSpec → List Entry → List (List ℕ) → Set → List Entry
set_fields j firsts [] s = []
set_fields j firsts (prefix ∷ prefixes) [] = []
set_fields j firsts (prefix ∷ prefixes) (o ∷ s) = parent_fields j prefix firsts o ++ set_fields j firsts prefixes s

-- ---- the point

-- the first present parent's point
abbrev pub first_in : List (List ℕ) → Set → Option PointValue
first_in [] s = None
first_in (prefix ∷ prefixes) [] = None
first_in (prefix ∷ prefixes) (Some p ∷ s) = Some p
first_in (prefix ∷ prefixes) (None ∷ s) = first_in prefixes s

-- the measurement: that of the first present parent's point, unless another one is given
abbrev pub name_or : Option (List ℕ) → List ℕ → List ℕ
name_or None name = name
name_or (Some other) name = other

-- It has the rounded time of its set, and the tags, the group and the measurement of the first present parent's point.
-- Of fields of one name that of the later parent counts.
abbrev pub joined : JoinSpec → ℤ → Set → PointValue → PointValue
joined j time s first = record {
  db = [];
  rp = [];
  name = name_or j.stream_name first.name;
  tags = first.tags;
  fields = with_entries empty (set_fields j (entries first.fields) j.prefixes s);
  dims = first.dims;
  by_name = first.by_name;
  time = time;
}

-- what is given out for a set with this first present point; nothing where none is present
abbrev pub result_by : JoinSpec → ℤ → Set → Option PointValue → List Body
result_by j time s None = []
result_by j time s (Some first) = bodies.Point (joined j time s first) ∷ []

-- what is given out for a set
abbrev pub result_of : JoinSpec → ℤ → Set → List Body
result_of j time s = result_by j time s (first_in j.prefixes s)
