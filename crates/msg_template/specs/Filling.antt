-- What a template is filled to.
use Rattle.std.specs.Prelude.{◌≡◌, ℕ, ◌<◌, ◌≤◌, ◌⊎◌, true, false, List, [], ◌∷◌, ◌++◌, length, take, codes, zip}
use Rattle.std.specs.List.{flat_map}
use Rattle.std.specs.Fmt.{signed_decimal}
use Rattle.std.specs.FinMap.{get}
use Rattle.std.specs.Option.{option_map_or}
use Rattle.std.specs.Str.{IsUtf8}
use Rattle.kap_base.specs.declared.value.Value.{Value}
use Rattle.kap_base.specs.declared.value.Value.TheVariants as values
use Rattle.kap_base.specs.Groups.{GroupValue, tag_value}
use Rattle.kap_base.specs.Levels.{level_name}
use Rattle.kap_base.specs.Maps.{KeyMap}
use Rattle.msg_template.specs.declared.action.Action.{Action}
use Rattle.msg_template.specs.declared.action.Action.TheVariants as actions
use Rattle.msg_template.specs.declared.template.Part.{Part}
use Rattle.msg_template.specs.declared.template.Part.TheVariants as parts
use Rattle.msg_template.specs.declared.facts.Facts.{Facts}

-- a value as text
abbrev pub value_text : Value → List ℕ
value_text (values.Int n) = signed_decimal n
value_text (values.Bool true) = codes "true"
value_text (values.Bool false) = codes "false"
value_text (values.Str text) = text

-- a dimension and its value
abbrev pub dimension_text : List ℕ × List ℕ → List ℕ
dimension_text d = d.0 ++ codes "=" ++ d.1

-- a further one
abbrev pub comma_dimension : List ℕ × List ℕ → List ℕ
comma_dimension d = codes "," ++ dimension_text d

-- dimensions and their values, joined by commas, and `nil` where there are none
abbrev pub dimensions_text : List (List ℕ × List ℕ) → List ℕ
dimensions_text [] = codes "nil"
dimensions_text (d ∷ ds) = dimension_text d ++ flat_map comma_dimension ds

-- a group as text: each dimension with its value, `nil` where there are none
abbrev pub group_text : GroupValue → List ℕ
group_text group = dimensions_text (zip group.dims group.values)

-- a field as text, nothing where it is missing
abbrev pub field_text : KeyMap Value → List ℕ → List ℕ
field_text fields key = option_map_or value_text (get fields key) []

-- what an action stands for: a tag or a field that is missing stands for nothing
abbrev pub action_text : Facts → Action → List ℕ
action_text facts actions.Id = facts.id
action_text facts actions.Name = facts.name
action_text facts actions.TaskName = facts.task
action_text facts actions.Group = group_text facts.group
action_text facts actions.Level = level_name facts.level
action_text facts actions.Time = signed_decimal facts.time
action_text facts (actions.Tag key) = tag_value facts.tags key
action_text facts (actions.Field key) = field_text facts.fields key

-- what a part stands for
abbrev pub part_text : Facts → Part → List ℕ
part_text facts (parts.Words text) = text
part_text facts (parts.Action action) = action_text facts action

-- the whole text
abbrev pub whole_text : Facts → List Part → List ℕ
whole_text facts ps = flat_map (part_text facts) ps

-- the longest front of whole characters within a limit
pub record IsCutTo (limit : ℕ) (whole text : List ℕ) : Type 0 where
  pub front : text ≡ take (length text) whole
  pub within : length text ≤ limit
  pub characters : IsUtf8 text
  pub longest : (n : ℕ) → length text < n → n ≤ limit → n ≤ length whole → ¬ (IsUtf8 (take n whole))

-- the whole text, or a front of it that is longer than the limit
pub record IsMade (limit : ℕ) (whole text : List ℕ) : Type 0 where
  pub front : text ≡ take (length text) whole
  pub enough : (text ≡ whole) ⊎ (limit < length text)
