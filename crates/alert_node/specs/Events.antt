-- Of which points events tell, and what the events are.
use Rattle.std.specs.Prelude.{ℕ, zero, suc, Bool, true, false, not, ◌&&◌, if◌then◌else◌, List, [], ◌∷◌, ◌++◌, take, codes}
use Rattle.std.specs.Str.{is_utf8}
use Rattle.kap_base.specs.Events.{EventValue}
use Rattle.kap_base.specs.declared.items.Level.{Level}
use Rattle.kap_base.specs.declared.items.Level.TheVariants.{Fine, Info, Warning, Critical}
use Rattle.kap_base.specs.Groups.{group_of}
use Rattle.kap_base.specs.Points.{PointValue}
use Rattle.msg_template.specs.declared.action.Action.TheVariants as actions
use Rattle.msg_template.specs.declared.facts.Facts.{Facts}
use Rattle.msg_template.specs.declared.template.Part.{Part}
use Rattle.msg_template.specs.declared.template.Part.TheVariants.{Words, Action}
use Rattle.msg_template.specs.declared.template.TheConstants.{TEMPLATE_LIMIT}
use Rattle.msg_template.specs.Filling.{whole_text}
use Rattle.alert_node.specs.declared.alert.Alert.{Alert}
use Rattle.kap_base.specs.Levels.{same_level}

-- ---- which events there are

-- the level is OK
abbrev pub is_fine : Level → Bool
is_fine Fine = true
is_fine Info = false
is_fine Warning = false
is_fine Critical = false

-- an event arises for a level above OK, and for OK behind another level of the group
abbrev pub arises : Level → Level → Bool
arises before now = not (is_fine before && is_fine now)

-- `.stateChangesOnly` keeps those whose level differs from the group's before
abbrev pub is_change : Alert → Level → Level → Bool
is_change alert before now = not (alert.state_changes_only && same_level before now)

-- `.noRecoveries` drops those of OK
abbrev pub is_no_recovery : Alert → Level → Bool
is_no_recovery alert now = not (alert.no_recoveries && is_fine now)

-- an event tells of a point at a level, behind a point of its group at a level
abbrev pub tells : Alert → Level → Level → Bool
tells alert before now = arises before now && (is_change alert before now && is_no_recovery alert now)

-- ---- what they say

-- `{{ .Name }}:{{ .Group }}`
abbrev pub default_id : List Part
default_id = Action actions.Name ∷ Words (codes ":") ∷ Action actions.Group ∷ []

-- `{{ .ID }} is {{ .Level }}`
abbrev pub default_message : List Part
default_message = Action actions.Id ∷ Words (codes " is ") ∷ Action actions.Level ∷ []

-- of a task's id and a node's name
abbrev pub default_topic : List ℕ → List ℕ → List ℕ
default_topic task name = codes "main:" ++ task ++ codes ":" ++ name

-- the longest front of whole characters within so many bytes
unfoldable pub longest_front : ℕ → List ℕ → List ℕ
longest_front zero whole = []
longest_front (suc n) whole = if is_utf8 (take (suc n) whole) then take (suc n) whole else longest_front n whole

-- a text within the limit of templates
abbrev pub cut : List ℕ → List ℕ
cut whole = longest_front TEMPLATE_LIMIT whole

-- the text of a template with these facts, within the limit
unfoldable pub text_of : Facts → List Part → List ℕ
text_of facts template = cut (whole_text facts template)

-- what is known of a point at a level, and this id
abbrev pub facts_of : Alert → Level → PointValue → List ℕ → Facts
facts_of alert level p id =
    record {
      id = id;
      name = p.name;
      task = alert.task;
      group = group_of p;
      level = level;
      time = p.time;
      tags = p.tags;
      fields = p.fields;
    }

-- the id of an event; it knows no id
abbrev pub id_of : Alert → Level → PointValue → List ℕ
id_of alert level p = text_of (facts_of alert level p []) alert.id

-- the message of an event; it knows the id as it was cut
abbrev pub message_of : Alert → Level → PointValue → List ℕ
message_of alert level p = text_of (facts_of alert level p (id_of alert level p)) alert.message

-- the event of a point at a level: its topic, id, level and time, and its message
abbrev pub event_of : Alert → Level → PointValue → EventValue
event_of alert level p =
    record {
      topic = alert.topic;
      id = id_of alert level p;
      level = level;
      time = p.time;
      message = message_of alert level p;
    }
