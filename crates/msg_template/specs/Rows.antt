-- Examples: what stands between braces, and what templates are filled to.
use Rattle.std.specs.Prelude.{◌≡◌, pos, true, false, codes, [], ◌∷◌, ◌++◌, None, Ok, Err}
use Rattle.std.specs.FinMap.{empty, insert}
use Rattle.kap_base.specs.declared.items.Level.TheVariants.{Critical}
use Rattle.kap_base.specs.declared.value.Value.TheVariants as values
use Rattle.msg_template.specs.declared.action.Action.TheVariants as actions
use Rattle.msg_template.specs.declared.facts.Facts.{Facts}
use Rattle.msg_template.specs.declared.fault.TemplateFault.TheVariants as faults
use Rattle.msg_template.specs.declared.template.Part.TheVariants as parts
use Rattle.msg_template.specs.Actions.{action_at}
use Rattle.msg_template.specs.Filling.{whole_text}
use Rattle.msg_template.specs.Spellings.{keyed}

-- ---- between braces

-- spaces may stand around an action
abbrev pub SpacesAround : Type 0
SpacesAround = action_at true 7 (codes "  .Time   ") ≡ Ok actions.Time

-- and needn't
abbrev pub NoSpaces : Type 0
NoSpaces = action_at true 7 (codes ".Time") ≡ Ok actions.Time

-- a key may hold spaces
abbrev pub SpaceInAKey : Type 0
SpaceInAKey =
    action_at true 7 (keyed (codes " index .Fields ") (codes "a b") ++ codes " ") ≡ Ok (actions.Field (codes "a b"))

-- exactly one space stands before a key
abbrev pub TwoSpacesBeforeAKey : Type 0
TwoSpacesBeforeAKey = action_at false 7 (keyed (codes "index .Tags  ") (codes "k")) ≡ Err (faults.Action 7)

-- an id knows no id
abbrev pub IdInAnId : Type 0
IdInAnId = action_at true 7 (codes " .ID ") ≡ Err (faults.Field 7)

-- a name that is not listed
abbrev pub NotListed : Type 0
NotListed = action_at false 7 (codes ".Levels") ≡ Err (faults.Field 7)

-- no name begins with a digit
abbrev pub DigitAtFirst : Type 0
DigitAtFirst = action_at false 7 (codes ".5") ≡ Err (faults.Action 7)

-- no action
abbrev pub NoAction : Type 0
NoAction = action_at false 7 [] ≡ Err (faults.Action 7)

-- ---- filled

-- a critical point of `cpu` at 7 ns, of no group
abbrev pub critical : Facts
critical = record {
  id = codes "cpu:nil";
  name = codes "cpu";
  task = codes "cpu_alert";
  group = record { name = None; dims = []; values = [] };
  level = Critical;
  time = pos 7;
  tags = empty;
  fields = insert empty (codes "up") (values.Bool true);
}

-- one of two dimensions
abbrev pub of_two : Facts
of_two = record critical
    { group = record { name = None; dims = codes "dc" ∷ codes "host" ∷ []; values = codes "b" ∷ codes "a" ∷ [] } }

-- `{{ .Name }}:{{ .Group }}`, of no dimensions
abbrev pub NameAndGroup : Type 0
NameAndGroup =
    whole_text critical (parts.Action actions.Name ∷ parts.Words (codes ":") ∷ parts.Action actions.Group ∷ [])
    ≡ codes "cpu:nil"

-- and of two
abbrev pub TwoDimensions : Type 0
TwoDimensions = whole_text of_two (parts.Action actions.Group ∷ []) ≡ codes "dc=b,host=a"

-- `{{ .ID }} is {{ .Level }}`
abbrev pub IdAndLevel : Type 0
IdAndLevel =
    whole_text critical (parts.Action actions.Id ∷ parts.Words (codes " is ") ∷ parts.Action actions.Level ∷ [])
    ≡ codes "cpu:nil is CRITICAL"

-- a field, and a tag that is missing
abbrev pub FieldAndNoTag : Type 0
FieldAndNoTag =
    whole_text critical (parts.Action (actions.Field (codes "up")) ∷ parts.Action (actions.Tag (codes "host")) ∷ [])
    ≡ codes "true"

-- the time in nanoseconds
abbrev pub TimeInDigits : Type 0
TimeInDigits = whole_text critical (parts.Action actions.Time ∷ []) ≡ codes "7"
