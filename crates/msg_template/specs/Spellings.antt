-- How the parts of a template are written.
use Rattle.std.specs.Prelude.{◌≡◌, ℕ, Bool, true, not, codes, List, [], ◌∷◌, ◌++◌, replicate, IsTrue}
use Rattle.std.specs.List.{list_all}
use Rattle.msg_template.specs.declared.action.Action.{Action}
use Rattle.msg_template.specs.declared.action.Action.TheVariants as actions
use Rattle.msg_template.specs.declared.template.Part.{Part}
use Rattle.msg_template.specs.declared.template.Part.TheVariants as parts
use Rattle.msg_template.specs.Actions.{is_allowed, is_identifier, is_name_byte, is_quote}
use Rattle.msg_template.specs.Reading.{opening, closing}

-- words, and a key between quotes
abbrev pub keyed : List ℕ → List ℕ → List ℕ
keyed words key = words ++ (34 ∷ (key ++ (34 ∷ [])))

-- an action, without spaces around it
abbrev pub action_spelling : Action → List ℕ
action_spelling actions.Id = codes ".ID"
action_spelling actions.Name = codes ".Name"
action_spelling actions.TaskName = codes ".TaskName"
action_spelling actions.Group = codes ".Group"
action_spelling actions.Level = codes ".Level"
action_spelling actions.Time = codes ".Time"
action_spelling (actions.Tag key) = keyed (codes "index .Tags ") key
action_spelling (actions.Field key) = keyed (codes "index .Fields ") key

-- so many spaces
abbrev pub spaces : ℕ → List ℕ
spaces n = replicate n 32

-- what stands between braces: spaces, the action, and spaces
pub record SpellsAction (action : Action) (body : List ℕ) : Type 0 where
  pub before : ℕ
  pub behind : ℕ
  pub is : body ≡ spaces before ++ (action_spelling action ++ spaces behind)

-- no quote stands in a key
abbrev pub has_no_quote : List ℕ → Bool
has_no_quote key = list_all (λ b. not (is_quote b)) key

-- its key, if it has one, has no quote
abbrev pub is_plain : Action → Bool
is_plain actions.Id = true
is_plain actions.Name = true
is_plain actions.TaskName = true
is_plain actions.Group = true
is_plain actions.Level = true
is_plain actions.Time = true
is_plain (actions.Tag key) = has_no_quote key
is_plain (actions.Field key) = has_no_quote key

-- An action stands between braces, and is allowed in such a template.
pub record IsAction (of_id : Bool) (body : List ℕ) (action : Action) : Type 0 where
  pub spelled : SpellsAction action body
  pub plain : IsTrue (is_plain action)
  pub allowed : IsTrue (is_allowed of_id action)

-- A dot and a name stand between braces, with spaces around them.
pub record SpellsName (body name : List ℕ) : Type 0 where
  pub before : ℕ
  pub behind : ℕ
  pub identifier : IsTrue (is_identifier name)
  pub letters : IsTrue (list_all is_name_byte name)
  pub is : body ≡ spaces before ++ (46 ∷ (name ++ spaces behind))

-- A dot and a name that is no action, or none that is allowed.
pub record IsUnlisted (of_id : Bool) (body : List ℕ) : Type 0 where
  pub name : List ℕ
  pub spelled : SpellsName body name
  pub no_action : (action : Action) → ¬ (IsAction of_id body action)

-- Neither an action nor a dot and a name.
pub record IsOfOtherForm (of_id : Bool) (body : List ℕ) : Type 0 where
  pub no_action : (action : Action) → ¬ (IsAction of_id body action)
  pub no_name : (name : List ℕ) → ¬ (SpellsName body name)

-- the text is that of the parts: words as they are, and actions between `{{` and `}}`
pub data Spells : List ℕ → List Part → Type 0 where
  no_part : Spells [] []
  word_part : (words rest : List ℕ) (ps : List Part) → Spells rest ps → Spells (words ++ rest) (parts.Words words ∷ ps)
  action_part : (body rest : List ℕ) (action : Action) (ps : List Part) → SpellsAction action body → Spells rest ps →
      Spells (opening ++ (body ++ (closing ++ rest))) (parts.Action action ∷ ps)
