-- What stands between the braces of an action.
use Rattle.std.specs.Prelude.{ℕ, Bool, true, false, not, ◌&&◌, ◌||◌, ◌==◌, nat_lt, if◌then◌else◌, bytes_eq, codes, List, [], ◌∷◌, length, drop, Option, Some, None, Result, Ok, Err}
use Rattle.std.specs.Char.{is_ascii_digit, is_ascii_alphanumeric}
use Rattle.std.specs.List.{list_all, position_or_len, before_first, after_first}
use Rattle.std.specs.Option.{option_map_or}
use Rattle.msg_template.specs.declared.action.Action.{Action}
use Rattle.msg_template.specs.declared.action.Action.TheVariants as actions
use Rattle.msg_template.specs.declared.fault.TemplateFault.{TemplateFault}
use Rattle.msg_template.specs.declared.fault.TemplateFault.TheVariants as faults

-- all are spaces
abbrev pub are_spaces : List ℕ → Bool
are_spaces bytes = list_all (λ b. b == 32) bytes

-- the bytes from the first on that is no space
abbrev pub without_spaces : List ℕ → List ℕ
without_spaces [] = []
without_spaces (b ∷ bytes) = if b == 32 then without_spaces bytes else b ∷ bytes

-- a letter, a digit or `_`
abbrev pub is_name_byte : ℕ → Bool
is_name_byte b = b == 95 || is_ascii_alphanumeric b

-- a byte that no name goes on with
abbrev pub ends_name : ℕ → Bool
ends_name b = not (is_name_byte b)

-- a name of such bytes: it is not empty, and begins with no digit
abbrev pub is_identifier : List ℕ → Bool
is_identifier [] = false
is_identifier (b ∷ bytes) = not (is_ascii_digit b)

-- the actions of a dot and a name
abbrev pub named : List ℕ → Option Action
named name =
    if bytes_eq name (codes "ID") then Some actions.Id
    else if bytes_eq name (codes "Name") then Some actions.Name
    else if bytes_eq name (codes "TaskName") then Some actions.TaskName
    else if bytes_eq name (codes "Group") then Some actions.Group
    else if bytes_eq name (codes "Level") then Some actions.Level
    else if bytes_eq name (codes "Time") then Some actions.Time
    else None

-- an id has no id and no level
abbrev pub is_allowed : Bool → Action → Bool
is_allowed of_id actions.Id = not of_id
is_allowed of_id actions.Level = not of_id
is_allowed of_id actions.Name = true
is_allowed of_id actions.TaskName = true
is_allowed of_id actions.Group = true
is_allowed of_id actions.Time = true
is_allowed of_id (actions.Tag key) = true
is_allowed of_id (actions.Field key) = true

-- the action of a name, where it is listed and allowed
abbrev pub listed : Bool → ℕ → List ℕ → Result Action TemplateFault
listed of_id at name =
    option_map_or (λ action. if is_allowed of_id action then Ok action else Err (faults.Field at)) (named name)
    (Err (faults.Field at))

-- behind a dot: a name, and spaces
abbrev pub dotted : Bool → ℕ → List ℕ → Result Action TemplateFault
dotted of_id at bytes =
    if is_identifier (before_first ends_name bytes) && are_spaces (drop (position_or_len ends_name bytes) bytes)
    then listed of_id at (before_first ends_name bytes)
    else Err (faults.Action at)

-- the byte of a double quote
abbrev pub is_quote : ℕ → Bool
is_quote b = b == 34

-- what stands before the first quote, and what stands behind it
abbrev pub cut_at_quote : List ℕ → Option (List ℕ × List ℕ)
cut_at_quote bytes = if nat_lt (position_or_len is_quote bytes) (length bytes)
    then Some (before_first is_quote bytes, after_first is_quote bytes) else None

-- of a key: the action that the words before it stand for
abbrev pub of_key : ℕ → List ℕ → List ℕ → Result Action TemplateFault
of_key at words key =
    if bytes_eq words (codes "index .Tags ") then Ok (actions.Tag key)
    else if bytes_eq words (codes "index .Fields ") then Ok (actions.Field key)
    else Err (faults.Action at)

-- spaces, words, a key between quotes, and spaces
abbrev pub indexed : ℕ → List ℕ → Result Action TemplateFault
indexed at body =
    option_map_or
    (λ p. option_map_or (λ q. if are_spaces q.1 then of_key at (without_spaces p.0) q.0 else Err (faults.Action at))
    (cut_at_quote p.1) (Err (faults.Action at)))
    (cut_at_quote body) (Err (faults.Action at))

-- the same by what stands behind the first spaces: a name behind a dot, or an indexed key
abbrev pub action_of_words : Bool → ℕ → List ℕ → List ℕ → Result Action TemplateFault
action_of_words of_id at body [] = indexed at body
action_of_words of_id at body (b ∷ bytes) = if b == 46 then dotted of_id at bytes else indexed at body

-- the action between the braces at the place `at`, whatever spaces it begins with, or its fault
abbrev pub action_at : Bool → ℕ → List ℕ → Result Action TemplateFault
action_at of_id at body = action_of_words of_id at body (without_spaces body)
