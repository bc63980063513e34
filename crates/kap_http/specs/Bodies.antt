-- What the JSON bodies of requests say.
use Rattle.std.specs.Prelude.{ℕ, Bool, true, false, ◌&&◌, ◌||◌, List, Option, Some, None, option_and_then, is_some, Result, Ok, Err, codes, bytes_eq, length, nat_lt, if◌then◌else◌}
use Rattle.std.specs.Str.{is_utf8}
use Rattle.serde_json.specs.Data.{Data, Items, no_items, item}
use Rattle.serde_json.specs.Read.{read}
use Rattle.serde_json.specs.Find.{get, as_str, as_null, as_array}
use Rattle.kap_base.specs.Words.{◌>>=◌}
use Rattle.kap_http.specs.declared.refusal.Refusal.{Refusal}
use Rattle.kap_http.specs.declared.refusal.Refusal.TheVariants as refusals
use Rattle.kap_http.specs.declared.ask.TaskAct.{TaskAct}
use Rattle.kap_http.specs.declared.ask.TaskAct.TheVariants as acts
use Rattle.kap_base.specs.Texts.{is_task_id}
use Rattle.kap_base.specs.declared.limits.TheConstants.{SCRIPT_LIMIT}
use Rattle.kap_http.specs.AskValues.{DefineValue}
use Rattle.kap_http.specs.Refusals.{or_else}

-- the value of a body: UTF-8 that is JSON, nested at most 127 deep; of an object's equal keys the last one counts
unfoldable pub json_of : List ℕ → Option Data
json_of body = if is_utf8 body then read body else None

-- the text under this key, where there is one
abbrev pub text_at : List ℕ → Data → Option (List ℕ)
text_at key d = option_and_then as_str (get key d)

-- whether the task runs: `enabled` or `disabled`
abbrev pub status_of : List ℕ → Option Bool
status_of text =
    if bytes_eq text (codes "enabled") then Some true
    else if bytes_eq text (codes "disabled") then Some false
    else None

-- the status that a body gives
abbrev pub status_at : Data → Option Bool
status_at d = option_and_then status_of (text_at (codes "status") d)

-- the same, disabled where the body gives none
abbrev pub status_or_disabled : Data → Option Bool
status_or_disabled d = if is_some (get (codes "status") d) then status_at d else Some false

-- the text is the word
abbrev pub is_text : List ℕ → Option (List ℕ) → Bool
is_text word None = false
is_text word (Some text) = bytes_eq text word

-- a kind of task that can be defined: `stream`, where the body gives one
abbrev pub is_stream : Option Data → Bool
is_stream None = true
is_stream (Some d) = is_text (codes "stream") (as_str d)

-- a list of nothing
abbrev pub is_empty_list : Option Items → Bool
is_empty_list None = false
is_empty_list (Some no_items) = true
is_empty_list (Some (item d items)) = false

-- no pairs of a database and a policy
abbrev pub has_no_pairs : Option Data → Bool
has_no_pairs None = true
has_no_pairs (Some d) = is_some (as_null d) || is_empty_list (as_array d)

-- what else a body that defines a task may give: its keys `type` and `dbrps`
abbrev pub can_be_defined : Data → Bool
can_be_defined d = is_stream (get (codes "type") d) && has_no_pairs (get (codes "dbrps") d)

-- the task, where the script isn't too long
abbrev pub with_script : List ℕ → List ℕ → Bool → Result DefineValue Refusal
with_script id script enabled =
    if nat_lt SCRIPT_LIMIT (length script) then Err refusals.TooLong
    else Ok (record { id = id; script = script; enabled = enabled })

-- the task that a value defines; its other keys are ignored
unfoldable pub definition_in : Data → Result DefineValue Refusal
definition_in d = do
  id ← or_else refusals.BadBody (text_at (codes "id") d)
  script ← or_else refusals.BadBody (text_at (codes "script") d)
  enabled ← or_else refusals.BadBody (status_or_disabled d)
  if is_task_id id && can_be_defined d then with_script id script enabled else Err refusals.BadBody

-- the task that a body defines
abbrev pub definition_of : List ℕ → Result DefineValue Refusal
definition_of body = or_else refusals.BadBody (json_of body) >>= definition_in

-- what a body that sets the status does
abbrev pub act_of : Bool → TaskAct
act_of enabled = if enabled then acts.Enable else acts.Disable

-- the status that a body sets; its other keys are ignored
abbrev pub set_of : List ℕ → Result Bool Refusal
set_of body = or_else refusals.BadBody (option_and_then status_at (json_of body))
