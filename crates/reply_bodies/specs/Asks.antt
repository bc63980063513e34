-- Which asks are changes, and what a status says of them.
use Rattle.std.specs.Prelude.{◌≡◌, ◌⊎◌, ℕ, ◌==◌, Bool, true, false, ◌&&◌, ◌||◌, if◌then◌else◌}
use Rattle.kap_http.specs.declared.ask.Ask.{Ask}
use Rattle.kap_http.specs.declared.ask.Ask.TheVariants as asks
use Rattle.kap_http.specs.declared.ask.TaskAct.{TaskAct}
use Rattle.kap_http.specs.declared.ask.TaskAct.TheVariants as acts

-- to do this with a task is a change
abbrev pub is_changing_act : TaskAct → Bool
is_changing_act acts.Show = false
is_changing_act acts.Enable = true
is_changing_act acts.Disable = true
is_changing_act acts.Delete = true

-- the ask is for a change: points are written, or a task is defined, enabled, disabled or deleted
abbrev pub is_changing : Ask → Bool
is_changing asks.Ping = false
is_changing (asks.Write w) = true
is_changing asks.Tasks = false
is_changing (asks.Define d) = true
is_changing (asks.Task t) = is_changing_act t.act
is_changing asks.Topics = false
is_changing (asks.Topic t) = false

-- the status says that what was asked is done
abbrev pub is_done : ℕ → Bool
is_done status = status == 200 || status == 204

-- 1 where a change that was asked for is done
abbrev pub change_of : Ask → ℕ → ℕ
change_of ask status = if is_changing ask && is_done status then 1 else 0

-- the status says that the store failed, or that memory ran out
abbrev pub IsFailed : ℕ → Type 0
IsFailed status = (status ≡ 500) ⊎ (status ≡ 503)
