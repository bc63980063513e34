-- Steps of a connection over a link that doesn't wait.
use Rattle.std.specs.Prelude.{◌≡◌, ◌≢◌, ℕ, ◌+◌, ⊤, [], None, Ok}
use Rattle.kap_base.specs.Words.{HasRisen}
use Rattle.kap_http.specs.Reading.{Gives}
use Rattle.http_dialog.specs.declared.ending.LinkEnd.{LinkEnd}
use Rattle.http_dialog.specs.declared.ending.LinkEnd.TheVariants as ends
use Rattle.http_dialog.specs.Dialogs.{DialogValue}
use Rattle.conn_future.specs.declared.steps.Step.{Step}
use Rattle.conn_future.specs.declared.steps.Step.TheVariants as steps

-- this holds where the connection hasn't ended
abbrev pub OnGoing : Step → Type 0 → Type 0
OnGoing (steps.Ended ending) P = ⊤
OnGoing steps.Reads P = P
OnGoing steps.Writes P = P
OnGoing steps.Spent P = P

-- this holds of how it has ended
abbrev pub IfEnded : Step → (LinkEnd → Type 0) → Type 0
IfEnded (steps.Ended ending) P = P ending
IfEnded steps.Reads P = ⊤
IfEnded steps.Writes P = ⊤
IfEnded steps.Spent P = ⊤

-- all whole requests are served and all that is due is written, and more bytes are waited for
abbrev pub WaitsToRead : DialogValue → Type 0
WaitsToRead dialog = (dialog.due ≡ []) × (dialog.ending ≡ None) × Gives dialog.held (Ok None)

-- some bytes are due
abbrev pub WaitsToWrite : DialogValue → Type 0
WaitsToWrite dialog = dialog.due ≢ []

-- so many requests were served
abbrev pub HasServed : ℕ → DialogValue → DialogValue → Type 0
HasServed count old new = old.left ≡ new.left + count

-- how a step rests that has served what a step serves: what is due is written, or the link waits for room, or failed
abbrev pub RestsSo : ℕ → ℕ → ℕ → ℕ → DialogValue → Step → Type 0
RestsSo faults now_faults waits now_waits dialog steps.Spent = dialog.due ≡ []
RestsSo faults now_faults waits now_waits dialog steps.Writes = WaitsToWrite dialog × HasRisen waits now_waits
RestsSo faults now_faults waits now_waits dialog steps.Reads = ⊥
RestsSo faults now_faults waits now_waits dialog (steps.Ended ending) =
    (ending ≡ ends.WriteFault) × HasRisen faults now_faults
