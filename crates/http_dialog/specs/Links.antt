-- A connection over a link: what was read, asked and written, and how it ended.
use Rattle.std.specs.Prelude.{◌≡◌, ◌⊎◌, ℕ, true, ⊤, List, ◌++◌, Option, Some, None, All}
use Rattle.std.specs.Io.KnownBytes.{Appends, Consumes, IsAtEnd}
use Rattle.http_dialog.specs.declared.ending.LinkEnd.{LinkEnd}
use Rattle.http_dialog.specs.declared.ending.LinkEnd.TheVariants as ends
use Rattle.http_dialog.specs.Endings.{end_of, of_link}
use Rattle.http_dialog.specs.Dialogs.{Past, DialogValue, HasPast, IsOf, Answered, requests_of, refusal}
use Rattle.http_dialog.specs.Numbers.{AddsOf}
use Rattle.kap_http.specs.Calls.{Call}
use Rattle.kap_http.specs.Requests.{Stop, Requests, BeginsWith, IsFinal}

-- no byte is left, where the link told its bytes before
abbrev pub EndsAt : Option (List ℕ) → Option (List ℕ) → Type 0
EndsAt None now_left = ⊤
EndsAt (Some bytes) now_left = IsAtEnd now_left

-- The past of the connection with this number is what its link and its Serve tell since: the bytes that are left
-- before and now, the calls before and now, and the bytes that were written before and now.
pub record IsTold (number : ℕ) (left now_left : Option (List ℕ)) (served now_served : Option (List Call))
    (written now_written : Option (List ℕ)) (past : Past) : Type 0 where
  pub consumed : Consumes left now_left past.came
  pub at_end : past.over ≡ true → EndsAt left now_left
  pub told : AddsOf number served now_served past.calls
  pub wrote : Appends written now_written past.gone

-- the connection has a past that is told
pub record Goes (number : ℕ) (left now_left : Option (List ℕ)) (served now_served : Option (List Call))
    (written now_written : Option (List ℕ)) (dialog : DialogValue) : Type 0 where
  pub past : Past
  pub told : IsTold number left now_left served now_served written now_written past
  pub has : HasPast number past dialog

-- all requests of the bytes were answered, and all that is due was written
pub record HasEnded (past : Past) (ending : LinkEnd) : Type 0 where
  pub stop : Stop
  pub requests : Requests 1000 past.came (requests_of past.calls) stop
  pub all : IsFinal stop ⊎ (past.over ≡ true)
  pub texts : List ℕ
  pub answered : Answered 1000 past.calls texts
  pub wrote : past.gone ≡ texts ++ refusal stop
  pub ending_is : ending ≡ of_link (end_of stop)

-- the requests that were answered are the first ones of the bytes, and all their replies were written
pub record HasStopped (past : Past) : Type 0 where
  pub rest : List ℕ
  pub begun : BeginsWith past.came (requests_of past.calls) rest
  pub answered : Answered 1000 past.calls past.gone

-- the requests that were answered are the first ones of the bytes, or all of them
abbrev pub IsBegun : Past → Type 0
IsBegun past = ((rest : List ℕ) × BeginsWith past.came (requests_of past.calls) rest)
    ⊎ ((stop : Stop) × Requests 1000 past.came (requests_of past.calls) stop)

-- these are the bytes due: the texts of the replies, and the refusal where one is due
abbrev pub IsDue : Past → List ℕ → List ℕ → Type 0
IsDue past texts all = (all ≡ texts)
    ⊎ ((stop : Stop) × Requests 1000 past.came (requests_of past.calls) stop × (all ≡ texts ++ refusal stop))

-- the bytes that were written are a prefix of those due
pub record WasCut (past : Past) : Type 0 where
  pub texts : List ℕ
  pub more : List ℕ
  pub answered : Answered 1000 past.calls texts
  pub due : IsDue past texts (past.gone ++ more)
  pub requests : IsBegun past

-- what has come of a connection that ended so
abbrev pub Fate : Past → LinkEnd → Type 0
Fate past ends.Closed = HasEnded past ends.Closed
Fate past ends.Limit = HasEnded past ends.Limit
Fate past ends.Refused = HasEnded past ends.Refused
Fate past ends.ReadFault = HasStopped past
Fate past ends.NoMemory = HasStopped past
Fate past ends.WriteFault = WasCut past

-- what the connection of this number has come to at its end
pub record Connected (number : ℕ) (left now_left : Option (List ℕ)) (served now_served : Option (List Call))
    (written now_written : Option (List ℕ)) (ending : LinkEnd) : Type 0 where
  pub past : Past
  pub told : IsTold number left now_left served now_served written now_written past
  pub numbers : All (IsOf number) past.calls
  pub fate : Fate past ending
