-- A connection, and what came of it so far.
use Rattle.std.specs.Prelude.{◌≡◌, ◌⊎◌, ℕ, ◌+◌, ◌-◌, ◌*◌, ◌<◌, Bool, true, false, ◌||◌, ◌==◌, List, [], ◌∷◌, ◌++◌, length, map, min, Option, Some, None, All}
use Rattle.http_dialog.specs.declared.ending.DialogEnd.{DialogEnd}
use Rattle.http_dialog.specs.Endings.{end_of}
use Rattle.kap_http.specs.Calls.{Call, AddsCalls}
use Rattle.kap_http.specs.RequestValues.{RequestValue}
use Rattle.kap_http.specs.ReplyValues.{ReplyValue}
use Rattle.kap_http.specs.Replies.{reply_text, out_of_memory, fault_reply}
use Rattle.kap_http.specs.Requests.{Stop, behind_last, behind_most, at_end, inside, at_fault, Requests, BeginsWith, IsFinal}

-- What came of a connection so far: the bytes that were read, whether their end was seen, the calls by which its
-- requests were answered, and the bytes that were written.
pub record Past : Type 0 where
  pub came : List ℕ
  pub over : Bool
  pub calls : List Call
  pub gone : List ℕ

-- What a connection holds: bytes that came and that no request was taken of, how many further requests are taken,
-- bytes that are due and weren't written, and how it ends behind them, once that is known.
pub record DialogValue : Type 0 where
  pub held : List ℕ
  pub left : ℕ
  pub due : List ℕ
  pub ending : Option DialogEnd

-- nothing came yet
abbrev pub no_past : Past
no_past = record { came = []; over = false; calls = []; gone = [] }

-- then these bytes came
abbrev pub with_piece : List ℕ → Past → Past
with_piece piece past = record past { came = past.came ++ piece }

-- then the end of the bytes was seen
abbrev pub with_end : Past → Past
with_end past = record past { over = true }

-- then these requests were answered
abbrev pub with_calls : List Call → Past → Past
with_calls calls past = record past { calls = past.calls ++ calls }

-- then these bytes were written
abbrev pub with_gone : List ℕ → Past → Past
with_gone piece past = record past { gone = past.gone ++ piece }

-- a connection that holds nothing, and takes 1,000 requests
abbrev pub fresh : DialogValue
fresh = record { held = []; left = 1000; due = []; ending = None }

-- the reply, as the last one where it is due as that
abbrev pub as_due : Bool → ReplyValue → ReplyValue
as_due due reply = record reply { last = reply.last || due }

-- the text of the reply, or of a 503 in its place
abbrev pub IsPrinted : Bool → ReplyValue → List ℕ → Type 0
IsPrinted due reply text =
    (text ≡ reply_text (as_due due reply)) ⊎ (text ≡ reply_text (out_of_memory (reply.last || due)))

-- The texts of the replies, one behind the other, where at most so many requests are taken: the reply to a request
-- that is the last, and the last of so many, are due as last ones.
abbrev pub Answered : ℕ → List Call → List ℕ → Type 0
Answered left [] out = out ≡ []
Answered left (c ∷ calls) out =
    (text : List ℕ) × (more : List ℕ) × (out ≡ text ++ more)
    × IsPrinted (c.request.last || left == 1) c.reply text × Answered (left - 1) calls more

abbrev pub requests_of : List Call → List RequestValue
requests_of calls = map (λ c. c.request) calls

-- the text behind the replies, where the requests stop so
abbrev pub refusal : Stop → List ℕ
refusal (at_fault fault) = reply_text (fault_reply fault)
refusal behind_last = []
refusal behind_most = []
refusal at_end = []
refusal inside = []

-- the requests answered are the first ones of the bytes that came, and what is held is their rest
pub record IsOpen (past : Past) (held : List ℕ) (left : ℕ) (texts all : List ℕ) : Type 0 where
  pub begun : BeginsWith past.came (requests_of past.calls) held
  pub count : length past.calls + left ≡ 1000
  pub some : 0 < left
  pub whole : all ≡ texts

-- the requests answered are all that the bytes hold, whatever follows, or up to their end
pub record IsOver (past : Past) (ending : DialogEnd) (texts all : List ℕ) : Type 0 where
  pub stop : Stop
  pub requests : Requests 1000 past.came (requests_of past.calls) stop
  pub final : IsFinal stop ⊎ (past.over ≡ true)
  pub ending_is : ending ≡ end_of stop
  pub whole : all ≡ texts ++ refusal stop

-- where a connection stands whose texts so far are all of these
abbrev pub Stands : Past → List ℕ → ℕ → List ℕ → List ℕ → Option DialogEnd → Type 0
Stands past held left texts all None = IsOpen past held left texts all
Stands past held left texts all (Some ending) = IsOver past ending texts all

-- the call is of the connection with this number
abbrev pub IsOf : ℕ → Call → Type 0
IsOf number c = c.number ≡ number

-- A connection of this number has this past: each call is of it, and the bytes that were written and those that are
-- due are together the texts of all replies.
pub record HasPast (number : ℕ) (past : Past) (dialog : DialogValue) : Type 0 where
  pub numbers : All (IsOf number) past.calls
  pub texts : List ℕ
  pub answered : Answered 1000 past.calls texts
  pub stands : Stands past dialog.held dialog.left texts (past.gone ++ dialog.due) dialog.ending

-- A step made these calls, each of this number. Whatever past the connection had, it now has one with them behind.
pub record Steps (number : ℕ) (old new : DialogValue) (served now_served : Option (List Call)) : Type 0 where
  pub calls : List Call
  pub told : AddsCalls served now_served calls
  pub numbers : All (IsOf number) calls
  pub goes : (past : Past) → HasPast number past old → HasPast number (with_calls calls past) new

-- how much further a connection can go that ends so, takes so many further requests and holds so many bytes
abbrev pub reach_of : Option DialogEnd → ℕ → ℕ → ℕ
reach_of None left held = 2 * (left * 8404993 + (8404992 - held) + 1)
reach_of (Some ending) left held = 0

abbrev pub reach : DialogValue → ℕ
reach dialog = reach_of dialog.ending dialog.left (length dialog.held)

-- the same, where bytes that are due count as one more step
abbrev pub room : DialogValue → ℕ
room dialog = reach dialog + min 1 (length dialog.due)
