-- Why a request is refused, and the reply that says so.
use Rattle.std.specs.Prelude.{ℕ, List, Option, Some, None, Result, Ok, Err, codes}
use Rattle.kap_http.specs.declared.refusal.Refusal.{Refusal}
use Rattle.kap_http.specs.declared.refusal.Refusal.TheVariants as refusals
use Rattle.kap_http.specs.ReplyValues.{ReplyValue}
use Rattle.kap_http.specs.Replies.{error_reply}

-- the status of a refusal
abbrev pub refusal_status : Refusal → ℕ
refusal_status refusals.DbMissing = 400
refusal_status refusals.BadName = 400
refusal_status refusals.BadPrecision = 400
refusal_status refusals.BadBody = 400
refusal_status refusals.TooLong = 400
refusal_status refusals.NoPath = 404
refusal_status refusals.NoTask = 404
refusal_status refusals.NoMethod = 405
refusal_status refusals.Exists = 409
refusal_status refusals.TooManyTasks = 409
refusal_status refusals.Store = 500
refusal_status refusals.NoMemory = 503

-- the text of a refusal
abbrev pub refusal_text : Refusal → List ℕ
refusal_text refusals.DbMissing = codes "db missing"
refusal_text refusals.BadName = codes "bad name"
refusal_text refusals.BadPrecision = codes "bad precision"
refusal_text refusals.BadBody = codes "bad body"
refusal_text refusals.TooLong = codes "too long"
refusal_text refusals.NoPath = codes "not found"
refusal_text refusals.NoTask = codes "no task"
refusal_text refusals.NoMethod = codes "method not allowed"
refusal_text refusals.Exists = codes "exists"
refusal_text refusals.TooManyTasks = codes "too many tasks"
refusal_text refusals.Store = codes "store"
refusal_text refusals.NoMemory = codes "no memory"

-- the reply to a refused request
abbrev pub refusal_reply : Refusal → ReplyValue
refusal_reply refusal = error_reply (refusal_status refusal) (refusal_text refusal)

-- a refusal as its reply
abbrev pub as_reply : {A : Type 0} → Result A Refusal → Result A ReplyValue
as_reply (Ok x) = Ok x
as_reply (Err refusal) = Err (refusal_reply refusal)

-- what is there, or this refusal
abbrev pub or_else : {A : Type 0} → Refusal → Option A → Result A Refusal
or_else refusal None = Err refusal
or_else refusal (Some x) = Ok x
