-- What polls of a connection come to.
use Rattle.std.specs.Prelude.{◌⊎◌, ℕ, List, Option}
use Rattle.kap_base.specs.Words.{HasRisen}
use Rattle.kap_http.specs.Calls.{Call}
use Rattle.http_dialog.specs.declared.ending.LinkEnd.{LinkEnd}
use Rattle.http_dialog.specs.Dialogs.{DialogValue}
use Rattle.http_dialog.specs.Driving.{ComesTo}
use Rattle.conn_future.specs.Steps.{HasServed, WaitsToRead, WaitsToWrite}

-- Why a poll isn't ready: the link would have had to wait, for bytes or for room, or 64 requests were served.
abbrev pub IsPending : ℕ → ℕ → DialogValue → DialogValue → Type 0
IsPending waits now_waits old new =
    (HasRisen waits now_waits × (WaitsToRead new ⊎ WaitsToWrite new)) ⊎ HasServed 64 old new

-- A connection that stands here comes to this end, over bytes that its link and calls that its Serve tells then.
abbrev pub MayEndSo : ℕ → Option (List ℕ) → Option (List Call) → Option (List ℕ) → DialogValue → LinkEnd → Type 0
MayEndSo number left served written dialog ending =
    (now_left : Option (List ℕ)) × (now_served : Option (List Call)) × (now_written : Option (List ℕ))
    × ComesTo number left now_left served now_served written now_written dialog ending
