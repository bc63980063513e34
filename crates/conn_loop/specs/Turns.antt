-- What a turn makes of the open links.
use Rattle.std.specs.Prelude.{◌≡◌, ◌⊎◌, ℕ, ◌+◌, ◌≤◌, true, List, [], ◌∷◌, Option, All, MatchBool}
use Rattle.kap_base.specs.Words.{HasRisen}
use Rattle.kap_http.specs.Calls.{Call, AddsCalls}
use Rattle.http_dialog.specs.declared.ending.LinkEnd.TheVariants as ends
use Rattle.http_dialog.specs.Dialogs.{IsOf}
use Rattle.http_dialog.specs.Driving.{ComesOn, ComesTo}
use Rattle.conn_future.specs.Steps.{HasServed, WaitsToRead, WaitsToWrite}
use Rattle.conn_loop.specs.declared.finished.Finished.{Finished}
use Rattle.conn_loop.specs.declared.slot.Slot.{Slot}
use Rattle.conn_loop.specs.Links.{Telling}
use Rattle.conn_loop.specs.Loops.{is_due}

-- A link was polled and is open: at most 64 requests were served. It is woken where 64 were, and else the link would
-- have had to wait, for bytes or for room.
pub record IsPolled {L : Type 0} (of : Telling L) (old new : Slot L) : Type 0 where
  pub most : old.dialog.left ≤ new.dialog.left + 64
  pub why : MatchBool new.woken (HasServed 64 old.dialog new.dialog)
      (HasRisen (of.waits old.link) (of.waits new.link) × (WaitsToRead new.dialog ⊎ WaitsToWrite new.dialog))

-- A link is open as before: wherever it came from, it has come on, by its own number. It was polled where it was due,
-- and else stands as it stood.
pub record StaysOpen {L : Type 0} (of : Telling L) (ready : List ℕ) (served now_served : Option (List Call))
    (old new : Slot L) : Type 0 where
  pub number : new.number ≡ old.number
  pub came : ComesOn old.number (of.left old.link) (of.left new.link) served now_served
      (of.written old.link) (of.written new.link) old.dialog new.dialog
  pub polled : MatchBool (is_due ready old) (IsPolled of old new) (new ≡ old)

-- A link that was due has ended: wherever it came from, it has come to this end, by its own number. ReadFault and
-- WriteFault come only where that count of the link rose.
pub record HasFinished {L : Type 0} (of : Telling L) (ready : List ℕ) (served now_served : Option (List Call))
    (old : Slot L) (now : Finished L) : Type 0 where
  pub due : is_due ready old ≡ true
  pub number : now.number ≡ old.number
  pub came : ComesTo old.number (of.left old.link) (of.left now.link) served now_served
      (of.written old.link) (of.written now.link) old.dialog now.«end»
  pub read_cause : now.«end» ≡ ends.ReadFault → HasRisen (of.read_faults old.link) (of.read_faults now.link)
  pub write_cause : now.«end» ≡ ends.WriteFault → HasRisen (of.write_faults old.link) (of.write_faults now.link)

-- Each open link stays open or has finished, once, and in order; none comes beside them.
unfoldable pub Turned : {L : Type 0} → Telling L → List ℕ → Option (List Call) → Option (List Call) → List (Slot L)
    → List (Slot L) → List (Finished L) → Type 0
Turned of ready served now_served [] still finished = (still ≡ []) × (finished ≡ [])
Turned {L} of ready served now_served (old ∷ olds) still finished =
    ((new : Slot L) × (more : List (Slot L)) × (still ≡ new ∷ more)
    × StaysOpen of ready served now_served old new × Turned of ready served now_served olds more finished)
    ⊎ ((now : Finished L) × (more : List (Finished L)) × (finished ≡ now ∷ more)
    × HasFinished of ready served now_served old now × Turned of ready served now_served olds still more)

-- the call is of one of these links
unfoldable pub IsOfSome : {L : Type 0} → List (Slot L) → Call → Type 0
IsOfSome [] c = ⊥
IsOfSome (s ∷ slots) c = IsOf s.number c ⊎ IsOfSome slots c

-- all calls that came are of these links
abbrev pub AddsAmong : {L : Type 0} → List (Slot L) → Option (List Call) → Option (List Call) → Type 0
AddsAmong slots served now_served =
    (calls : List Call) × AddsCalls served now_served calls × All (IsOfSome slots) calls
