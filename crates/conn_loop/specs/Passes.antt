-- What the parts of a turn make of a link.
use Rattle.std.specs.Prelude.{◌≡◌, ◌⊎◌, ℕ, List, [], ◌∷◌, ◌++◌, length, Option}
use Rattle.kap_base.specs.Words.{HasRisen}
use Rattle.kap_http.specs.Calls.{Call}
use Rattle.http_dialog.specs.declared.ending.LinkEnd.{LinkEnd}
use Rattle.http_dialog.specs.declared.ending.LinkEnd.TheVariants as ends
use Rattle.http_dialog.specs.Driving.{ComesOn, ComesTo}
use Rattle.http_dialog.specs.Numbers.{AddsOnly}
use Rattle.conn_loop.specs.declared.finished.Finished.{Finished}
use Rattle.conn_loop.specs.declared.slot.Slot.{Slot}
use Rattle.conn_loop.specs.Links.{Telling}
use Rattle.conn_loop.specs.Turns.{AddsAmong, HasFinished, IsPolled, StaysOpen, Turned}

-- a link was polled and is open
pub record GoesSo {L : Type 0} (of : Telling L) (served now_served : Option (List Call)) (old new : Slot L) : Type 0 where
  pub came : ComesOn old.number (of.left old.link) (of.left new.link) served now_served
      (of.written old.link) (of.written new.link) old.dialog new.dialog
  pub polled : IsPolled of old new

-- a link was polled and has ended so
pub record EndsSo {L : Type 0} (of : Telling L) (served now_served : Option (List Call)) (old new : Slot L)
    (ending : LinkEnd) : Type 0 where
  pub came : ComesTo old.number (of.left old.link) (of.left new.link) served now_served
      (of.written old.link) (of.written new.link) old.dialog ending
  pub read_cause : ending ≡ ends.ReadFault → HasRisen (of.read_faults old.link) (of.read_faults new.link)
  pub write_cause : ending ≡ ends.WriteFault → HasRisen (of.write_faults old.link) (of.write_faults new.link)

-- the first link was taken, and is the last one, or has finished
abbrev pub IsMoved : {L : Type 0} → Telling L → List ℕ → Option (List Call) → Option (List Call) → Slot L → List (Slot L)
    → List (Slot L) → List (Finished L) → List (Finished L) → Type 0
IsMoved {L} of ready served now_served first rest slots before finished =
    ((new : Slot L) × (slots ≡ rest ++ new ∷ []) × (finished ≡ before)
    × StaysOpen of ready served now_served first new)
    ⊎ ((now : Finished L) × (slots ≡ rest) × (finished ≡ before ++ now ∷ [])
    × HasFinished of ready served now_served first now)

-- what was made of the first of these links
pub record IsPassed {L : Type 0} (of : Telling L) (ready : List ℕ) (served now_served : Option (List Call))
    (old slots : List (Slot L)) (before finished : List (Finished L)) : Type 0 where
  pub first : Slot L
  pub rest : List (Slot L)
  pub whole : old ≡ first ∷ rest
  pub moved : IsMoved of ready served now_served first rest slots before finished
  pub only : AddsOnly first.number served now_served

-- how far a turn has come: these links are passed, so many are still to be, and stand before those that stayed open
pub record HasPassed {L : Type 0} (of : Telling L) (ready : List ℕ) (served now_served : Option (List Call))
    (olds slots : List (Slot L)) (finished : List (Finished L)) (left : ℕ) : Type 0 where
  pub done : List (Slot L)
  pub todo : List (Slot L)
  pub kept : List (Slot L)
  pub whole : olds ≡ done ++ todo
  pub now : slots ≡ todo ++ kept
  pub count : left ≡ length todo
  pub turned : Turned of ready served now_served done kept finished
  pub among : AddsAmong done served now_served
