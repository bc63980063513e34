-- What came of links since they were added.
use Rattle.std.specs.Prelude.{ℕ, List, Option}
use Rattle.kap_http.specs.Calls.{Call}
use Rattle.http_dialog.specs.Links.{Connected, Goes}
use Rattle.conn_loop.specs.declared.finished.Finished.{Finished}
use Rattle.conn_loop.specs.declared.slot.Slot.{Slot}
use Rattle.conn_loop.specs.Links.{Telling}

-- what was told as a link was added: the bytes still to come, the calls served, and the bytes taken
pub record Origin : Type 0 where
  pub left : Option (List ℕ)
  pub served : Option (List Call)
  pub written : Option (List ℕ)

-- what an open link has come to since it was added, by its number
abbrev pub HasCome : {L : Type 0} → Telling L → (ℕ → Origin) → Option (List Call) → Slot L → Type 0
HasCome of origins served slot =
    Goes slot.number (origins slot.number).left (of.left slot.link) (origins slot.number).served served
    (origins slot.number).written (of.written slot.link) slot.dialog

-- what a link has come to at its end since it was added, by its number
abbrev pub HasComeToEnd : {L : Type 0} → Telling L → (ℕ → Origin) → Option (List Call) → Finished L → Type 0
HasComeToEnd of origins served now =
    Connected now.number (origins now.number).left (of.left now.link) (origins now.number).served served
    (origins now.number).written (of.written now.link) now.«end»
