-- What came of links since they were added.
use Rattle.std.proofs.Common.{◌≡◌, ℕ, List, [], ◌∷◌, refl, sym, subst, inl, inr, All}
use Rattle.std.proofs.lemmas.List.Elements.{All-cons, All-head, All-nil, All-tail}
use Rattle.http_dialog.specs.Dialogs.{fresh}
use Rattle.http_dialog.specs.Links.{Connected, Goes}
use Rattle.http_dialog.proofs.NumberLaws.{Told}
use Rattle.http_dialog.proofs.DialogLaws.{begins}
use Rattle.http_dialog.proofs.DriveLaws.{starts}
use Rattle.conn_loop.specs.declared.finished.Finished.{Finished}
use Rattle.conn_loop.specs.declared.slot.Slot.{Slot}
use Rattle.conn_loop.specs.Histories.{HasCome, HasComeToEnd, Origin}
use Rattle.conn_loop.specs.Links.{Telling}
use Rattle.conn_loop.specs.Loops.{new_link}
use Rattle.conn_loop.specs.Turns.{HasFinished, StaysOpen, Turned}

pub begun : {L : Type 0} (of : Telling L) (origins : ℕ → Origin) (served : Told) (number : ℕ) (link : L)
    → origins number ≡ record { left = of.left link; served = served; written = of.written link }
    → HasCome of origins served (new_link number link)
begun of origins served number link is =
    subst (λ (o : Origin). Goes number o.left (of.left link) o.served served o.written (of.written link) fresh) (sym is)
    (starts number (of.left link) served (of.written link) fresh (begins number fresh refl))

module _ {L : Type 0} (of : Telling L) (origins : ℕ → Origin) (ready : List ℕ) (s t : Told) where
  stays_so : (old new : Slot L) → StaysOpen of ready s t old new → HasCome of origins s old → HasCome of origins t new
  stays_so old new p h =
      let o = origins old.number in
      subst (λ (n : ℕ). Goes n (origins n).left (of.left new.link) (origins n).served t (origins n).written (of.written new.link) new.dialog)
      (sym p.number) (p.came o.left o.written o.served h)

  ends_so : (old : Slot L) (now : Finished L) → HasFinished of ready s t old now → HasCome of origins s old
      → HasComeToEnd of origins t now
  ends_so old now p h =
      let o = origins old.number in
      subst (λ (n : ℕ). Connected n (origins n).left (of.left now.link) (origins n).served t (origins n).written (of.written now.link) now.«end»)
      (sym p.number) (p.came o.left o.written o.served h)

  pub turned_so : (old still : List (Slot L)) (finished : List (Finished L)) → Turned of ready s t old still finished
      → All (HasCome of origins s) old → All (HasCome of origins t) still × All (HasComeToEnd of origins t) finished
  unfolding Turned
  turned_so [] still finished turned all = (
    subst (λ (xs : List (Slot L)). All (HasCome of origins t) xs) (sym turned.0) (All-nil (HasCome of origins t)),
    subst (λ (xs : List (Finished L)). All (HasComeToEnd of origins t) xs) (sym turned.1) (All-nil (HasComeToEnd of origins t)),
  )
  turned_so (o ∷ olds) still finished (inl (new, rest, is, stays, turned)) all =
      let more = turned_so olds rest finished turned (All-tail (HasCome of origins s) o olds all) in (
        subst (λ (xs : List (Slot L)). All (HasCome of origins t) xs) (sym is)
            (All-cons (HasCome of origins t) new rest (stays_so o new stays (All-head (HasCome of origins s) o olds all)) more.0),
        more.1,
      )
  turned_so (o ∷ olds) still finished (inr (now, rest, is, ends, turned)) all =
      let more = turned_so olds still rest turned (All-tail (HasCome of origins s) o olds all) in (
        more.0,
        subst (λ (xs : List (Finished L)). All (HasComeToEnd of origins t) xs) (sym is)
            (All-cons (HasComeToEnd of origins t) now rest (ends_so o now ends (All-head (HasCome of origins s) o olds all)) more.1),
      )
