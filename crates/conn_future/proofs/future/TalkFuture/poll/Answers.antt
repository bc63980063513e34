use Rattle.std.proofs.Common.{◌≡◌, ℕ, List, Option, subst}
use Rattle.futures.specs.declared.task.Poll.{Poll}
use Rattle.futures.specs.declared.task.Poll.TheVariants.{Ready, Pending}
use Rattle.futures.specs.Poll.{IfReady, OnPending}
use Rattle.kap_http.specs.Calls.{Call}
use Rattle.http_dialog.specs.declared.ending.LinkEnd.{LinkEnd}
use Rattle.http_dialog.specs.Dialogs.{DialogValue}
use Rattle.http_dialog.specs.Driving.{ComesOn, ComesTo}
use Rattle.conn_future.specs.Polls.{MayEndSo}
use Rattle.conn_future.proofs.future.TalkFuture.poll.Goals as goal

abbrev Known : Type 0
Known = Option (List ℕ)

abbrev Told : Type 0
Told = Option (List Call)

-- an end that a poll comes to is one that may come
may_end : (number : ℕ) (l m : Known) (s t : Told) (v w : Known) (dialog : DialogValue) (r : Poll LinkEnd)
    → IfReady r (λ e. ComesTo number l m s t v w dialog e) → IfReady r (λ e. MayEndSo number l s v dialog e)
may_end number l m s t v w dialog (Ready e) p = (m, t, w, p)
may_end number l m s t v w dialog Pending p = tt

-- what may come of a connection behind a poll may come of it before
from_later : (number later : ℕ) (l m : Known) (s t : Told) (v w : Known) (old new : DialogValue) (e : LinkEnd)
    → later ≡ number → ComesOn number l m s t v w old new → MayEndSo later m t w new e → MayEndSo number l s v old e
from_later number later l m s t v w old new e same on may = (
  may.0,
  may.1,
  may.2,
  λ k x r goes.
      subst (λ (n : ℕ). ComesTo n m may.0 t may.1 w may.2 new e) same may.3 k x r (on k x r goes),
)

on_pending : (r : Poll LinkEnd) (P Q : Type 0) → (P → Q) → OnPending r P → OnPending r Q
on_pending (Ready e) P Q f p = tt
on_pending Pending P Q f p = f p

pub returns-clause-value : goal.returns-clause-value
returns-clause-value g c =
    let old = c.args.self.now.conn.now in
    let new = c.poll.new.self in
    may_end old.number (g.L.TryLink.left old.link) (g.L.TryLink.left new.link) (g.H.Serve.served c.args.self.now.serve.now) (g.H.Serve.served c.poll.new.serve)
    (g.L.TryLink.written old.link) (g.L.TryLink.written new.link) old.dialog c.poll.result c.poll.ensures.ends

pub returns-clause-same : goal.returns-clause-same
returns-clause-same g c =
    let old = c.args.self.now.conn.now in
    let new = c.poll.new.self in
    let l = g.L.TryLink.left old.link in
    let m = g.L.TryLink.left new.link in
    let s = g.H.Serve.served c.args.self.now.serve.now in
    let t = g.H.Serve.served c.poll.new.serve in
    let v = g.L.TryLink.written old.link in
    let w = g.L.TryLink.written new.link in
    on_pending c.poll.result (ComesOn old.number l m s t v w old.dialog new.dialog) _
    (λ on e may. from_later old.number new.number l m s t v w old.dialog new.dialog e c.poll.ensures.number on may) c.poll.ensures.pending
