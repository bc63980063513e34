use Rattle.std.proofs.Common.{◌≡◌, ℕ, [], Err, refl, sym, subst, ap, ◌∙◌, arith}
use Rattle.http_dialog.specs.declared.ending.LinkEnd.{LinkEnd}
use Rattle.http_dialog.specs.declared.ending.LinkEnd.TheVariants as ends
use Rattle.http_dialog.specs.Driving.{ComesOn, ComesTo, GoesOn}
use Rattle.http_dialog.specs.Dialogs.{DialogValue}
use Rattle.http_dialog.proofs.NumberLaws.{only_none, only_more}
use Rattle.http_dialog.proofs.DriveLaws.{comes_none, comes_stepped, comes_moved, comes_end, comes_memory, comes_cut, comes_lost}
use Rattle.conn_future.specs.declared.steps.Step.{Step}
use Rattle.conn_future.specs.declared.steps.Step.TheVariants as steps
use Rattle.conn_future.specs.Steps.{OnGoing, IfEnded, RestsSo}
use Rattle.conn_future.proofs.steps.take_step.Goals as goal

on_going : (r : Step) (P : Type 0) → P → OnGoing r P
on_going (steps.Ended ending) P p = tt
on_going steps.Reads P p = p
on_going steps.Writes P p = p
on_going steps.Spent P p = p

-- a step that rests ends only where a write failed
rest_ends : (faults now_faults waits now_waits : ℕ) (dialog : DialogValue) (r : Step) (P : LinkEnd → Type 0)
    → RestsSo faults now_faults waits now_waits dialog r → P ends.WriteFault → IfEnded r P
rest_ends faults now_faults waits now_waits dialog (steps.Ended ending) P said p = subst P (sym said.0) p
rest_ends faults now_faults waits now_waits dialog steps.Reads P said p = tt
rest_ends faults now_faults waits now_waits dialog steps.Writes P said p = tt
rest_ends faults now_faults waits now_waits dialog steps.Spent P said p = tt

pub turns-init : goal.turns-init
turns-init g c = record {
  budget = refl;
  some = omega arith;
  reads = omega arith;
  writes = omega arith;
  waits = omega arith;
  only = only_none c.args.number (g.H.Serve.served c.args.serve.now);
  goes = comes_none c.args.number (g.L.TryLink.left c.args.link.now) (g.H.Serve.served c.args.serve.now) (g.L.TryLink.written c.args.link.now) c.args.dialog.now;
}

pub turns-preserved-else-budget-eq0 : goal.turns-preserved-else-budget-eq0
turns-preserved-else-budget-eq0 g c =
    let i = c.turns.invariant in
    let number = c.args.number in
    let a = g.L.TryLink.left c.args.link.now in
    let b = g.L.TryLink.left c.turns.link in
    let v = g.L.TryLink.written c.args.link.now in
    let w = g.L.TryLink.written c.turns.link in
    let s = g.H.Serve.served c.args.serve.now in
    let t = g.H.Serve.served c.turns.serve in
    let u = g.H.Serve.served c.advance.new.serve in
    let old = c.args.dialog.now in
    let new = c.advance.new.self in
    let step = c.advance.ensures.steps in
    let on = comes_stepped number a b s t u v w old c.turns.dialog new i.goes step in
    record {
      budget = let before = i.budget in let one = (c.in-Served.ensures.served refl).0 in let some = i.some in omega arith;
      some = let before = i.some in let left = c.if-budget-eq0.false in omega arith;
      reads = i.reads;
      writes = i.writes;
      waits = i.waits;
      only = only_more number s t u step.calls i.only step.told step.numbers;
      goes = on;
    }

pub turns-preserved-in-Ok : goal.turns-preserved-in-Ok
turns-preserved-in-Ok g c =
    let i = c.turns.invariant in
    let number = c.args.number in
    let a = g.L.TryLink.left c.args.link.now in
    let b = g.L.TryLink.left c.turns.link in
    let v = g.L.TryLink.written c.args.link.now in
    let w = g.L.TryLink.written c.turns.link in
    let s = g.H.Serve.served c.args.serve.now in
    let t = g.H.Serve.served c.turns.serve in
    let u = g.H.Serve.served c.advance.new.serve in
    let old = c.args.dialog.now in
    let new = c.advance.new.self in
    let step = c.advance.ensures.steps in
    let on = comes_stepped number a b s t u v w old c.turns.dialog new i.goes step in
    record {
      budget = let before = i.budget in let same = (c.in-Write.ensures.write refl).0 in let left = c.flush.ensures.left in omega arith;
      some = i.some;
      reads = let before = i.reads in let later = c.flush.ensures.cause.other in omega arith;
      writes = let before = i.writes in let later = c.flush.ensures.cause.later in omega arith;
      waits = let before = i.waits in let later = c.flush.ensures.cause.waited in omega arith;
      only = only_more number s t u step.calls i.only step.told step.numbers;
      goes = comes_moved number a b (g.L.TryLink.left c.flush.new.link) s u v w (g.L.TryLink.written c.flush.new.link) old new c.flush.new.dialog on c.flush.ensures.goes;
    }

pub turns-preserved : goal.turns-preserved
turns-preserved g c =
    let i = c.turns.invariant in
    let number = c.args.number in
    let a = g.L.TryLink.left c.args.link.now in
    let b = g.L.TryLink.left c.turns.link in
    let v = g.L.TryLink.written c.args.link.now in
    let w = g.L.TryLink.written c.turns.link in
    let s = g.H.Serve.served c.args.serve.now in
    let t = g.H.Serve.served c.turns.serve in
    let u = g.H.Serve.served c.advance.new.serve in
    let old = c.args.dialog.now in
    let new = c.advance.new.self in
    let step = c.advance.ensures.steps in
    let on = comes_stepped number a b s t u v w old c.turns.dialog new i.goes step in
    record {
      budget = let before = i.budget in let same : new.left ≡ c.turns.dialog.left = ap (λ (x : DialogValue). x.left) (c.in-Read.ensures.read refl).0 in let left = c.fill.ensures.left in omega arith;
      some = i.some;
      reads = let before = i.reads in let later = c.fill.ensures.reads in omega arith;
      writes = let before = i.writes in let later = c.fill.ensures.writes in omega arith;
      waits = let before = i.waits in let later = c.fill.ensures.later in omega arith;
      only = only_more number s t u step.calls i.only step.told step.numbers;
      goes = comes_moved number a b (g.L.TryLink.left c.fill.new.link) s u v w (g.L.TryLink.written c.fill.new.link) old new c.fill.new.dialog on c.in-Ok-fill.ensures.goes;
    }

pub returns-in-Err-Waits-clause-goes : goal.returns-in-Err-Waits-clause-goes
returns-in-Err-Waits-clause-goes g c =
    let i = c.turns.invariant in
    let number = c.args.number in
    let a = g.L.TryLink.left c.args.link.now in
    let b = g.L.TryLink.left c.turns.link in
    let v = g.L.TryLink.written c.args.link.now in
    let w = g.L.TryLink.written c.turns.link in
    let s = g.H.Serve.served c.args.serve.now in
    let t = g.H.Serve.served c.turns.serve in
    let u = g.H.Serve.served c.advance.new.serve in
    let old = c.args.dialog.now in
    let new = c.advance.new.self in
    let step = c.advance.ensures.steps in
    let on = comes_stepped number a b s t u v w old c.turns.dialog new i.goes step in
    comes_moved number a b (g.L.TryLink.left c.flush.new.link) s u v w (g.L.TryLink.written c.flush.new.link) old new c.flush.new.dialog on c.flush.ensures.goes

pub returns-in-Err-Failed-clause-ends : goal.returns-in-Err-Failed-clause-ends
returns-in-Err-Failed-clause-ends g c =
    let i = c.turns.invariant in
    let number = c.args.number in
    let a = g.L.TryLink.left c.args.link.now in
    let b = g.L.TryLink.left c.turns.link in
    let v = g.L.TryLink.written c.args.link.now in
    let w = g.L.TryLink.written c.turns.link in
    let s = g.H.Serve.served c.args.serve.now in
    let t = g.H.Serve.served c.turns.serve in
    let u = g.H.Serve.served c.advance.new.serve in
    let old = c.args.dialog.now in
    let new = c.advance.new.self in
    let step = c.advance.ensures.steps in
    let on = comes_stepped number a b s t u v w old c.turns.dialog new i.goes step in
    comes_cut number a (g.L.TryLink.left c.flush.new.link) s u v (g.L.TryLink.written c.flush.new.link) old c.flush.new.dialog (comes_moved number a b (g.L.TryLink.left c.flush.new.link) s u v w (g.L.TryLink.written c.flush.new.link) old new c.flush.new.dialog on c.flush.ensures.goes)

pub returns-in-Err-Waits-fill-clause-goes : goal.returns-in-Err-Waits-fill-clause-goes
returns-in-Err-Waits-fill-clause-goes g c =
    let i = c.turns.invariant in
    let number = c.args.number in
    let a = g.L.TryLink.left c.args.link.now in
    let b = g.L.TryLink.left c.turns.link in
    let v = g.L.TryLink.written c.args.link.now in
    let w = g.L.TryLink.written c.turns.link in
    let s = g.H.Serve.served c.args.serve.now in
    let t = g.H.Serve.served c.turns.serve in
    let u = g.H.Serve.served c.advance.new.serve in
    let old = c.args.dialog.now in
    let new = c.advance.new.self in
    let step = c.advance.ensures.steps in
    let on = comes_stepped number a b s t u v w old c.turns.dialog new i.goes step in
    let said = c.in-Err-Waits-fill.ensures.pending (ap Err c.in-Err-Waits-fill.field-0-is) in
    comes_moved number a b (g.L.TryLink.left c.fill.new.link) s u v w (g.L.TryLink.written c.fill.new.link) old new c.fill.new.dialog on (subst (λ (d : DialogValue). GoesOn b (g.L.TryLink.left c.fill.new.link) w (g.L.TryLink.written c.fill.new.link) new d) (sym said.0) said.1)

pub returns-in-Err-Failed-fill-clause-ends : goal.returns-in-Err-Failed-fill-clause-ends
returns-in-Err-Failed-fill-clause-ends g c =
    let i = c.turns.invariant in
    let number = c.args.number in
    let a = g.L.TryLink.left c.args.link.now in
    let b = g.L.TryLink.left c.turns.link in
    let v = g.L.TryLink.written c.args.link.now in
    let w = g.L.TryLink.written c.turns.link in
    let s = g.H.Serve.served c.args.serve.now in
    let t = g.H.Serve.served c.turns.serve in
    let u = g.H.Serve.served c.advance.new.serve in
    let old = c.args.dialog.now in
    let new = c.advance.new.self in
    let step = c.advance.ensures.steps in
    let on = comes_stepped number a b s t u v w old c.turns.dialog new i.goes step in
    let said = c.in-Read.ensures.read refl in
    let quiet : new.due ≡ [] = ap (λ (x : DialogValue). x.due) said.0 ∙ said.2 in
    (comes_lost number a b (g.L.TryLink.left c.fill.new.link) s u v w (g.L.TryLink.written c.fill.new.link) old new on c.in-Err-Failed-fill.ensures.lost quiet).0

pub returns-in-Err-NoMemory-clause-ends : goal.returns-in-Err-NoMemory-clause-ends
returns-in-Err-NoMemory-clause-ends g c =
    let i = c.turns.invariant in
    let number = c.args.number in
    let a = g.L.TryLink.left c.args.link.now in
    let b = g.L.TryLink.left c.turns.link in
    let v = g.L.TryLink.written c.args.link.now in
    let w = g.L.TryLink.written c.turns.link in
    let s = g.H.Serve.served c.args.serve.now in
    let t = g.H.Serve.served c.turns.serve in
    let u = g.H.Serve.served c.advance.new.serve in
    let old = c.args.dialog.now in
    let new = c.advance.new.self in
    let step = c.advance.ensures.steps in
    let on = comes_stepped number a b s t u v w old c.turns.dialog new i.goes step in
    let said = c.in-Read.ensures.read refl in
    let quiet : new.due ≡ [] = ap (λ (x : DialogValue). x.due) said.0 ∙ said.2 in
    (comes_lost number a b (g.L.TryLink.left c.fill.new.link) s u v w (g.L.TryLink.written c.fill.new.link) old new on c.in-Err-NoMemory.ensures.lost quiet).1

pub returns-in-End-clause-ends : goal.returns-in-End-clause-ends
returns-in-End-clause-ends g c =
    let i = c.turns.invariant in
    let number = c.args.number in
    let a = g.L.TryLink.left c.args.link.now in
    let b = g.L.TryLink.left c.turns.link in
    let v = g.L.TryLink.written c.args.link.now in
    let w = g.L.TryLink.written c.turns.link in
    let s = g.H.Serve.served c.args.serve.now in
    let t = g.H.Serve.served c.turns.serve in
    let u = g.H.Serve.served c.advance.new.serve in
    let old = c.args.dialog.now in
    let new = c.advance.new.self in
    let step = c.advance.ensures.steps in
    let on = comes_stepped number a b s t u v w old c.turns.dialog new i.goes step in
    let said = c.in-End.ensures.ended c.in-End.ending refl in
    let ended = comes_end number a b s u v w old new c.in-End.ending on
    (ap (λ (x : DialogValue). x.ending) said.0 ∙ said.1) (ap (λ (x : DialogValue). x.due) said.0 ∙ said.2) in
    subst (λ (e : LinkEnd). ComesTo number a b s u v w old e) (sym c.of_link.ensures) ended

pub returns-in-Memory-clause-ends : goal.returns-in-Memory-clause-ends
returns-in-Memory-clause-ends g c =
    let i = c.turns.invariant in
    let number = c.args.number in
    let a = g.L.TryLink.left c.args.link.now in
    let b = g.L.TryLink.left c.turns.link in
    let v = g.L.TryLink.written c.args.link.now in
    let w = g.L.TryLink.written c.turns.link in
    let s = g.H.Serve.served c.args.serve.now in
    let t = g.H.Serve.served c.turns.serve in
    let u = g.H.Serve.served c.advance.new.serve in
    let old = c.args.dialog.now in
    let new = c.advance.new.self in
    let step = c.advance.ensures.steps in
    let on = comes_stepped number a b s t u v w old c.turns.dialog new i.goes step in
    let said = c.in-Memory.ensures.memory refl in
    comes_memory number a b s u v w old new on
    (ap (λ (x : DialogValue). x.ending) said.0 ∙ said.1) (ap (λ (x : DialogValue). x.due) said.0 ∙ said.2)

pub returns-then-budget-eq0-clause-only : goal.returns-then-budget-eq0-clause-only
returns-then-budget-eq0-clause-only g c =
    let step = c.advance.ensures.steps in
    only_more c.args.number (g.H.Serve.served c.args.serve.now) (g.H.Serve.served c.turns.serve) (g.H.Serve.served c.advance.new.serve)
    step.calls c.turns.invariant.only step.told step.numbers

pub returns-in-Err-Waits-clause-only : goal.returns-in-Err-Waits-clause-only
returns-in-Err-Waits-clause-only g c =
    let step = c.advance.ensures.steps in
    only_more c.args.number (g.H.Serve.served c.args.serve.now) (g.H.Serve.served c.turns.serve) (g.H.Serve.served c.advance.new.serve)
    step.calls c.turns.invariant.only step.told step.numbers

pub returns-in-Err-Failed-clause-only : goal.returns-in-Err-Failed-clause-only
returns-in-Err-Failed-clause-only g c =
    let step = c.advance.ensures.steps in
    only_more c.args.number (g.H.Serve.served c.args.serve.now) (g.H.Serve.served c.turns.serve) (g.H.Serve.served c.advance.new.serve)
    step.calls c.turns.invariant.only step.told step.numbers

pub returns-in-Err-Waits-fill-clause-only : goal.returns-in-Err-Waits-fill-clause-only
returns-in-Err-Waits-fill-clause-only g c =
    let step = c.advance.ensures.steps in
    only_more c.args.number (g.H.Serve.served c.args.serve.now) (g.H.Serve.served c.turns.serve) (g.H.Serve.served c.advance.new.serve)
    step.calls c.turns.invariant.only step.told step.numbers

pub returns-in-Err-Failed-fill-clause-only : goal.returns-in-Err-Failed-fill-clause-only
returns-in-Err-Failed-fill-clause-only g c =
    let step = c.advance.ensures.steps in
    only_more c.args.number (g.H.Serve.served c.args.serve.now) (g.H.Serve.served c.turns.serve) (g.H.Serve.served c.advance.new.serve)
    step.calls c.turns.invariant.only step.told step.numbers

pub returns-in-Err-NoMemory-clause-only : goal.returns-in-Err-NoMemory-clause-only
returns-in-Err-NoMemory-clause-only g c =
    let step = c.advance.ensures.steps in
    only_more c.args.number (g.H.Serve.served c.args.serve.now) (g.H.Serve.served c.turns.serve) (g.H.Serve.served c.advance.new.serve)
    step.calls c.turns.invariant.only step.told step.numbers

pub returns-in-End-clause-only : goal.returns-in-End-clause-only
returns-in-End-clause-only g c =
    let step = c.advance.ensures.steps in
    only_more c.args.number (g.H.Serve.served c.args.serve.now) (g.H.Serve.served c.turns.serve) (g.H.Serve.served c.advance.new.serve)
    step.calls c.turns.invariant.only step.told step.numbers

pub returns-in-Memory-clause-only : goal.returns-in-Memory-clause-only
returns-in-Memory-clause-only g c =
    let step = c.advance.ensures.steps in
    only_more c.args.number (g.H.Serve.served c.args.serve.now) (g.H.Serve.served c.turns.serve) (g.H.Serve.served c.advance.new.serve)
    step.calls c.turns.invariant.only step.told step.numbers

pub returns-then-budget-eq0-clause-goes : goal.returns-then-budget-eq0-clause-goes
returns-then-budget-eq0-clause-goes g c =
    let number = c.args.number in
    let a = g.L.TryLink.left c.args.link.now in
    let b = g.L.TryLink.left c.turns.link in
    let d = g.L.TryLink.left c.rest.new.link in
    let v = g.L.TryLink.written c.args.link.now in
    let w = g.L.TryLink.written c.turns.link in
    let x = g.L.TryLink.written c.rest.new.link in
    let s = g.H.Serve.served c.args.serve.now in
    let t = g.H.Serve.served c.turns.serve in
    let u = g.H.Serve.served c.advance.new.serve in
    let old = c.args.dialog.now in
    let new = c.advance.new.self in
    let rested = c.rest.new.dialog in
    let on = comes_stepped number a b s t u v w old c.turns.dialog new c.turns.invariant.goes c.advance.ensures.steps in
    let moved = comes_moved number a b d s u v w x old new rested on c.rest.ensures.goes in
    on_going c.rest.result (ComesOn number a d s u v x old rested) moved

pub returns-then-budget-eq0-clause-ends : goal.returns-then-budget-eq0-clause-ends
returns-then-budget-eq0-clause-ends g c =
    let number = c.args.number in
    let a = g.L.TryLink.left c.args.link.now in
    let b = g.L.TryLink.left c.turns.link in
    let d = g.L.TryLink.left c.rest.new.link in
    let v = g.L.TryLink.written c.args.link.now in
    let w = g.L.TryLink.written c.turns.link in
    let x = g.L.TryLink.written c.rest.new.link in
    let s = g.H.Serve.served c.args.serve.now in
    let t = g.H.Serve.served c.turns.serve in
    let u = g.H.Serve.served c.advance.new.serve in
    let old = c.args.dialog.now in
    let new = c.advance.new.self in
    let rested = c.rest.new.dialog in
    let on = comes_stepped number a b s t u v w old c.turns.dialog new c.turns.invariant.goes c.advance.ensures.steps in
    let moved = comes_moved number a b d s u v w x old new rested on c.rest.ensures.goes in
    rest_ends (g.L.TryLink.write_faults c.turns.link) (g.L.TryLink.write_faults c.rest.new.link) (g.L.TryLink.waits c.turns.link) (g.L.TryLink.waits c.rest.new.link)
    rested c.rest.result (λ e. ComesTo number a d s u v x old e) c.rest.ensures.answer (comes_cut number a d s u v x old rested moved)
