use Rattle.std.proofs.Common.{◌≡◌, [], refl, sym, subst, ap, ◌∙◌, arith}
use Rattle.http_dialog.specs.declared.ending.LinkEnd.{LinkEnd}
use Rattle.http_dialog.specs.Links.{Connected}
use Rattle.http_dialog.specs.Dialogs.{DialogValue}
use Rattle.http_dialog.proofs.NumberLaws.{only_none, only_more}
use Rattle.http_dialog.proofs.DriveLaws.{starts, stepped, ends_so, read_fault, write_fault, no_memory}
use Rattle.link_serve.proofs.serving.serve_link.Goals as goal

pub turns-init : goal.turns-init
turns-init g c = record {
  reads = omega arith;
  writes = omega arith;
  only = only_none 0 (g.H.Serve.served c.args.serve.now);
  goes = starts 0 (g.L.Link.left c.args.link.now) (g.H.Serve.served c.args.serve.now) (g.L.Link.written c.args.link.now) c.new-dialog.result (c.new-dialog.ensures.goes 0);
}

pub turns-preserved-in-Served : goal.turns-preserved-in-Served
turns-preserved-in-Served g c =
    let i = c.turns.invariant in
    let l = g.L.Link.left c.args.link.now in
    let m = g.L.Link.left c.turns.link in
    let v = g.L.Link.written c.args.link.now in
    let w = g.L.Link.written c.turns.link in
    let s = g.H.Serve.served c.args.serve.now in
    let t = g.H.Serve.served c.turns.serve in
    let u = g.H.Serve.served c.advance.new.serve in
    let step = c.advance.ensures.steps in
    record {
      reads = i.reads;
      writes = i.writes;
      only = only_more 0 s t u step.calls i.only step.told step.numbers;
      goes = stepped 0 l m s t u v w c.turns.dialog c.advance.new.self i.goes step;
    }

pub turns-preserved-in-Ok : goal.turns-preserved-in-Ok
turns-preserved-in-Ok g c =
    let i = c.turns.invariant in
    let l = g.L.Link.left c.args.link.now in
    let m = g.L.Link.left c.turns.link in
    let v = g.L.Link.written c.args.link.now in
    let w = g.L.Link.written c.turns.link in
    let s = g.H.Serve.served c.args.serve.now in
    let t = g.H.Serve.served c.turns.serve in
    let u = g.H.Serve.served c.advance.new.serve in
    let step = c.advance.ensures.steps in
    let on = stepped 0 l m s t u v w c.turns.dialog c.advance.new.self i.goes step in
    record {
      reads = let before = i.reads in let later = c.flush.ensures.other in omega arith;
      writes = let before = i.writes in let later = c.flush.ensures.cause.later in omega arith;
      only = only_more 0 s t u step.calls i.only step.told step.numbers;
      goes = c.flush.ensures.goes 0 l v s u on;
    }

pub returns-in-Err-clause-connected : goal.returns-in-Err-clause-connected
returns-in-Err-clause-connected g c =
    let l = g.L.Link.left c.args.link.now in
    let m = g.L.Link.left c.turns.link in
    let v = g.L.Link.written c.args.link.now in
    let w = g.L.Link.written c.turns.link in
    let s = g.H.Serve.served c.args.serve.now in
    let t = g.H.Serve.served c.turns.serve in
    let u = g.H.Serve.served c.advance.new.serve in
    let on = stepped 0 l m s t u v w c.turns.dialog c.advance.new.self c.turns.invariant.goes c.advance.ensures.steps in
    write_fault 0 l (g.L.Link.left c.flush.new.link) s u v (g.L.Link.written c.flush.new.link) c.flush.new.dialog (c.flush.ensures.goes 0 l v s u on)

pub turns-preserved : goal.turns-preserved
turns-preserved g c =
    let i = c.turns.invariant in
    let l = g.L.Link.left c.args.link.now in
    let m = g.L.Link.left c.turns.link in
    let v = g.L.Link.written c.args.link.now in
    let w = g.L.Link.written c.turns.link in
    let s = g.H.Serve.served c.args.serve.now in
    let t = g.H.Serve.served c.turns.serve in
    let u = g.H.Serve.served c.advance.new.serve in
    let step = c.advance.ensures.steps in
    let on = stepped 0 l m s t u v w c.turns.dialog c.advance.new.self i.goes step in
    record {
      reads = let before = i.reads in let later = c.fill.ensures.reads in omega arith;
      writes = let before = i.writes in let later = c.fill.ensures.writes in omega arith;
      only = only_more 0 s t u step.calls i.only step.told step.numbers;
      goes = c.in-Ok-fill.ensures.goes 0 l v s u on;
    }

pub returns-in-Err-Failed-clause-connected : goal.returns-in-Err-Failed-clause-connected
returns-in-Err-Failed-clause-connected g c =
    let l = g.L.Link.left c.args.link.now in
    let m = g.L.Link.left c.turns.link in
    let v = g.L.Link.written c.args.link.now in
    let w = g.L.Link.written c.turns.link in
    let s = g.H.Serve.served c.args.serve.now in
    let t = g.H.Serve.served c.turns.serve in
    let u = g.H.Serve.served c.advance.new.serve in
    let on = stepped 0 l m s t u v w c.turns.dialog c.advance.new.self c.turns.invariant.goes c.advance.ensures.steps in
    let said = c.in-Read.ensures.read refl in
    let quiet : c.advance.new.self.due ≡ [] = ap (λ (x : DialogValue). x.due) said.0 ∙ said.2 in
    let lost = c.in-Err-Failed.ensures.lost 0 l v s u on in
    read_fault 0 l (g.L.Link.left c.fill.new.link) s u v (g.L.Link.written c.fill.new.link) lost.0 lost.3 lost.1 (lost.2 ∙ quiet)

pub returns-in-Err-NoMemory-clause-connected : goal.returns-in-Err-NoMemory-clause-connected
returns-in-Err-NoMemory-clause-connected g c =
    let l = g.L.Link.left c.args.link.now in
    let m = g.L.Link.left c.turns.link in
    let v = g.L.Link.written c.args.link.now in
    let w = g.L.Link.written c.turns.link in
    let s = g.H.Serve.served c.args.serve.now in
    let t = g.H.Serve.served c.turns.serve in
    let u = g.H.Serve.served c.advance.new.serve in
    let on = stepped 0 l m s t u v w c.turns.dialog c.advance.new.self c.turns.invariant.goes c.advance.ensures.steps in
    let said = c.in-Read.ensures.read refl in
    let quiet : c.advance.new.self.due ≡ [] = ap (λ (x : DialogValue). x.due) said.0 ∙ said.2 in
    let lost = c.in-Err-NoMemory.ensures.lost 0 l v s u on in
    no_memory 0 l (g.L.Link.left c.fill.new.link) s u v (g.L.Link.written c.fill.new.link) lost.0 lost.3 lost.1 (lost.2 ∙ quiet)

pub returns-in-End-clause-connected : goal.returns-in-End-clause-connected
returns-in-End-clause-connected g c =
    let l = g.L.Link.left c.args.link.now in
    let m = g.L.Link.left c.turns.link in
    let v = g.L.Link.written c.args.link.now in
    let w = g.L.Link.written c.turns.link in
    let s = g.H.Serve.served c.args.serve.now in
    let t = g.H.Serve.served c.turns.serve in
    let u = g.H.Serve.served c.advance.new.serve in
    let on = stepped 0 l m s t u v w c.turns.dialog c.advance.new.self c.turns.invariant.goes c.advance.ensures.steps in
    let said = c.in-End.ensures.ended c.in-End.ending refl in
    let ended = ends_so 0 l m s u v w c.advance.new.self c.in-End.ending on
    (ap (λ (x : DialogValue). x.ending) said.0 ∙ said.1) (ap (λ (x : DialogValue). x.due) said.0 ∙ said.2) in
    subst (λ (end_is : LinkEnd). Connected 0 l m s u v w end_is) (sym c.of_link.ensures) ended

pub returns-in-Memory-clause-connected : goal.returns-in-Memory-clause-connected
returns-in-Memory-clause-connected g c =
    let l = g.L.Link.left c.args.link.now in
    let m = g.L.Link.left c.turns.link in
    let v = g.L.Link.written c.args.link.now in
    let w = g.L.Link.written c.turns.link in
    let s = g.H.Serve.served c.args.serve.now in
    let t = g.H.Serve.served c.turns.serve in
    let u = g.H.Serve.served c.advance.new.serve in
    let on = stepped 0 l m s t u v w c.turns.dialog c.advance.new.self c.turns.invariant.goes c.advance.ensures.steps in
    let said = c.in-Memory.ensures.memory refl in
    no_memory 0 l m s u v w c.advance.new.self on
    (ap (λ (x : DialogValue). x.ending) said.0 ∙ said.1) (ap (λ (x : DialogValue). x.due) said.0 ∙ said.2)

pub returns-in-Err-clause-only : goal.returns-in-Err-clause-only
returns-in-Err-clause-only g c =
    let step = c.advance.ensures.steps in
    only_more 0 (g.H.Serve.served c.args.serve.now) (g.H.Serve.served c.turns.serve) (g.H.Serve.served c.advance.new.serve)
    step.calls c.turns.invariant.only step.told step.numbers

pub returns-in-Err-Failed-clause-only : goal.returns-in-Err-Failed-clause-only
returns-in-Err-Failed-clause-only g c =
    let step = c.advance.ensures.steps in
    only_more 0 (g.H.Serve.served c.args.serve.now) (g.H.Serve.served c.turns.serve) (g.H.Serve.served c.advance.new.serve)
    step.calls c.turns.invariant.only step.told step.numbers

pub returns-in-Err-NoMemory-clause-only : goal.returns-in-Err-NoMemory-clause-only
returns-in-Err-NoMemory-clause-only g c =
    let step = c.advance.ensures.steps in
    only_more 0 (g.H.Serve.served c.args.serve.now) (g.H.Serve.served c.turns.serve) (g.H.Serve.served c.advance.new.serve)
    step.calls c.turns.invariant.only step.told step.numbers

pub returns-in-End-clause-only : goal.returns-in-End-clause-only
returns-in-End-clause-only g c =
    let step = c.advance.ensures.steps in
    only_more 0 (g.H.Serve.served c.args.serve.now) (g.H.Serve.served c.turns.serve) (g.H.Serve.served c.advance.new.serve)
    step.calls c.turns.invariant.only step.told step.numbers

pub returns-in-Memory-clause-only : goal.returns-in-Memory-clause-only
returns-in-Memory-clause-only g c =
    let step = c.advance.ensures.steps in
    only_more 0 (g.H.Serve.served c.args.serve.now) (g.H.Serve.served c.turns.serve) (g.H.Serve.served c.advance.new.serve)
    step.calls c.turns.invariant.only step.told step.numbers
