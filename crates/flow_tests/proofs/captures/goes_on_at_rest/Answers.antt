use Rattle.std.proofs.Common.{◌≡◌, ◌∙◌, [], ◌∷◌, ap, arith, subst, sym}
use Rattle.std.specs.Prelude.{IfSome}
use Rattle.std.specs.List.{AllByRecursion as Each}
use Rattle.kap_base.specs.declared.items.Stamp.{Stamp}
use Rattle.flow_core.specs.Messages.{load_messages}
use Rattle.flow_core.specs.Nets.{IsResting}
use Rattle.barrier_snapshot.specs.Barriers.{IsCaptureAt, cells_in}
use Rattle.barrier_snapshot.specs.Resuming.{AreLoadedWith}
use Rattle.flow_tests.specs.Captures.{Stopped, WentOn}
use Rattle.flow_tests.proofs.captures.goes_on_at_rest.Goals as goal

pub run_load-requires-clause-unspent : goal.run_load-requires-clause-unspent
run_load-requires-clause-unspent g c =
    let s = subst (λ both. IfSome both (λ stopped. Stopped g.N.Node c.args.plan c.args.points.now c.args.last [] c.args.last stopped.0 stopped.1)) c.in-Some.is c.in_ok-net.ensures.stopped in
    c.collect-before.ensures.spent ∙ s.unspent

pub run_load-requires-clause-rest : goal.run_load-requires-clause-rest
run_load-requires-clause-rest g c =
    let rest = subst (λ both. IfSome both (λ stopped. Each IsResting stopped.0.lives)) c.in-Some.is c.in_ok-net.ensures.rest in
    subst (Each IsResting) (sym c.collect-before.ensures.lives) rest

pub run_load-requires-clause-stamps : goal.run_load-requires-clause-stamps
run_load-requires-clause-stamps g c =
    let last = subst (λ both. IfSome both (λ stopped. stopped.0.last ≡ c.args.last)) c.in-Some.is c.in_ok-net.ensures.last in
    let there = ap (λ (t : Stamp). t.0) (c.collect-before.ensures.last ∙ last) in
    let end = c.requires.end in
    omega (arith, there, end)

pub returns : goal.returns
returns g c =
    let node = g.N.Node in
    let points = c.args.points.now in
    let last = c.args.last in
    let some = c.requires.some in
    let at = c.requires.last in
    let first = c.args.plan ∷ [] in
    let again = c.args.again ∷ [] in
    let net = c.in-Some.net in
    let other = c.in-Some-2.other in
    let more = load_messages c.args.more.now c.args.end [] in
    let s : Stopped node c.args.plan points last [] last net c.in-Some.bytes = subst (λ both. IfSome both (λ stopped. Stopped node c.args.plan points last [] last stopped.0 stopped.1)) c.in-Some.is c.in_ok-net.ensures.stopped in
    let rested = subst (λ both. IfSome both (λ stopped. Each IsResting stopped.0.lives)) c.in-Some.is c.in_ok-net.ensures.rest in
    let r = c.in_ok-run_load.ensures in
    let w : WentOn node c.args.again last c.as_slice.result.now more other = subst (λ gone. IfSome gone (WentOn node c.args.again last c.as_slice.result.now more)) c.in-Some-2.is c.in_ok-other.ensures in
    let rest : AreLoadedWith node more net.lives c.run_load.new.net.lives = subst (λ ls. AreLoadedWith node more ls c.run_load.new.net.lives) c.collect-before.ensures.lives r.loaded in
    let capture = subst (λ bytes. IsCaptureAt node last (cells_in net.lives) bytes) (sym c.as_slice.ensures) s.capture in
    let stands = c.lives_stand.ensures.made first s.made s.are (c.requires.first, tt) in
    let planned = c.lives_are_planned.ensures.loaded (load_messages points last []) again s.made net.lives (c.lives_are_planned.ensures.made first again s.made s.are (c.requires.again, tt)) s.loaded in
    let alike = c.nets_go_on.ensures.rest last again last c.as_slice.result.now net.lives w.restored capture planned w.restores 0 points [] s.made
    (omega (arith, some, at)) (omega (arith, at)) tt stands s.loaded rested in
    record {
      same = c.nets_go_on.ensures.same more net.lives w.restored.lives c.run_load.new.net.lives other.lives alike rest w.ran.loaded r.rest w.ran.rest;
      gathered = r.gathered;
      gathered_too = w.ran.gathered;
      unspent = r.unspent;
      unspent_too = w.ran.unspent;
    }
