use Rattle.std.proofs.Common.{◌≡◌, ◌+◌, ◌∙◌, ◌++◌, [], ◌∷◌, ap, arith, drop, length, subst, sym, take}
use Rattle.std.specs.Prelude.{IfSome}
use Rattle.std.proofs.lemmas.List.{take-append-drop}
use Rattle.flow_core.specs.Messages.{load_messages}
use Rattle.net_epochs.proofs.StandLaws.{lives_first}
use Rattle.task_run.specs.Courses.{from_first}
use Rattle.task_run.specs.Plans.{graph_of}
use Rattle.barrier_snapshot.specs.Barriers.{IsCaptureAt, cells_in}
use Rattle.barrier_snapshot.specs.Resuming.{AreLoadedWith}
use Rattle.flow_tests.specs.Captures.{Stopped, WentOn}
use Rattle.flow_tests.proofs.captures.goes_on.Goals as goal

pub stop_inside-requires-clause-marks : goal.stop_inside-requires-clause-marks
stop_inside-requires-clause-marks g c =
    let some = c.requires.some in
    let inside = c.requires.inside in
    let at = c.requires.mark in
    let end = c.requires.last in
    (omega (arith, some, at, end), omega (arith, inside, at, end), tt)

pub go_on_from-requires-clause-stamps : goal.go_on_from-requires-clause-stamps
go_on_from-requires-clause-stamps g c =
    let at = c.requires.mark in
    let end = c.requires.last in
    let long = c.split_at.ensures.back_len in
    omega (arith, at, end, long)

pub returns : goal.returns
returns g c =
    let node = g.N.Node in
    let points = c.args.points.now in
    let front = take c.args.cut points in
    let back = drop c.args.cut points in
    let mark = c.args.mark in
    let marks = mark ∷ [] in
    let last = c.args.last in
    let some = c.requires.some in
    let inside = c.requires.inside in
    let at = c.requires.mark in
    let end = c.requires.last in
    let first = c.args.plan ∷ [] in
    let again = c.args.again ∷ [] in
    let net = c.in-Some.net in
    let other = c.in-Some-2.other in
    let ran = c.in_ok-run.ensures in
    let s : Stopped node c.args.plan points last marks mark net c.in-Some.bytes = subst (λ both. IfSome both (λ stopped. Stopped node c.args.plan points last marks mark stopped.0 stopped.1)) c.in-Some.is c.in_ok-net.ensures in
    let w : WentOn node c.args.again mark c.as_slice.result.now (load_messages c.split_at.result.1.now last []) other = subst (λ gone. IfSome gone (WentOn node c.args.again mark c.as_slice.result.now (load_messages c.split_at.result.1.now last []))) c.in-Some-2.is c.in_ok-other.ensures in
    let whole : front ++ back ≡ points = take-append-drop c.args.cut points in
    let long : length (front ++ back) ≡ length points = ap (λ l. length l) whole in
    let behind : length back + c.args.cut ≡ length points = ap (λ l. length l + c.args.cut) (sym c.split_at.ensures.back) ∙ c.split_at.ensures.back_len in
    let msgs = load_messages (front ++ back) last marks in
    let stop : AreLoadedWith node msgs s.made net.lives = subst (λ l. AreLoadedWith node (load_messages l last marks) s.made net.lives) (sym whole) s.loaded in
    let rest : AreLoadedWith node msgs s.made c.run.new.self.lives = record {
      plans = ran.goes.plans ∙ stop.plans;
      specs = ran.goes.specs ∙ stop.specs;
      lives = ran.whole.kept;
    } in
    let go : AreLoadedWith node (load_messages back last []) w.restored.lives other.lives = subst (λ l. AreLoadedWith node (load_messages l last []) w.restored.lives other.lives) c.split_at.ensures.back w.ran.loaded in
    let capture = subst (λ bytes. IsCaptureAt node mark (cells_in net.lives) bytes) (sym c.as_slice.ensures) s.capture in
    let stands = c.lives_stand.ensures.made first s.made s.are (c.requires.first, tt) in
    let planned = c.lives_are_planned.ensures.loaded msgs again s.made net.lives (c.lives_are_planned.ensures.made first again s.made s.are (c.requires.same, tt)) stop in
    record {
      behind = c.nets_go_on.ensures.behind 0 front back mark last [] [] again mark c.as_slice.result.now s.made net.lives c.run.new.self.lives w.restored other.lives
          (omega (arith, long, end)) (omega (arith, behind, at, end)) (omega (arith, long, some, at, end), omega (arith, inside, at, end), tt)
          stands stop rest ran.rest capture planned w.restores go w.ran.rest;
      gathered = c.effects_are_gathered.ensures.moved [] net c.run.new.self s.gathered ran.goes.gathers;
      gathered_too = w.ran.gathered;
      did = c.epochs_go_on.ensures.did 0 points last marks (from_first [] (graph_of node.spec c.args.plan ∷ [])) s.made c.run.new.self.lives
          (omega (arith, end)) (omega (arith, some, at, end), omega (arith, inside, at, end), tt) (omega arith, tt) (lives_first node first s.made s.are (c.requires.first, tt))
          (ran.goes.plans ∙ s.loaded.plans) (ran.goes.specs ∙ s.loaded.specs) ran.whole.kept ran.rest;
      unspent = ran.unspent;
      unspent_too = w.ran.unspent;
    }
