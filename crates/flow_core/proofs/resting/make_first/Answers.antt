use Rattle.std.proofs.Common.{refl}
use Rattle.flow_core.proofs.RunningLaws.{goes_then, off_more, same_then}
use Rattle.flow_core.proofs.resting.make_first.Goals as goal

pub returns-then-branch-clause-goes : goal.returns-then-branch-clause-goes
returns-then-branch-clause-goes g c = goes_then g.N.Node _ _ _ _ _ _ c.trying.invariant.goes c.in_ok-try_step.ensures.goes

pub trying-preserved : goal.trying-preserved
trying-preserved g c =
    let e = c.in_ok-try_step.ensures in
    let same = same_then _ _ _ c.trying.invariant.same (e.same c.if-branch.false) in
    record {
      sound = e.sound;
      goes = goes_then g.N.Node _ _ _ _ _ _ c.trying.invariant.goes e.goes;
      same = same;
      off = off_more _ _ c.args.steps.now c.trying.next-index _ _ c.trying-test.true refl same (e.off c.if-branch.false) c.trying.invariant.off;
    }
