use Rattle.kap_base.proofs.ResultLaws.{on_ok}
use Rattle.flow_core.proofs.LivesLaws.{if_ok_both}
use Rattle.flow_core.proofs.RunningLaws.{goes_then, off_both}
use Rattle.flow_core.proofs.resting.make_next.Goals as goal

pub returns-clause-goes : goal.returns-clause-goes
returns-clause-goes g c = on_ok c.make_first-2.result (λ later. goes_then g.N.Node _ _ _ _ _ _ c.in_ok-make_first.ensures.goes later) c.make_first-2.ensures.goes

pub returns-clause-none : goal.returns-clause-none
returns-clause-none g c = if_ok_both c.make_first-2.result (λ made same none no. off_both _ _ _ _ _ c.split_at.ensures.by_index.0 (same no) (c.in_ok-make_first.ensures.none c.if-branch.false) (none no)) c.make_first-2.ensures.same c.make_first-2.ensures.none
