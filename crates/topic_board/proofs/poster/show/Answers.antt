use Rattle.std.proofs.Common.{sym, ap, ◌∙◌, List}
use Rattle.left_right.specs.Handles.{published, pending}
use Rattle.topic_core.specs.declared.transition.Transition.{Transition}
use Rattle.topic_board.specs.Ops.{last_of}
use Rattle.topic_board.proofs.LastOp.{fold_last, on_ok}
use Rattle.topic_board.proofs.poster.show.Goals as goal

pub returns : goal.returns
returns g c =
    let was = published c.args.handle.now in
    let ops = pending c.args.handle.now in
    on_ok c.publish.result _ _ _ _ c.publish.ensures.values
    (λ a. sym (g.met.T.Shown.state_is (published c.publish.new.self)) ∙ a ∙ fold_last g.T.Shown.posted g.T.Absorb.applied g.met.T.Shown.applied_is (g.T.Absorb.state was) ops ∙ ap (λ (z : List Transition). last_of g.T.Shown.posted z ops) (g.met.T.Shown.state_is was))
