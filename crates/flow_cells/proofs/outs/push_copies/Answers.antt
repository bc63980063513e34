use Rattle.std.proofs.Common.{◌≡◌, ◌∙◌, ◌<◌, ◌++◌, List, [], ◌∷◌, length, get_or, ap, arith}
use Rattle.kap_base.specs.declared.items.Msg.{Msg}
use Rattle.flow_cells.specs.Outs.{with_unsent}
use Rattle.kap_base.proofs.LoopLaws.{changed}
use Rattle.flow_cells.proofs.outs.push_copies.Goals as goal

pub pushing-preserved : goal.pushing-preserved
pushing-preserved c =
    let outs = c.pushing.outs in
    let i = c.pushing.out-index in
    let d = c.out-item.result in
    let lt : i < length c.args.outs.now = omega arith in
    let waits : c.push.new.self ≡ (get_or outs i d).unsent ++ c.args.msg.now ∷ [] =
    c.in_ok-push.ensures.ok ∙ ap (λ (m : Msg). (get_or outs i d).unsent ++ m ∷ []) c.in_ok-copy.ensures in
    changed (with_unsent (c.args.msg.now ∷ [])) c.args.outs.now outs i d (record (get_or outs i d) { unsent = c.push.new.self }) lt c.pushing.invariant
    (ap (λ (q : List Msg). record (get_or outs i d) { unsent = q }) waits)
