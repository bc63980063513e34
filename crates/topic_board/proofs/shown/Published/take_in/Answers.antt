use Rattle.std.proofs.Common.{◌≡◌, ◌+◌, length, sym, ap, ◌∙◌, arith}
use Rattle.topic_core.specs.Topics.{topics_after, with_transition}
use Rattle.topic_board.proofs.OneMore.{one_more}
use Rattle.topic_board.proofs.shown.Published.take_in.Goals as goal

pub invariant_of-self : goal.invariant_of-self
invariant_of-self g c =
    let n : length c.self.inside.front + 1 ≡ length c.posted.inside.front = omega (arith, c.len-count.ensures, c.len.ensures, c.if-count-eq0.false, c.if-count-len.false) in
    c.in-Ok.ensures.ok ∙ ap (λ k. with_transition k c.posted.inside.transition) c.self.invariant ∙ sym (one_more c.self.inside.front c.posted.inside.front c.posted.inside.transition c.if-not-begins.ensures c.posted.invariant n) ∙ ap topics_after (sym c.again.ensures)
