use Rattle.std.proofs.Common.{List, sym, ap, ◌∙◌}
use Rattle.topic_core.specs.declared.transition.Transition.{Transition}
use Rattle.topic_core.specs.Topics.{topics_after}
use Rattle.topic_core.proofs.KeptLaws.{none_kept}
use Rattle.topic_board.proofs.shown.Published.new.Goals as goal

pub invariant_of-result : goal.invariant_of-result
invariant_of-result g c = none_kept c.new.result c.new.ensures ∙ ap (λ (l : List Transition). topics_after l) (sym c.requires)
