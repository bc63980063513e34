use Rattle.std.proofs.Common.{List, ◌++◌, IsPermutation, subst, sym, ◌∙◌}
use Rattle.kap_base.specs.declared.items.Effect.{Effect}
use Rattle.flow_core.proofs.GatheredLaws.{gathered_collected}
use Rattle.flow_core.specs.Done.{effects_in}
use Rattle.flow_core.proofs.net.Net.collect.Goals as goal

pub returns-clause-gathers : goal.returns-clause-gathers
returns-clause-gathers g c = λ collected h.
    gathered_collected collected c.sort_effects.result _ _ _ (subst (λ v. IsPermutation (effects_in v.lives) (collected ++ v.gathered)) (sym c.self.view_is) h)
    (subst (λ (es : List Effect). IsPermutation es c.sort_effects.result) c.replace-all.ensures.value c.sort_effects.ensures.same)
    (c.replace-all.ensures.after ∙ c.new.ensures)
