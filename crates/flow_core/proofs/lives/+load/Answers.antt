use Rattle.std.proofs.Common.{◌≡◌, List, ◌++◌, ap, ◌∙◌, append_assoc}
use Rattle.std.proofs.lemmas.Result.{on_ok_weaker}
use Rattle.kap_base.specs.declared.items.Effect.{Effect}
use Rattle.flow_core.specs.LifeLoads.{effects_since}
use Rattle.flow_core.specs.Done.{effects_in, together}
use Rattle.flow_core.proofs.lives.+load.Goals as goal

pub returns-clause-given : goal.returns-clause-given
returns-clause-given g t c =
    let first = together (effects_since c.load_life-2.new.life.life.cells) in
    let others = effects_in c.load.new.lives in
    let more : c.load_life-2.new.gathered ++ others ≡ (c.args.gathered.now ++ first) ++ others = ap (λ (es : List Effect). es ++ others) c.in_ok-load_life.ensures.given in
    on_ok_weaker c.load.result (λ given. given ∙ more ∙ append_assoc c.args.gathered.now first others) c.load.ensures.given
