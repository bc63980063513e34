use Rattle.std.proofs.Common.{ap, refl, subst, sym, ◌∙◌}
use Rattle.flow_core.proofs.DoneLaws.{gathers_none}
use Rattle.flow_core.specs.Done.{GathersAll, effects_in}
use Rattle.flow_core.proofs.NetLaws.{net_goes}
use Rattle.flow_core.proofs.net.Net.take_cells.Goals as goal

pub returns-clause-goes : goal.returns-clause-goes
returns-clause-goes g c =
    let old = c.args.self.now in
    let done = effects_in old.lives in
    net_goes g.N.Node old _ old.lives old.lives old.gathered refl refl (ap (λ v. v.items) c.replace-lives.ensures.value ∙ ap (λ v. v.lives) c.self.view_is) (ap (λ v. v.last) c.self.view_is) refl refl refl refl refl
    (subst (λ es. GathersAll done done old.gathered es) (sym (ap (λ v. v.gathered) c.self.view_is)) (gathers_none done old.gathered))
