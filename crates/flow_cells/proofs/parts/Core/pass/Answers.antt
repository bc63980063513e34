use Rattle.std.proofs.Common.{[], ◌∷◌, refl}
use Rattle.kap_base.specs.declared.items.Msg.TheVariants as messages
use Rattle.flow_cells.proofs.OutLaws.{given_by, waits_by}
use Rattle.flow_cells.proofs.parts.Core.pass.Goals as goal

pub returns-clause-outs : goal.returns-clause-outs
returns-clause-outs g c = waits_by (messages.Barrier c.args.stamp ∷ []) c.args.self.now.outs.items c.push_each.new.outs.items c.in_ok-push_each.ensures

pub returns-clause-reacts : goal.returns-clause-reacts
returns-clause-reacts g c = λ parent r at.
    let core = c.args.self.now in
    record {
      spec = refl;
      state = at.state;
      outs = given_by r.outs (messages.Barrier c.args.stamp ∷ []) core.outs.items c.push_each.new.outs.items c.in_ok-push_each.ensures at.outs;
      effects = at.effects;
      passed = refl;
      clean = refl;
      still = λ _. refl;
      saved = λ _ is. absurd cc;
    }
