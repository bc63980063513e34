use Rattle.flow_core.specs.Done.{effects_in}
use Rattle.net_epochs.proofs.CarryLaws.{lives_carried}
use Rattle.net_epochs.proofs.NetLaws.{net_went}
use Rattle.net_epochs.proofs.RiseLaws.{later_rise, later_sorted}
use Rattle.net_epochs.proofs.laws.epochs_go_on.Goals as goal

pub returns-clause-stands : goal.returns-clause-stands
returns-clause-stands g c = λ n new upto marks courses before after last are ends z plans specs kept rest. (net_went g.N.Node g.met.N.Node.stamped g.met.N.Node.folds n new upto marks courses before after last are ends z plans specs kept rest).stands

pub returns-clause-did : goal.returns-clause-did
returns-clause-did g c = λ n new upto marks courses before after last are ends z plans specs kept rest. (net_went g.N.Node g.met.N.Node.stamped g.met.N.Node.folds n new upto marks courses before after last are ends z plans specs kept rest).did

pub returns-clause-collected : goal.returns-clause-collected
returns-clause-collected g c = λ n k low courses after collected numbers are. later_sorted g.N.Node.answer g.N.Node.life g.N.Node.number g.met.N.Node.stamped numbers n k low courses (effects_in after) collected are

pub returns-clause-rises : goal.returns-clause-rises
returns-clause-rises g c = λ n k low courses numbers are. later_rise g.N.Node.answer g.N.Node.life g.N.Node.number g.met.N.Node.stamped numbers n k low courses are

pub returns-clause-carried : goal.returns-clause-carried
returns-clause-carried g c = lives_carried g.N.Node g.met.N.Node.stamped g.met.N.Node.folds
