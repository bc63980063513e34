use Rattle.flow_core.specs.Nets.{numbers_of}
use Rattle.net_epochs.proofs.CarryLaws.{lives_dropped}
use Rattle.net_epochs.proofs.StandLaws.{courses_rise, net_begun, net_ended, net_made, net_ran, one_place}
use Rattle.net_epochs.proofs.laws.nets_stand.Goals as goal

pub returns-clause-made : goal.returns-clause-made
returns-clause-made g c = net_made g.N.Node

pub returns-clause-begun : goal.returns-clause-begun
returns-clause-begun g c = net_begun g.N.Node

pub returns-clause-ended : goal.returns-clause-ended
returns-clause-ended g c = net_ended g.N.Node

pub returns-clause-ran : goal.returns-clause-ran
returns-clause-ran g c = net_ran g.N.Node

pub returns-clause-rise : goal.returns-clause-rise
returns-clause-rise g c = λ n courses net s. courses_rise g.N.Node 0 (numbers_of net.lives) courses s.rise s.numbered

pub returns-clause-one : goal.returns-clause-one
returns-clause-one g c = λ n courses net s i j number. one_place 0 (numbers_of net.lives) i j number s.rise

pub returns-clause-dropped : goal.returns-clause-dropped
returns-clause-dropped g c = lives_dropped g.N.Node g.met.N.Node.stamped g.met.N.Node.folds g.met.N.Node.counts
