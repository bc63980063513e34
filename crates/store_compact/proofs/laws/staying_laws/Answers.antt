use Rattle.store_compact.proofs.Total.{same_held, same_last, same_snap, staying_follow}
use Rattle.store_compact.proofs.laws.staying_laws.Goals as goal

pub returns-clause-follow : goal.returns-clause-follow
returns-clause-follow c = λ rs follow. staying_follow rs follow

pub returns-clause-same : goal.returns-clause-same
returns-clause-same c = λ rs follow. same_held rs follow

pub returns-clause-last : goal.returns-clause-last
returns-clause-last c = λ rs follow. same_last rs

pub returns-clause-snap : goal.returns-clause-snap
returns-clause-snap c = λ rs before behind points trans states follow split none. same_snap rs before behind points trans states follow split none
