use Rattle.kap_server.proofs.ExportLaws.{alerts_replayed, pairs_of_store}
use Rattle.kap_server.proofs.laws.alerts_are_those_of_a_replay.Goals as goal

pub returns-clause-told : goal.returns-clause-told
returns-clause-told g c = λ say names points lives tasks alone. alerts_replayed g.N.Node.answer g.N.ScriptNode.planned say names points lives tasks alone

pub returns-clause-pairs : goal.returns-clause-pairs
returns-clause-pairs g c = λ rs tasks follow are. pairs_of_store (c.held_laws.ensures rs follow) tasks are
