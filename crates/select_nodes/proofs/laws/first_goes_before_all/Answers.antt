use Rattle.select_nodes.specs.Ranks.{goes_before}
use Rattle.select_nodes.proofs.RankLaws.{first_of_ranked}
use Rattle.select_nodes.proofs.ReadingLaws.{ranks}
use Rattle.select_nodes.proofs.laws.first_goes_before_all.Goals as goal

pub returns : goal.returns
returns c = λ rank rs r e. first_of_ranked (goes_before rank) (ranks rank) rs r e
