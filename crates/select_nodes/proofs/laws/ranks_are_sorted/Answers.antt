use Rattle.select_nodes.specs.Ranks.{goes_before}
use Rattle.select_nodes.proofs.ReadingLaws.{ranks, sorted_by_rank}
use Rattle.select_nodes.proofs.SortLaws.{ranked_is_sorted, stable_ranked}
use Rattle.select_nodes.proofs.laws.ranks_are_sorted.Goals as goal

pub returns-clause-sorted : goal.returns-clause-sorted
returns-clause-sorted c = λ rank rs. ranked_is_sorted (goes_before rank) (ranks rank) rs

pub returns-clause-stable : goal.returns-clause-stable
returns-clause-stable c = λ rank rs. stable_ranked (goes_before rank) (ranks rank) rs

pub returns-clause-only : goal.returns-clause-only
returns-clause-only c = sorted_by_rank
