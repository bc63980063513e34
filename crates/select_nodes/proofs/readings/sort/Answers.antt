use Rattle.std.proofs.Common.{rules}
use Rattle.std.proofs.lemmas.Fn.{always_returns_same}
use Rattle.select_nodes.specs.Ranks.{goes_before}
use Rattle.select_nodes.proofs.ReadingLaws.{ranks, sorted_by_rank}
use Rattle.select_nodes.proofs.readings.sort.Goals as goal

pub returns : goal.returns
returns c =
    let rank = c.args.rank in
    sorted_by_rank rank c.args.readings.items c.sort_by.new.self.items
    (c.in_ok-sort_by.ensures.sorted (goes_before rank) (ranks rank) (always_returns_same _ _ _ (λ a r f k. search rules)))
    (c.in_ok-sort_by.ensures.stable (goes_before rank) (ranks rank) (always_returns_same _ _ _ (λ a r f k. search rules)))
