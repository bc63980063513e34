use Rattle.join_node.proofs.LatestLaws.{latest_is_greatest}
use Rattle.join_node.proofs.laws.sets_wait_at_the_greatest_time.Goals as goal

pub returns : goal.returns
returns c = latest_is_greatest
