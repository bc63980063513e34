use Rattle.std.proofs.Common.{refl}
use Rattle.kap_base.specs.Times.{trunc}
use Rattle.window_node.specs.Edges.{next_edge}
use Rattle.window_node.proofs.laws.examples_of_windows.Goals as goal

pub returns-clause-on_the_edge : goal.returns-clause-on_the_edge
unfolding trunc next_edge
returns-clause-on_the_edge c = refl

pub returns-clause-filled_edges : goal.returns-clause-filled_edges
unfolding trunc next_edge
returns-clause-filled_edges c = refl

pub returns-clause-empty_batch : goal.returns-clause-empty_batch
unfolding trunc next_edge
returns-clause-empty_batch c = refl

pub returns-clause-falling_times : goal.returns-clause-falling_times
unfolding trunc next_edge
returns-clause-falling_times c = refl

pub returns-clause-late_point : goal.returns-clause-late_point
returns-clause-late_point c = refl

pub returns-clause-filled_period : goal.returns-clause-filled_period
returns-clause-filled_period c = refl

pub returns-clause-each_third : goal.returns-clause-each_third
returns-clause-each_third c = refl

pub returns-clause-each_second : goal.returns-clause-each_second
returns-clause-each_second c = refl

pub returns-clause-filled_count : goal.returns-clause-filled_count
returns-clause-filled_count c = refl
