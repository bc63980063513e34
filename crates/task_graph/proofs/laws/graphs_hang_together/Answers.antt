use Rattle.task_graph.proofs.GraphLaws.{begins_with_stream, hangs_together}
use Rattle.task_graph.proofs.laws.graphs_hang_together.Goals as goal

pub returns-clause-stream : goal.returns-clause-stream
returns-clause-stream c = λ nodes graph. begins_with_stream nodes graph

pub returns-clause-others : goal.returns-clause-others
returns-clause-others c = λ nodes number node graph later there. hangs_together nodes number node graph later there
