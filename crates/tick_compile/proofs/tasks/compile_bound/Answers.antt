use Rattle.tick_vars.specs.Nodes.{bound_tree}
use Rattle.tick_compile.proofs.TaskLaws.{settled_shape}
use Rattle.tick_compile.proofs.tasks.compile_bound.Goals as goal

pub compile_nodes-requires : goal.compile_nodes-requires
compile_nodes-requires g c = λ specs is. settled_shape (bound_tree c.args.bound) c.requires specs (rw (c.as_slice.ensures, c.as_slice-2.ensures) at is)
