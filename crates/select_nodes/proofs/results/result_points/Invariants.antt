use Rattle.std.proofs.Common.{◌≡◌, map}
use Rattle.kap_base.specs.declared.items.Body.TheVariants.{Point as a_point}
use Rattle.select_nodes.specs.Results.{result_of}
use Rattle.select_nodes.proofs.results.result_points.Given as goal

abbrev pub invariant-giving : goal.invariant-giving
invariant-giving l = l.bodies.items ≡ map (λ pick. a_point (result_of l.fn.name l.fn.group l.fn.field pick)) l.yielded
