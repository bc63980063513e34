use Rattle.std.proofs.Common.{◌≡◌, ◌++◌, take}
use Rattle.join_node.specs.Results.{named_fields}
use Rattle.join_node.proofs.results.add_named.Given as goal

abbrev pub invariant-adding : goal.invariant-adding
invariant-adding l = l.to.items ≡ l.fn.to.items ++ named_fields l.delimiter l.prefix l.number (take l.field-index l.fields)
