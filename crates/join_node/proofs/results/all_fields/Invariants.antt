use Rattle.std.proofs.Common.{◌≡◌, ◌++◌, IsTrue, length}
use Rattle.std.specs.FinMap.{entries}
use Rattle.join_node.specs.Results.{are_entries, set_fields}
use Rattle.join_node.proofs.results.all_fields.Given as goal

-- what the other parents give is still to come
abbrev pub invariant-adding : goal.invariant-adding
invariant-adding l = record {
  all : l.all.items ++ set_fields l.join (entries l.first.fields) l.prefixes l.places ≡ set_fields l.join (entries l.first.fields) l.join.prefixes l.set;
  fits : IsTrue (are_entries l.all.items);
}

abbrev pub decreases-adding : goal.decreases-adding
decreases-adding l = length l.prefixes
