use Rattle.std.proofs.Common.{◌≡◌}
use Rattle.std.specs.Prelude.{IsTrue}
use Rattle.std.specs.FinMap.{is_sorted, from_sorted, empty}
use Rattle.std.specs.Ordering.{nat_cmp}
use Rattle.std.specs.Cmp.Lexicographic.{slice_cmp}
use Rattle.kap_base.specs.Maps.{with_entries}
use Rattle.kap_base.proofs.key_map.last_of_each.Given as goal

-- what came so far is put
abbrev pub invariant-putting : goal.invariant-putting
invariant-putting g l = record {
  rising : IsTrue (is_sorted (slice_cmp nat_cmp) l.kept.items);
  same : from_sorted l.kept.items ≡ with_entries empty l.yielded;
}
