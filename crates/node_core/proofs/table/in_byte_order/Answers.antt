use Rattle.std.proofs.Common.{Ok, rules}
use Rattle.std.specs.Prelude.{⊤}
use Rattle.std.specs.Map.Iter.{deref_pair}
use Rattle.std.proofs.lemmas.Cmp.{nat_list_cmp_total}
use Rattle.std.proofs.lemmas.Fn.{always_returns_same}
use Rattle.std.proofs.lemmas.Iterator.Consumers.{YieldsList-from_rest, map_from_collect}
use Rattle.std.proofs.lemmas.List.Sorted.{ranks_by}
use Rattle.node_core.proofs.TableLaws.{in_order}
use Rattle.node_core.proofs.table.in_byte_order.Goals as goal

pub returns : goal.returns
returns g c =
    let es = c.args.cells.now.entries in
    let all = map_from_collect {E = ⊤} (Ok c.in_ok-order.order) c.in_ok-order.ensures.ran (YieldsList-from_rest es c.iter.ensures.rest) in
    let sorted = c.sort_unstable_by.ensures.sorted _ (ranks_by nat_list_cmp_total (λ p. (deref_pair p).0)) (always_returns_same _ _ _ (λ a r f k. search rules)) in
    in_order deref_pair es c.in_ok-order.order.items c.sort_unstable_by.new.self.items c.iter.ensures.unique all c.sort_unstable_by.ensures.permutation sorted
