use Rattle.std.proofs.Common.{◌≡◌, map, reverse, vec_len}
use Rattle.flow_cells.specs.Outs.{item_msgs, with_unsent}
use Rattle.flow_cells.proofs.outs.push_items.Given as goal

-- with the items that are left all will wait
abbrev pub invariant-pushing : goal.invariant-pushing
invariant-pushing l = map (with_unsent (item_msgs (reverse l.rest.items))) l.outs.items ≡ map (with_unsent (item_msgs l.fn.items)) l.fn.outs.items

abbrev pub decreases-pushing : goal.decreases-pushing
decreases-pushing l = vec_len l.rest
