use Rattle.std.proofs.Common.{◌≡◌, ◌++◌}
use Rattle.flow_life.specs.Listing.{puts_to}
use Rattle.flow_life.proofs.listing.list_puts.Given as goal

-- those so far stand behind what was there
abbrev pub invariant-listing : goal.invariant-listing
invariant-listing l = l.to.items ≡ l.fn.to.items ++ puts_to l.cell l.out
