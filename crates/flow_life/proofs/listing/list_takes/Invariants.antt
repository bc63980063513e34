use Rattle.std.proofs.Common.{◌≡◌, ◌++◌}
use Rattle.flow_life.specs.Listing.{takes_to}
use Rattle.flow_life.proofs.listing.list_takes.Given as goal

-- those so far stand behind what was there
abbrev pub invariant-listing : goal.invariant-listing
invariant-listing l = l.to.items ≡ l.fn.to.items ++ takes_to l.cell l.input
