use Rattle.std.proofs.Common.{◌≡◌, ◌+◌, ◌++◌, length}
use Rattle.store_records.specs.Held.{open_from}
use Rattle.store_kept.proofs.lives.open_lives.Given as goal

-- those behind are still to be numbered
abbrev pub invariant-passing : goal.invariant-passing
invariant-passing l = l.numbers ++ open_from (l.number + 1) l.rest ≡ open_from 1 l.lives

abbrev pub decreases-passing : goal.decreases-passing
decreases-passing l = length l.rest
