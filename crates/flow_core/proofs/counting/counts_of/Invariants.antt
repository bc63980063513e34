use Rattle.std.proofs.Common.{◌≡◌, take}
use Rattle.flow_core.specs.Drops.{drops_in}
use Rattle.flow_core.proofs.counting.counts_of.Given as goal

-- the counts of the lives so far
abbrev pub invariant-counting : goal.invariant-counting
invariant-counting g l = l.counts ≡ drops_in g.N.Node (take l.numbered-index l.lives)
