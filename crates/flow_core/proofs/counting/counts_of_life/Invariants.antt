use Rattle.std.proofs.Common.{◌≡◌, ◌-◌, ◌≤◌, length, take}
use Rattle.flow_core.specs.Drops.{drops_of}
use Rattle.flow_core.proofs.counting.counts_of_life.Given as goal

-- the counts of the cells so far
abbrev pub invariant-counting : goal.invariant-counting
invariant-counting g l = record {
  within : l.cell ≤ length l.life.cells;
  counted : l.counts ≡ drops_of g.N.Node (take l.cell l.life.cells);
}

abbrev pub decreases-counting : goal.decreases-counting
decreases-counting g l = length l.life.cells - l.cell
