use Rattle.std.proofs.Common.{◌≡◌, ◌++◌, false, length, map}
use Rattle.std.specs.List.{AllByRecursion as Each}
use Rattle.kap_server.specs.Parts.{dropped_of_runs}
use Rattle.kap_server.proofs.parts.dropped_by.Given as goal

-- what the parts before dropped, and those that are left
abbrev pub invariant-counting : goal.invariant-counting
invariant-counting g l = record {
  all : l.all ++ dropped_of_runs g.N.Node.answer (map (λ part. part.run) l.rest) ≡ dropped_of_runs g.N.Node.answer (map (λ part. part.run) l.fn.parts);
  unspent : Each (λ part. part.run.spent ≡ false) l.rest;
}

abbrev pub decreases-counting : goal.decreases-counting
decreases-counting g l = length l.rest
