use Rattle.std.proofs.Common.{◌≡◌, ◌++◌, [], length, map}
use Rattle.std.specs.List.{AllByRecursion as Each}
use Rattle.task_run.specs.Plans.{graph_of}
use Rattle.kap_server.specs.Parts.{HasHad, lives_of_runs}
use Rattle.kap_server.proofs.BesideLaws.{CanBegin}
use Rattle.kap_server.proofs.parts.parts_of.Given as goal

-- the plans that are left can begin, and the parts have the lives of those before them
abbrev pub invariant-parting : goal.invariant-parting
invariant-parting g l = record {
  can : CanBegin g.N.Node.spec g.N.Node.state g.N.Node.first g.N.Node.life g.N.Node.number l.rest.items;
  lives : lives_of_runs (map (λ part. part.run) l.parts.items) ++ map (graph_of g.N.Node.spec) l.rest.items ≡ map (graph_of g.N.Node.spec) l.fn.plans.items;
  had : Each (HasHad [] l.capacity) (map (λ part. part.run) l.parts.items);
}

abbrev pub decreases-parting : goal.decreases-parting
decreases-parting g l = length l.rest.items
