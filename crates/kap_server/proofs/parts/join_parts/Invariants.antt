use Rattle.std.proofs.Common.{◌≡◌, false, map}
use Rattle.kap_server.specs.Parts.{HasJoined}
use Rattle.kap_server.proofs.parts.join_parts.Given as goal

-- the lives of the parts that were passed stand behind those of the net
abbrev pub invariant-joining : goal.invariant-joining
invariant-joining g l = record {
  unspent : l.net.spent ≡ false;
  joined : HasJoined g.N.Node (map (λ part. part.run) l.yielded) l.fn.net l.net;
}
