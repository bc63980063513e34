use Rattle.std.proofs.Common.{◌≡◌, ◌++◌}
use Rattle.kap_server.proofs.parts.add_counts.Given as goal

-- those that were passed stand behind the others
abbrev pub invariant-adding : goal.invariant-adding
invariant-adding l = l.all ≡ l.fn.all ++ l.yielded
