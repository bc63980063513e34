use Rattle.std.proofs.Common.{◌≡◌, ◌++◌, false}
use Rattle.net_run.proofs.joining.add_lives.Given as goal

-- the lives that were passed stand behind those of the net
abbrev pub invariant-adding : goal.invariant-adding
invariant-adding g l = record {
  lives : l.net.lives ≡ l.fn.net.lives ++ l.yielded;
  gathered : l.net.gathered ≡ l.fn.net.gathered;
  last : l.net.last ≡ l.fn.net.last;
  spent : l.net.spent ≡ false;
}
