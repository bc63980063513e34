use Rattle.std.proofs.Common.{◌≡◌, ◌++◌, drop}
use Rattle.tick_compile.proofs.nodes.copy_of.Given as goal

abbrev pub invariant-copying : goal.invariant-copying
invariant-copying l = l.copy ++ drop l.dbrp-index l.dbrps ≡ l.dbrps
