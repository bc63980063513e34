use Rattle.std.proofs.Common.{◌≡◌, length}
use Rattle.kap_base.specs.Texts.{ends_with}
use Rattle.kap_base.proofs.rules.ends_with.Given as goal

abbrev pub invariant-passing : goal.invariant-passing
invariant-passing l = ends_with l.byte l.rest ≡ ends_with l.byte l.bytes

abbrev pub decreases-passing : goal.decreases-passing
decreases-passing l = length l.rest
