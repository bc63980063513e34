use Rattle.std.proofs.Common.{arith, subst, sym}
use Rattle.std.proofs.lemmas.Int.{ints, to_z-of_z}
use Rattle.kap_base.specs.Times.{trunc, IsGreatestMultiple}
use Rattle.kap_base.proofs.TimeLaws.{trunc_is}
use Rattle.kap_base.proofs.times.trunc.Goals as goal

pub returns-clause-value : goal.returns-clause-value
unfolding trunc
returns-clause-value c = search (arith, ints, to_z-of_z, c.since_multiple.ensures)

pub returns-clause-greatest : goal.returns-clause-greatest
returns-clause-greatest c = subst (IsGreatestMultiple c.args.t c.args.d) (sym (returns-clause-value c)) (trunc_is c.args.t c.args.d c.requires.duration.positive)
