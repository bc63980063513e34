use Rattle.std.proofs.Common.{refl, subst, sym}
use Rattle.barrier_snapshot.specs.Passing.{AreBehind}
use Rattle.barrier_snapshot.proofs.SteadyLaws.{behind_parts, behind_whole}
use Rattle.barrier_snapshot.proofs.passing.+all_behind.Goals as goal

pub returns-then-not-are_behind-clause-no : goal.returns-then-not-are_behind-clause-no
returns-then-not-are_behind-clause-no g t c = λ no all. c.if-not-are_behind.ensures.no no (subst (AreBehind c.args.upto) (sym c.all_cells.ensures) (behind_parts c.args.upto c.args.lives.now c.in-Some.first.now c.in-Some.others.now c.in-Some.ensures.cases.0 all).0)

pub returns-clause-yes : goal.returns-clause-yes
returns-clause-yes g t c = λ yes. behind_whole c.args.upto c.args.lives.now c.in-Some.first.now c.in-Some.others.now c.in-Some.ensures.cases.0 (subst (AreBehind c.args.upto) c.all_cells.ensures (c.if-not-are_behind.ensures.yes refl)) (c.all_behind.ensures.yes yes)

pub returns-clause-no : goal.returns-clause-no
returns-clause-no g t c = λ no all. c.all_behind.ensures.no no (behind_parts c.args.upto c.args.lives.now c.in-Some.first.now c.in-Some.others.now c.in-Some.ensures.cases.0 all).1
