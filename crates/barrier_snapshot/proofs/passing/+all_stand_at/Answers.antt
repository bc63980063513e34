use Rattle.std.proofs.Common.{refl, subst, sym}
use Rattle.barrier_snapshot.specs.Passing.{StandAt}
use Rattle.barrier_snapshot.proofs.SavedLaws.{stand_parts, stand_whole}
use Rattle.barrier_snapshot.proofs.passing.+all_stand_at.Goals as goal

pub returns-then-not-stand_at-clause-no : goal.returns-then-not-stand_at-clause-no
returns-then-not-stand_at-clause-no g t c = λ no all. c.if-not-stand_at.ensures.no no (subst (StandAt c.args.upto) (sym c.all_cells.ensures) (stand_parts c.args.upto c.args.lives.now c.in-Some.first.now c.in-Some.others.now c.in-Some.ensures.cases.0 all).0)

pub returns-clause-yes : goal.returns-clause-yes
returns-clause-yes g t c = λ yes. stand_whole c.args.upto c.args.lives.now c.in-Some.first.now c.in-Some.others.now c.in-Some.ensures.cases.0 (subst (StandAt c.args.upto) c.all_cells.ensures (c.if-not-stand_at.ensures.yes refl)) (c.all_stand_at.ensures.yes yes)

pub returns-clause-no : goal.returns-clause-no
returns-clause-no g t c = λ no all. c.all_stand_at.ensures.no no (stand_parts c.args.upto c.args.lives.now c.in-Some.first.now c.in-Some.others.now c.in-Some.ensures.cases.0 all).1
