use Rattle.std.proofs.Common.{◌≡◌, List, ap, refl, rules, subst, sym}
use Rattle.std.specs.List.{AllByRecursion as Each}
use Rattle.std.specs.Vec.{with_items}
use Rattle.std.proofs.lemmas.List.{places, with_items_is}
use Rattle.flow_core.specs.Away.{AreGivenBack, IsBack, IsLooseLife, with_lives}
use Rattle.flow_core.proofs.AwayLaws.{back_loose}
use Rattle.flow_core.specs.Nets.{NumberedLife}
use Rattle.flow_core.proofs.NetLaws.{net_goes}
use Rattle.flow_core.proofs.net.Net.give_cells.Given as given
use Rattle.flow_core.proofs.net.Net.give_cells.Goals as goal
use Rattle.flow_core.proofs.net.Net.give_cells.Goals.{In_ok-give}

-- the lives that are given, as those of the net
record Gives (g : given.Over) (c : In_ok-give g) (before : List (NumberedLife g.row.N.Denot)) : Type 0 where
  here : (with_items c.args.cells.lives c.give.new.lives).items ≡ c.give.new.lives
  given : AreGivenBack g.N.Node before c.give.new.lives c.args.self.now.gathered c.give.new.gathered

gives : (g : given.Over) (c : In_ok-give g) (before : List (NumberedLife g.row.N.Denot)) → IsBack g.N.Node before c.args.cells.lives.items → Gives g c before
gives g c before back =
    let b = c.in_ok-give.ensures.back before (subst (IsBack g.N.Node before) (sym c.deref_mut.ensures.value) back) in
    record {
      here = with_items_is c.args.cells.lives c.give.new.lives (search (rules, places));
      given = subst (λ es. AreGivenBack g.N.Node before c.give.new.lives es c.give.new.gathered) (ap (λ v. v.gathered) c.self.view_is) b;
    }

pub give-requires : goal.give-requires
give-requires g c =
    subst (Each (IsLooseLife g.N.Node)) (sym c.deref_mut.ensures.value) (back_loose g.N.Node c.requires.back.before c.args.cells.lives.items c.requires.back.back)

pub returns-clause-goes : goal.returns-clause-goes
returns-clause-goes g c = λ before back.
    let l = gives g (goal.at.returns-clause-goes g c).In_ok-give before back in
    let b = l.given in
    net_goes g.N.Node (with_lives before c.args.self.now) _ before c.give.new.lives c.args.self.now.gathered refl refl l.here (ap (λ v. v.last) c.self.view_is) b.numbers b.plans b.specs b.rooms b.ends b.gathers
