use Rattle.std.proofs.Common.{◌≡◌, ◌∙◌, true, false, sym, ap, to_z, of_z}
use Rattle.std.specs.Int.{w64}
use mir.Val.{SFits}
use Rattle.std.proofs.lemmas.Int.{to_z-of_z}
use Rattle.join_node.specs.QueueLaws.{emptied_rests}
use Rattle.join_node.specs.Queues.{emptied, has_points}
use Rattle.join_node.proofs.CodeLaws.{sets_end, sets_go_on, sets_shorter}
use Rattle.join_node.proofs.joins.add_all.Goals as goal

pub adding-smaller : goal.adding-smaller
adding-smaller c =
    let some : has_points c.adding.queues ≡ true = sym c.have_points.ensures ∙ c.adding-test.true in
    sets_shorter c.adding.queues c.take_set.new.queues some c.in_ok-set.ensures.rests

pub adding-preserved : goal.adding-preserved
adding-preserved c =
    let time = to_z w64 (of_z w64 c.args.time) in
    let some : has_points c.adding.queues ≡ true = sym c.have_points.ensures ∙ c.adding-test.true in
    record {
      bodies = sets_go_on c.args.join.now time c.adding.queues c.take_set.new.queues c.in_ok-set.set c.adding.bodies c.add_result.new.to _ some
          c.in_ok-set.ensures.set c.in_ok-set.ensures.rests c.in_ok-add_result.ensures c.adding.invariant.bodies;
      queues = ap emptied c.in_ok-set.ensures.rests ∙ emptied_rests c.adding.queues ∙ c.adding.invariant.queues;
    }

pub returns : goal.returns
returns c =
    let fits : SFits w64 c.args.time = c.ranges.time in
    let time = to_z w64 (of_z w64 c.args.time) in
    let none : has_points c.adding.queues ≡ false = sym c.have_points.ensures ∙ c.adding-test.false in
    record {
      bodies = simp to_z-of_z at (sets_end c.args.join.now time c.adding.queues c.adding.bodies _ none c.adding.invariant.bodies);
      queues = c.adding.invariant.queues;
    }
