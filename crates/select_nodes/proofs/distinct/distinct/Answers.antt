use Rattle.std.proofs.Common.{to_z, of_z}
use Rattle.std.specs.Int.{w64}
use Rattle.std.proofs.lemmas.Int.{to_z-of_z}
use Rattle.select_nodes.proofs.DistinctLaws.{told_all, values_told}
use Rattle.select_nodes.proofs.distinct.distinct.Goals as goal

pub telling-preserved : goal.telling-preserved
telling-preserved c =
    values_told (to_z w64 (of_z w64 c.args.tmax)) c.args.field.now c.args.points.now c.telling.point-index c.point-item.result c.telling-test.true
    c.point-item.is c.telling.seen.keys c.tell.new.seen.keys c.telling.picks.items c.tell.new.picks.items
    c.telling.invariant (rw (c.value.ensures) at c.in_ok-tell.ensures)

pub returns : goal.returns
returns c = told_all (to_z w64 (of_z w64 c.args.tmax)) c.args.tmax c.args.field.now c.args.points.now c.telling.point-index c.telling.seen.keys
    c.telling.picks.items (to_z-of_z w64 c.args.tmax c.ranges.tmax) c.telling-test.false c.telling.invariant
