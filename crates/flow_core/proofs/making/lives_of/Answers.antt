use Rattle.std.proofs.Common.{[], ◌∷◌}
use Rattle.flow_life.proofs.SplitLaws.{each-append}
use Rattle.flow_core.proofs.PlanLaws.{zip_push}
use Rattle.flow_core.specs.Making.{IsLifeBehind}
use Rattle.flow_core.specs.Rooms.{HasRoomIn}
use Rattle.flow_core.proofs.making.lives_of.Goals as goal

pub making-preserved : goal.making-preserved
making-preserved g c =
    let l = c.in_ok-life_of.field-0 in
    let e = c.in_ok-life_of.ensures in
    let before = c.making.invariant in
    record {
      lives = rw c.in_ok-push.ensures.items (zip_push (IsLifeBehind g.N.Node c.args.stamp.0) c.making.yielded c.making.lives.items c.in-Some.plan l before.lives e.life);
      room = rw c.in_ok-push.ensures.items (each-append (HasRoomIn c.args.capacity) c.making.lives.items (l ∷ []) before.room (e.room, tt));
    }
