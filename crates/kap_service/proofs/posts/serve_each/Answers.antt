use Rattle.std.proofs.Common.{◌≡◌, false}
use Rattle.kap_service.specs.Posts.{CameAll, CameSince, IsClosed}
use Rattle.kap_service.proofs.DoorLaws.{carried}
use Rattle.kap_service.proofs.posts.serve_each.Goals as goal

pub returns-clause-closed : goal.returns-clause-closed
returns-clause-closed g c i d lt =
    let k = (c.for_each_mut.ensures i d lt).1 in
    carried k.argument_is k.left
    (λ x y. y.failed ≡ false → IsClosed (g.B.Door.left x.door) (g.B.Door.left y.door)) k.call.1.0

pub returns-clause-links : goal.returns-clause-links
returns-clause-links g c i d lt =
    let k = (c.for_each_mut.ensures i d lt).1 in
    carried k.argument_is k.left (λ x y. y.failed ≡ false → CameAll (g.B.Door.left x.door) y.links) k.call.1.1.0

pub returns-clause-came : goal.returns-clause-came
returns-clause-came g c i d lt =
    let k = (c.for_each_mut.ensures i d lt).1 in
    carried k.argument_is k.left (λ x y. CameSince (g.B.Door.left x.door) (g.B.Door.left y.door) y.links) k.call.1.1.1
