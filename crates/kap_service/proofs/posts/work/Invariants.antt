use Rattle.std.proofs.Common.{◌≡◌, ◌≤◌, false}
use Rattle.kap_service.specs.Posts.{CameSince}
use Rattle.kap_service.proofs.posts.work.Given as goal

abbrev pub invariant-serving : goal.invariant-serving
invariant-serving g l =
    ((goal.iterator-serving g).can_next l.iterator' × (goal.iterator-serving g).is_finite l.iterator')
    × (g.B.Door.faults l.initial.door ≤ g.B.Door.faults l.door)
    × CameSince (g.B.Door.left l.initial.door) (g.B.Door.left l.door) l.links
    × (l.failed ≡ false)
