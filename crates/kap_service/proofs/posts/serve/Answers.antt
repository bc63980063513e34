use Rattle.std.proofs.Common.{◌<◌, sym, subst}
use Rattle.kap_service.specs.Posts.{CameAll, links_at}
use Rattle.kap_service.proofs.DoorLaws.{came_at_all}
use Rattle.kap_service.proofs.posts.serve.Goals as goal

pub returns-clause-links : goal.returns-clause-links
returns-clause-links g c fine =
    let same = c.serve_each.auto.posts in
    subst (CameAll (links_at (λ p. g.B.Door.left p.door) c.args.posts.now)) (sym c.total.ensures.links)
    (came_at_all (λ p. g.B.Door.left p.door) (λ p. p.links) c.args.posts.now c.serve_each.new.posts same
    (λ i d lt. c.serve_each.ensures.links i d lt
    (c.total.ensures.fine fine i d (subst (λ n. i < n) (sym same) lt))))
