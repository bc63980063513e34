use Rattle.std.proofs.Common.{◌≡◌, ◌<◌, ◌∷◌, false, length, ap, arith, subst, sym, ◌∙◌}
use Rattle.std.specs.List.{AllByRecursion as Each}
use Rattle.std.proofs.lemmas.List.{length-map}
use Rattle.flow_core.specs.Carried.{HasCarried}
use Rattle.flow_core.specs.Rooms.{HasRoomIn}
use Rattle.net_run.specs.Runs.{NetRunValue}
use Rattle.kap_server.proofs.BesideLaws.{first_and_rest, joined_all, unspent_all}
use Rattle.kap_server.proofs.parts.Parts.into_net.Given as given
use Rattle.kap_server.proofs.parts.Parts.into_net.Goals as goal
use Rattle.kap_server.proofs.parts.Parts.into_net.Goals.{After-remove}

-- the first part, and the others
first : (g : given.Over) (c : After-remove g) → c.self.inside.parts.items ≡ c.remove.result ∷ c.remove.new.self.items
first g c =
    let items = c.self.inside.parts.items in
    let fresh : c.self.inside.spent ≡ false = ap (λ (r : NetRunValue g.row.N-Spec.Denot). r.spent) c.self.view_is ∙ c.requires in
    let some = (c.self.invariant fresh).some in
    let long = length-map items (λ part. part.run) in
    let any : 0 < length items = omega (arith, some, long) in
    first_and_rest items c.remove.result any c.remove.ensures.value ∙ ap (λ rest. c.remove.result ∷ rest) (sym c.remove.ensures.items)

pub join_parts-requires-clause-parts : goal.join_parts-requires-clause-parts
join_parts-requires-clause-parts g c κs within =
    let fresh : c.self.inside.spent ≡ false = ap (λ (r : NetRunValue g.row.N-Spec.Denot). r.spent) c.self.view_is ∙ c.requires in
    (subst (Each (λ part. part.run.spent ≡ false)) (first g (goal.at.join_parts-requires-clause-parts g c).After-remove) (unspent_all (λ part. part.run) _ _ c.self.inside.parts.items (c.self.invariant fresh).had)).1

pub returns-clause-carried : goal.returns-clause-carried
returns-clause-carried g c =
    let fresh : c.self.inside.spent ≡ false = ap (λ (r : NetRunValue g.row.N-Spec.Denot). r.spent) c.self.view_is ∙ c.requires in
    subst (λ (r : NetRunValue g.row.N-Spec.Denot). HasCarried g.N.Node r.lives r.points c.join_parts.new.net) c.self.view_is
    (joined_all g.N.Node (λ part. part.run) c.self.inside.parts.items c.remove.new.self.items c.remove.result c.net_of-net.result c.join_parts.new.net
    (first g (goal.at.returns-clause-carried g c).After-remove) (c.self.invariant fresh) c.net_of-net.ensures.carried c.net_of-net.ensures.room c.in_ok-join_parts.ensures).0

pub returns-clause-room : goal.returns-clause-room
returns-clause-room g c =
    let fresh : c.self.inside.spent ≡ false = ap (λ (r : NetRunValue g.row.N-Spec.Denot). r.spent) c.self.view_is ∙ c.requires in
    subst (λ (r : NetRunValue g.row.N-Spec.Denot). Each (HasRoomIn r.capacity) c.join_parts.new.net.lives) c.self.view_is
    (joined_all g.N.Node (λ part. part.run) c.self.inside.parts.items c.remove.new.self.items c.remove.result c.net_of-net.result c.join_parts.new.net
    (first g (goal.at.returns-clause-room g c).After-remove) (c.self.invariant fresh) c.net_of-net.ensures.carried c.net_of-net.ensures.room c.in_ok-join_parts.ensures).1
