use Rattle.std.proofs.Common.{[], ◌∷◌, ap, subst, sym}
use Rattle.std.specs.List.{AllByRecursion as Each}
use Rattle.flow_life.proofs.SplitLaws.{each-append}
use Rattle.flow_core.specs.Rooms.{HasRoomIn}
use Rattle.flow_core.proofs.net.Net.begin.Goals as goal

pub returns-clause-room : goal.returns-clause-room
returns-clause-room g c = λ all.
    let has = HasRoomIn c.args.capacity in
    let before = subst (Each has) (sym (ap (λ v. v.lives) c.self.view_is)) all in
    subst (Each has) (sym c.in_ok-push.ensures.items) (each-append has c.self.inside.lives.items (c.in_ok-life.life ∷ []) before (c.in_ok-life.ensures.room, tt))
