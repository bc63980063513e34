use Rattle.std.proofs.Common.{◌≡◌, List, ◌++◌, ap, rules, subst, sym, ◌∙◌}
use Rattle.std.specs.Vec.{with_items}
use Rattle.std.proofs.lemmas.List.{places, with_items_is}
use Rattle.kap_base.specs.declared.items.Msg.{Msg}
use Rattle.merge_node.specs.Merge.{IsClosed}
use Rattle.flow_core.proofs.MessageLaws.{messages_closed}
use Rattle.flow_core.specs.Messages.{load_messages}
use Rattle.flow_core.specs.Nets.{plans_from, plans_in, specs_in}
use Rattle.flow_core.specs.Done.{effects_in}
use Rattle.flow_core.specs.Rooms.{rooms_in}
use Rattle.flow_core.proofs.net.Net.load.Given as given
use Rattle.flow_core.proofs.net.Net.load.Goals as goal
use Rattle.flow_core.proofs.net.Net.load.Goals.{In_ok-load}

-- what the load of the lives says of the net as it was
record Loads (g : given.Over) (c : goal.In_ok-load g) : Type 0 where
  plans : plans_in g.N.Node c.load.new.lives ≡ plans_from g.N.Node (load_messages c.args.points.now c.args.upto c.args.marks.now) c.args.self.now.lives
  specs : specs_in g.N.Node c.load.new.lives ≡ specs_in g.N.Node c.args.self.now.lives
  rooms : rooms_in c.load.new.lives ≡ rooms_in c.args.self.now.lives
  here : (with_items c.self.inside.lives c.load.new.lives).items ≡ c.load.new.lives
  given : c.load.new.gathered ≡ c.args.self.now.gathered ++ effects_in c.load.new.lives

loads : (g : given.Over) (c : goal.In_ok-load g) → Loads g c
loads g c =
    let same = c.deref_mut.ensures.value ∙ ap (λ v. v.lives) c.self.view_is in
    record {
      plans = c.in_ok-load.ensures.plans ∙ ap (λ (l : List Msg). plans_from g.N.Node l c.deref_mut.result.now) c.in_ok-source.ensures ∙ ap (plans_from g.N.Node (load_messages c.args.points.now c.args.upto c.args.marks.now)) same;
      specs = c.in_ok-load.ensures.specs ∙ ap (specs_in g.N.Node) same;
      rooms = c.in_ok-load.ensures.rooms ∙ ap rooms_in same;
      here = with_items_is c.self.inside.lives c.load.new.lives (search (rules, places));
      given = c.in_ok-load.ensures.given ∙ ap (λ v. v.gathered ++ effects_in c.load.new.lives) c.self.view_is;
    }

pub load-requires-clause-closed : goal.load-requires-clause-closed
load-requires-clause-closed g c =
    subst (λ (l : List Msg). IsClosed l) (sym c.in_ok-source.ensures) (messages_closed c.args.points.now c.args.upto c.args.marks.now)

pub returns-clause-gathers : goal.returns-clause-gathers
returns-clause-gathers g c =
    let l = loads g (goal.at.returns-clause-gathers g c).In_ok-load in
    l.given ∙ ap (λ ls. c.args.self.now.gathered ++ effects_in ls) (sym l.here)

pub returns-clause-rooms : goal.returns-clause-rooms
returns-clause-rooms g c =
    let l = loads g (goal.at.returns-clause-rooms g c).In_ok-load in
    ap rooms_in l.here ∙ l.rooms
