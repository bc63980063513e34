use Rattle.std.proofs.Common.{◌≡◌, ◌∙◌, ◌++◌, List, sym, ap, refl, subst, append_assoc}
use Rattle.std.specs.List.{AllByRecursion as Each}
use Rattle.kap_base.specs.declared.items.Item.{Item}
use Rattle.flow_cells.specs.Outs.{item_msgs}
use Rattle.flow_cells.specs.Kept.{IsGiven, gathered}
use Rattle.flow_cells.proofs.MoveLaws.{spelled_state}
use Rattle.flow_cells.proofs.OutLaws.{given_by, waits_by}
use Rattle.flow_cells.proofs.parts.Core.feed.Goals as goal

pub returns-clause-outs : goal.returns-clause-outs
returns-clause-outs g c = waits_by (item_msgs c.feed.new.out) c.args.self.now.outs.items c.push_items.new.outs.items c.in_ok-self.ensures

pub returns-clause-reacts : goal.returns-clause-reacts
returns-clause-reacts g c = λ r at.
    let node = g.N.Node in
    let core = c.args.self.now in
    let fed = c.in_ok-feed.ensures in
    let given : c.feed.new.out ≡ (node.step (node.spec core.node) r.state (c.args.parent, c.args.item)).given.items =
    fed.items ∙ ap (λ (l : List Item). l ++ (node.step (node.spec core.node) (node.state core.node) (c.args.parent, c.args.item)).given.items) c.clear.ensures
    ∙ ap (λ s. (node.step (node.spec core.node) s (c.args.parent, c.args.item)).given.items) at.state in
    record {
      spec = fed.spec;
      state = fed.state ∙ ap (λ s. (node.step (node.spec core.node) s (c.args.parent, c.args.item)).state) at.state;
      outs = subst (λ (l : List Item). Each (IsGiven (r.outs ++ item_msgs l)) c.push_items.new.outs.items) given
          (given_by r.outs (item_msgs c.feed.new.out) core.outs.items c.push_items.new.outs.items c.in_ok-self.ensures at.outs);
      effects = ap (λ l. gathered core.gathered ++ l) fed.effects
          ∙ sym (append_assoc (gathered core.gathered) core.effects (node.step (node.spec core.node) (node.state core.node) (c.args.parent, c.args.item)).given.effects)
          ∙ ap (λ l. l ++ (node.step (node.spec core.node) (node.state core.node) (c.args.parent, c.args.item)).given.effects) at.effects
          ∙ ap (λ s. r.effects ++ (node.step (node.spec core.node) s (c.args.parent, c.args.item)).given.effects) at.state;
      passed = at.passed;
      clean = refl;
      still = λ h. absurd cc;
      saved = λ does _. spelled_state node (node.spec core.node) r core c.keep_state.new.saved at does (c.in_ok-keep_state.ensures.spelled does) c.in_ok-keep_state.ensures.same;
    }
