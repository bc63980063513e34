use Rattle.std.proofs.Common.{◌≤◌, ℕ, subst}
use Rattle.engine_store.specs.Asking.{IsNotAbove}
use Rattle.engine_store.proofs.PassLaws.{nil_of, passed_all, passed_more, passed_none, passed_to}
use Rattle.engine_store.proofs.asking.least_from.Goals as goal

pub looking-init : goal.looking-init
looking-init g c = record {
  items = passed_none (λ item. c.args.from ≤ g.T.Defined.place item → IsNotAbove c.args.other (g.T.Defined.place item)) c.args.items.now;
  other = λ o h. h;
  low = λ h. h;
}

pub looking-preserved : goal.looking-preserved
looking-preserved g c =
    let place = g.T.Defined.place in
    let from = c.args.from in
    let old = c.looking.least in
    let new = c.lesser_of-least.result in
    record {
      items =
          passed_more (λ item. from ≤ place item → IsNotAbove new (place item)) c.args.items.now c.looking.rest.now c.in-Some.others.now c.in-Some.item.now
          (passed_to (λ item. from ≤ place item → IsNotAbove old (place item)) (λ item. from ≤ place item → IsNotAbove new (place item)) c.args.items.now c.looking.rest.now
          (λ x h le. c.lesser_of-least.ensures.other (place x) (h le)) c.looking.invariant.items)
          c.in-Some.ensures.cases.0
          (subst (λ (p : ℕ). from ≤ p → IsNotAbove new p) c.place.ensures c.lesser_of-least.ensures.place);
      other = λ o h. c.lesser_of-least.ensures.other o (c.looking.invariant.other o h);
      low = λ h. c.lesser_of-least.ensures.low (c.looking.invariant.low h);
    }

pub returns-clause-items : goal.returns-clause-items
returns-clause-items g c =
    passed_all (λ item. c.args.from ≤ g.T.Defined.place item → IsNotAbove c.looking.least (g.T.Defined.place item)) c.args.items.now c.looking.rest.now c.looking.invariant.items
    (nil_of c.looking.rest.now c.in_default.ensures.cases)

pub returns-clause-other : goal.returns-clause-other
returns-clause-other g c = c.looking.invariant.other

pub returns-clause-low : goal.returns-clause-low
returns-clause-low g c = c.looking.invariant.low
