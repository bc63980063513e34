use Rattle.std.proofs.Common.{◌≡◌, ◌+◌, List, arith, subst}
use Rattle.topic_core.specs.declared.transition.Transition.{Transition}
use Rattle.store_records.proofs.FollowLaws.{Taking, all_kept, nil_of, one_more, stops}
use Rattle.store_records.proofs.following.take_transitions.Goals as goal

pub returns-then-not-branch-clause-next : goal.returns-then-not-branch-clause-next
returns-then-not-branch-clause-next c before stands long =
    let so_far = subst (λ (r : List Transition). Taking c.args.topics.now c.args.count c.args.transitions.now c.taking.topics c.taking.count r) c.in-Some.ensures.cases.0 c.taking.invariant in
    stops c.args.topics.now c.args.count c.args.transitions.now c.taking.topics c.taking.count c.in-Some.transition.now c.in-Some.others.now so_far
    c.in_ok-take_transition.field-0 c.in_ok-take_transition.ensures.next c.if-not-branch.true before stands long

pub taking-preserved : goal.taking-preserved
taking-preserved c =
    let so_far = subst (λ (r : List Transition). Taking c.args.topics.now c.args.count c.args.transitions.now c.taking.topics c.taking.count r) c.in-Some.ensures.cases.0 c.taking.invariant in
    let more : c.in-Some-checked_add.more ≡ c.taking.count + 1 = omega (arith, c.in-Some-checked_add.ensures) in
    one_more c.args.topics.now c.args.count c.args.transitions.now c.taking.topics c.taking.count c.in-Some.transition.now c.in-Some.others.now so_far
    c.in_ok-take_transition.field-0 c.take_transition.new.topics c.in-Some-checked_add.more more c.in_ok-take_transition.ensures.next c.in_ok-take_transition.ensures.kept c.if-not-branch.false

pub returns-clause-kept : goal.returns-clause-kept
returns-clause-kept c before stands next =
    let so_far = subst (λ (r : List Transition). Taking c.args.topics.now c.args.count c.args.transitions.now c.taking.topics c.taking.count r) (nil_of c.taking.rest.now c.in_default.ensures.cases) c.taking.invariant in
    all_kept c.args.topics.now c.args.count c.args.transitions.now c.taking.topics c.taking.count so_far before stands
