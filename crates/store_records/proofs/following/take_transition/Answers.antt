use Rattle.std.proofs.Common.{◌≡◌, ap, false, map, subst, sym, ◌∙◌}
use Rattle.kap_base.specs.Levels.{same_level}
use Rattle.kap_base.specs.Maps.{KeyMap}
use Rattle.kap_base.specs.declared.items.Level.{Level}
use Rattle.topic_core.specs.Topics.{event_of, level_before}
use Rattle.store_records.proofs.FollowLaws.{changes_level, next_is}
use Rattle.store_records.proofs.following.take_transition.Goals as goal

pub returns-then-not-goes_on-clause-next : goal.returns-then-not-goes_on-clause-next
returns-then-not-goes_on-clause-next c before stands long =
    let t = c.args.transition.now in
    let level : c.level-level.result ≡ level_before c.args.topics.now.levels t.topic t.id =
    subst (λ (l : KeyMap (KeyMap Level)). c.level-level.result ≡ level_before l t.topic t.id) c.levels.ensures c.level-level.ensures in
    sym c.if-not-goes_on.true ∙ next_is c.args.topics.now c.args.count c.level-level.result t c.goes_on.result c.goes_on.ensures level before stands long

pub returns-clause-next : goal.returns-clause-next
returns-clause-next c before stands long =
    let t = c.args.transition.now in
    let level : c.level-level.result ≡ level_before c.args.topics.now.levels t.topic t.id =
    subst (λ (l : KeyMap (KeyMap Level)). c.level-level.result ≡ level_before l t.topic t.id) c.levels.ensures c.level-level.ensures in
    sym c.if-not-goes_on.false ∙ next_is c.args.topics.now c.args.count c.level-level.result t c.goes_on.result c.goes_on.ensures level before stands long

pub returns-clause-kept : goal.returns-clause-kept
returns-clause-kept c before stands next =
    let t = c.args.transition.now in
    let level : c.level-level.result ≡ level_before c.args.topics.now.levels t.topic t.id =
    subst (λ (l : KeyMap (KeyMap Level)). c.level-level.result ≡ level_before l t.topic t.id) c.levels.ensures c.level-level.ensures in
    let differs = changes_level c.args.count c.level-level.result t (sym c.goes_on.ensures ∙ c.if-not-goes_on.false) in
    c.in_ok-put.ensures.stands (map event_of before) stands (sym (ap (λ (l : Level). same_level l t.new_level) level) ∙ differs)
