use Rattle.std.proofs.Common.{◌∙◌}
use Rattle.kap_service.proofs.PostLaws.{all_published, none_begun}
use Rattle.kap_service.proofs.shared.show_stored.Goals as goal

pub returns-clause-posted : goal.returns-clause-posted
returns-clause-posted g c right store left =
    let none = none_begun c.args.poster.now store.stored c.requires.empty.0 c.requires.empty.1 in
    let p = c.in_ok-publish.ensures.ok in
    all_published c.post_missing.new.poster c.publish.new.self p.0 p.1
    ∙ c.in_ok-post_missing.ensures.ok right store left none

pub returns-clause-told : goal.returns-clause-told
returns-clause-told g c right store left =
    let none = none_begun c.args.poster.now store.stored c.requires.empty.0 c.requires.empty.1 in
    c.tell.ensures ∙ c.in_ok-publish.ensures.ok.0 ∙ c.in_ok-post_missing.ensures.ok right store left none
