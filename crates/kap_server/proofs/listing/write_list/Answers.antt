use Rattle.std.proofs.Common.{ap, subst, sym, ◌∙◌}
use Rattle.kap_base.specs.Maps.{KeyMap}
use Rattle.kap_base.specs.declared.items.Level.{Level}
use Rattle.store_records.specs.Histories.{held}
use Rattle.topic_core.specs.Topics.{TopicsValue}
use Rattle.store_lists.specs.Lists.{topics_text}
use Rattle.store_lists.specs.Writing.{Lists}
use Rattle.kap_server.specs.declared.words.Listing.{Listing}
use Rattle.kap_server.specs.Listing.{list_text}
use Rattle.kap_server.proofs.listing.write_list.Goals as goal

pub returns-in-Topics-clause-lists : goal.returns-in-Topics-clause-lists
returns-in-Topics-clause-lists g c = λ tells rs on same.
    let w = g.K.Sink.written c.args.out.now in
    let v = g.K.Sink.written c.write_topics.new.out in
    subst (λ (listing : Listing). Lists c.write_topics.result (list_text listing (held rs)) w v) (sym c.in-Topics.is)
    (subst (λ (levels : KeyMap (KeyMap Level)). Lists c.write_topics.result (topics_text levels) w v) (c.levels.ensures ∙ ap (λ (t : TopicsValue). t.levels) (c.topics.ensures ∙ same)) c.write_topics.ensures.lists)
