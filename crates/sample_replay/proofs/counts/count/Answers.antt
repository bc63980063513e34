use Rattle.std.proofs.Common.{◌++◌, ap, ◌∙◌}
use Rattle.effect_text.specs.Lines.{events_of, text_behind}
use Rattle.sample_replay.proofs.CountLaws.{counted_more}
use Rattle.sample_replay.proofs.counts.count.Goals as goal

pub returns-clause-counted : goal.returns-clause-counted
returns-clause-counted c = λ before counted.
    counted_more c.args.names.now before c.args.effects.now _ _ _ _ _ _ c.put_effects.new.text counted
    (c.in_ok-put_effects.ensures.text (events_of before) counted.topics_are ∙ ap (λ l. l ++ text_behind c.args.names.now (events_of before) c.args.effects.now) c.clear.ensures)
    (rw c.logged.ensures at c.in_ok-counts.ensures)
    (rw c.len.ensures at c.in_ok-counts-2.ensures)
    (c.in_ok-put_effects.ensures.topics (events_of before) counted.topics_are)
