use Rattle.effect_text.proofs.PieceLaws.{behinds_then, fronts_none, fronts_then}
use Rattle.effect_text.proofs.merging.+put_fronts.Goals as goal

pub returns-in_default-clause-told : goal.returns-in_default-clause-told
returns-in_default-clause-told t c = fronts_none c.args.topics.now c.args.text.now c.args.stamp c.args.parts.now c.in_default.ensures.cases

pub returns-in_ok-put_fronts-clause-told : goal.returns-in_ok-put_fronts-clause-told
returns-in_ok-put_fronts-clause-told t c =
    fronts_then c.args.topics.now c.put_front.new.topics c.put_fronts.new.topics c.args.text.now c.put_front.new.text c.put_fronts.new.text
    c.args.stamp c.args.parts.now c.in-Some.first.now c.in-Some.others.now c.in-Some.ensures.cases.0 c.in_ok-put_front.ensures.told c.in_ok-put_fronts.ensures.told

pub returns-in_ok-put_fronts-clause-rests : goal.returns-in_ok-put_fronts-clause-rests
returns-in_ok-put_fronts-clause-rests t c =
    behinds_then c.args.stamp c.args.parts.now c.in-Some.first.now c.put_front.new.part c.in-Some.others.now c.put_fronts.new.parts
    c.in-Some.ensures.cases.0 c.in_ok-put_front.ensures.rest c.in_ok-put_fronts.ensures.rests
