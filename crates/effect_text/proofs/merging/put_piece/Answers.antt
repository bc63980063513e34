use Rattle.effect_text.proofs.PieceLaws.{tells_event, tells_line}
use Rattle.effect_text.proofs.merging.put_piece.Goals as goal

pub returns-in_ok-accept_event-in-Some : goal.returns-in_ok-accept_event-in-Some
returns-in_ok-accept_event-in-Some c =
    tells_event c.args.topics.now c.accept_event.new.topics c.args.text.now c.append.new.self c.args.line.now c.accept_event.new.text c.args.piece.now.stamp c.args.piece.now.event
    c.in-Some.event c.value.result.now c.in-Some.is c.value.ensures c.in_ok-append.ensures.ok c.in_ok-accept_event-in-Some.ensures.lines c.in_ok-accept_event-in-Some.ensures.topics

pub returns-in-None : goal.returns-in-None
returns-in-None c =
    tells_line c.args.topics.now c.args.text.now c.append.new.self c.args.line.now c.args.piece.now.stamp c.args.piece.now.event c.in-None.is c.in_ok-append.ensures.ok
