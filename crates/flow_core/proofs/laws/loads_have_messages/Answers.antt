use Rattle.flow_core.proofs.MessageLaws.{messages_barriers, messages_closed, messages_items, messages_rise}
use Rattle.flow_core.proofs.laws.loads_have_messages.Goals as goal

pub returns-clause-items : goal.returns-clause-items
returns-clause-items c = messages_items

pub returns-clause-barriers : goal.returns-clause-barriers
returns-clause-barriers c = messages_barriers

pub returns-clause-order : goal.returns-clause-order
returns-clause-order c = messages_rise

pub returns-clause-closed : goal.returns-clause-closed
returns-clause-closed c = messages_closed
