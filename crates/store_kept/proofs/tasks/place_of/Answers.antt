use Rattle.std.proofs.Common.{sym}
use Rattle.std.specs.Ordering.{is_lt}
use Rattle.kap_base.specs.Maps.{byte_order}
use Rattle.store_kept.proofs.Places.{a_place, no_place}
use Rattle.store_kept.proofs.tasks.place_of.Goals as goal

pub returns-in-Some-clause-place : goal.returns-in-Some-clause-place
returns-in-Some-clause-place c = (a_place (λ other. is_lt (byte_order c.args.id.now other.id)) c.args.tasks.now c.in-Some.at c.in-Some.ensures).0

pub returns-in-None-clause-place : goal.returns-in-None-clause-place
returns-in-None-clause-place c = sym (no_place (λ other. is_lt (byte_order c.args.id.now other.id)) c.args.tasks.now c.in-None.ensures)
