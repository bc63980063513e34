use Rattle.std.proofs.Common.{◌∙◌}
use Rattle.flow_life.proofs.ListingLaws.{ends-gathered}
use Rattle.flow_life.proofs.RoomLaws.{rooms_gathered, rooms_loaded}
use Rattle.flow_life.specs.Loads.{has_inner}
use Rattle.flow_core.proofs.DoneLaws.{load_gathers}
use Rattle.flow_core.proofs.lives.load_life.Goals as goal

pub returns-clause-given : goal.returns-clause-given
returns-clause-given g c = load_gathers (has_inner c.args.source.items) c.args.source.items _ _ _ _ _ c.in_ok-load.ensures.loads c.in_ok-gather.ensures.gathers c.in_ok-gather.ensures.given

pub returns-clause-ends : goal.returns-clause-ends
returns-clause-ends g c = ends-gathered _ _ c.in_ok-gather.ensures.gathers ∙ c.in_ok-load.ensures.ends

pub returns-clause-rooms : goal.returns-clause-rooms
returns-clause-rooms g c = rooms_gathered _ _ c.in_ok-gather.ensures.gathers ∙ rooms_loaded (has_inner c.args.source.items) c.args.source.items _ _ c.in_ok-load.ensures.loads
