use Rattle.std.specs.List.{AllByRecursion as Each}
use Rattle.flow_core.specs.Making.{AreLivesBehind}
use Rattle.flow_core.specs.Rooms.{HasRoomIn}
use Rattle.flow_core.proofs.making.lives_of.Given as goal

-- a life of each plan that was passed
abbrev pub invariant-making : goal.invariant-making
invariant-making g l = record {
  lives : AreLivesBehind g.N.Node l.stamp.0 l.yielded l.lives.items;
  room : Each (HasRoomIn l.capacity) l.lives.items;
}
