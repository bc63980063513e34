use Rattle.std.proofs.Common.{◌≡◌, ◌+◌, ◌≤◌, take}
use Rattle.flow_life.specs.Nodes.{gathered_of, specs_of}
use Rattle.flow_life.specs.Playing.{Plays}
use Rattle.flow_life.specs.Rooms.{rooms_of}
use Rattle.flow_life.specs.Steps.{moves_of}
use Rattle.flow_life.specs.Streams.{plans_of}
use Rattle.flow_life.specs.Lives.{IsLife}
use Rattle.flow_life.proofs.playing.play.Given as goal

-- the steps so far were tried, and as many lists grew by one message as were made
abbrev pub invariant-playing : goal.invariant-playing
invariant-playing g l = record {
  made : l.made ≤ l.next-index;
  life : IsLife g.N.Node l.cells;
  plans : plans_of g.N.Node l.cells ≡ plans_of g.N.Node l.fn.cells;
  specs : specs_of g.N.Node l.cells ≡ specs_of g.N.Node l.fn.cells;
  gathered : gathered_of l.cells ≡ gathered_of l.fn.cells;
  rooms : rooms_of l.cells ≡ rooms_of l.fn.cells;
  plays : Plays (take l.next-index l.steps) l.fn.cells l.made l.cells;
  count : moves_of l.cells ≡ moves_of l.fn.cells + l.made;
}
