use Rattle.std.proofs.Common.{◌≡◌, ◌+◌, ◌≤◌, take}
use Rattle.std.specs.List.{AllByRecursion as Each}
use Rattle.flow_core.specs.Nets.{IsSound, moves_in, numbers_of, plans_in, specs_in}
use Rattle.flow_core.specs.Playing.{PlaysIn}
use Rattle.flow_core.specs.Done.{GathersAll, effects_in}
use Rattle.flow_core.specs.Rooms.{rooms_in}
use Rattle.flow_core.specs.Running.{ends_in}
use Rattle.flow_core.proofs.lives.play.Given as goal

-- the steps so far were tried, and as many lists grew by one message as were made
abbrev pub invariant-playing : goal.invariant-playing
invariant-playing g l = record {
  made : l.made ≤ l.next-index;
  numbers : numbers_of l.lives ≡ numbers_of l.fn.lives;
  sound : Each IsSound l.lives;
  plans : plans_in g.N.Node l.lives ≡ plans_in g.N.Node l.fn.lives;
  specs : specs_in g.N.Node l.lives ≡ specs_in g.N.Node l.fn.lives;
  rooms : rooms_in l.lives ≡ rooms_in l.fn.lives;
  ends : ends_in l.lives ≡ ends_in l.fn.lives;
  plays : PlaysIn (take l.next-index l.steps) l.fn.lives l.made l.lives;
  count : moves_in l.lives ≡ moves_in l.fn.lives + l.made;
  gathers : GathersAll (effects_in l.fn.lives) (effects_in l.lives) l.fn.gathered l.gathered;
}
