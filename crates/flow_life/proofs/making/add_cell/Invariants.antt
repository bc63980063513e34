use Rattle.std.proofs.Common.{◌≡◌, length, map, take}
use Rattle.std.specs.List.{AllByRecursion as Each}
use Rattle.flow_cells.specs.declared.parts.InEdge.{InEdge}
use Rattle.flow_cells.specs.Rooms.{HasRoom}
use Rattle.flow_life.specs.Making.{AreBlank, HasCarriedNothing, IsUntouched, nodes_of, passed_of}
use Rattle.flow_life.specs.Wired.{parents_of}
use Rattle.flow_life.proofs.making.add_cell.Given as goal

-- the edges from the parents that were passed are there
abbrev pub invariant-adding : goal.invariant-adding
invariant-adding g l = record {
  blank : AreBlank g.N.Node l.ins.items l.cells.items;
  count : length l.cells.items ≡ length l.fn.cells.items;
  from : map (λ (e : InEdge). e.from) l.ins.items ≡ take l.parent-index l.parents;
  nodes : nodes_of l.cells.items ≡ nodes_of l.fn.cells.items;
  parents : parents_of l.cells.items ≡ parents_of l.fn.cells.items;
  passed : passed_of l.cells.items ≡ passed_of l.fn.cells.items;
  untouched : Each IsUntouched l.ins.items;
  room : Each (HasRoom l.capacity) l.fn.cells.items → Each (HasRoom l.capacity) l.cells.items;
  carried : Each HasCarriedNothing l.fn.cells.items → Each HasCarriedNothing l.cells.items;
}
