use Rattle.std.proofs.Common.{◌≡◌, ℕ, List, [], ◌∷◌, ◌++◌, drop, get_or, length, map, take, refl, sym, ap, subst, ◌∙◌, arith}
use Rattle.std.specs.List.{AllByRecursion as Each}
use Rattle.edge_queue.specs.Edges.{edge_capacity}
use Rattle.flow_life.specs.Lives.{IsLife}
use Rattle.flow_life.specs.Making.{AreBlank, HasCarriedNothing, IsUntouched, nodes_of, passed_of}
use Rattle.flow_life.specs.Wired.{parents_of}
use Rattle.std.proofs.lemmas.List.{take_more}
use Rattle.std.proofs.Math.Seq.{take-append_seam, take-length}
use Rattle.flow_cells.specs.declared.parts.CellParts.{CellParts}
use Rattle.flow_cells.specs.declared.parts.InEdge.{InEdge}
use Rattle.flow_cells.specs.declared.parts.OutEdge.{OutEdge}
use Rattle.flow_cells.specs.Made.{HasNothing}
use Rattle.flow_cells.specs.Rooms.{HasRoom}
use Rattle.flow_life.proofs.MakingLaws.{blank-first, holds-of, life-cell, map-push}
use Rattle.flow_life.proofs.SplitLaws.{each-append}
use Rattle.flow_life.proofs.StartLaws.{nothing-fed, nothing-gathered, nothing-quiet}
use Rattle.flow_life.proofs.making.add_cell.Given as given
use Rattle.flow_life.proofs.making.add_cell.Goals as goal
use Rattle.flow_life.proofs.making.add_cell.Goals.{In_ok-push}

pub adding-init : goal.adding-init
adding-init g c = record {
  blank = holds-of (λ (l : List InEdge). AreBlank g.N.Node l c.args.cells.now.items) [] c.new-ins.result.items c.new-ins.ensures.items (blank-first g.N.Node c.args.cells.now.items c.requires.life.ready c.requires.nothing);
  count = refl;
  from = ap (map (λ (e : InEdge). e.from)) c.new-ins.ensures.items;
  nodes = refl;
  parents = refl;
  passed = refl;
  untouched = holds-of (Each IsUntouched) [] c.new-ins.result.items c.new-ins.ensures.items tt;
  room = λ all. all;
  carried = λ all. all;
}

pub adding-preserved : goal.adding-preserved
adding-preserved g c =
    let e = c.in_ok-add_edge.ensures in
    let i = c.adding.invariant in
    let items = c.adding.cells.items in
    let new = c.add_edge.new.cells in
    let parents = c.args.parents.now in
    let old : c.deref_mut.result.now ≡ items = c.deref_mut.ensures.value in
    let len : c.adding.cells.len ≡ length new = c.adding.cells.ok.0 ∙ ap length (sym old) ∙ sym e.count in
    let back : take c.adding.cells.len (new ++ drop (length new) items) ≡ new = ap (λ (n : ℕ). take n (new ++ drop (length new) items)) len ∙ take-append_seam new (drop (length new) items) in
    record {
      blank = holds-of (AreBlank g.N.Node c.add_edge.new.ins.items) new (take c.adding.cells.len (new ++ drop (length new) items)) back e.blank;
      count = ap length back ∙ e.count ∙ ap length old ∙ i.count;
      from = e.from ∙ ap (λ (l : List ℕ). l ++ get_or parents c.adding.parent-index 0 ∷ []) i.from ∙ sym (take_more parents c.adding.parent-index 0 (omega arith));
      nodes = ap nodes_of back ∙ e.nodes ∙ ap nodes_of old ∙ i.nodes;
      parents = ap parents_of back ∙ e.parents ∙ ap parents_of old ∙ i.parents;
      passed = ap passed_of back ∙ e.passed ∙ ap passed_of old ∙ i.passed;
      untouched = e.untouched i.untouched;
      room = λ all. holds-of (Each (HasRoom c.args.capacity)) new (take c.adding.cells.len (new ++ drop (length new) items)) back (e.room (subst (Each (HasRoom c.args.capacity)) (sym old) (i.room all)));
      carried = λ all. holds-of (Each HasCarriedNothing) new (take c.adding.cells.len (new ++ drop (length new) items)) back (e.carried (subst (Each HasCarriedNothing) (sym old) (i.carried all)));
    }

life : (g : given.Over) (c : goal.In_ok-push g) → IsLife g.N.Node c.push.new.self.items
life g c =
    let e = c.in_ok-cell.ensures in
    holds-of (IsLife g.N.Node) (c.adding.cells.items ++ c.in_ok-cell.cell ∷ []) c.push.new.self.items c.in_ok-push.ensures.items
    (life-cell g.N.Node c.adding.cells.items c.in_ok-cell.cell c.adding.ins.items c.adding.invariant.blank e.keeps e.spent e.nothing e.ins e.core.outs)

nothing : (g : given.Over) (c : goal.In_ok-push g) → Each HasNothing c.push.new.self.items
nothing g c =
    holds-of (Each HasNothing) (c.adding.cells.items ++ c.in_ok-cell.cell ∷ []) c.push.new.self.items c.in_ok-push.ensures.items
    (each-append HasNothing c.adding.cells.items (c.in_ok-cell.cell ∷ []) c.adding.invariant.blank.nothing (c.in_ok-cell.ensures.nothing, tt))

pub add_edge-requires-clause-blank : goal.add_edge-requires-clause-blank
add_edge-requires-clause-blank g c = holds-of (AreBlank g.N.Node c.adding.ins.items) c.adding.cells.items c.deref_mut.result.now c.deref_mut.ensures.value c.adding.invariant.blank

pub returns-clause-nodes : goal.returns-clause-nodes
returns-clause-nodes g c =
    map-push (λ (x : CellParts g.row.N.Denot). x.core.node) c.adding.cells.items c.in_ok-cell.cell c.push.new.self.items (nodes_of c.args.cells.now.items) c.args.node
    c.in_ok-push.ensures.items c.adding.invariant.nodes c.in_ok-cell.ensures.core.node

pub returns-clause-parents : goal.returns-clause-parents
returns-clause-parents g c =
    let parents = c.args.parents.now in
    let all : c.adding.parent-index ≡ length parents = omega arith in
    let from : map (λ (e : InEdge). e.from) c.in_ok-cell.cell.ins.items ≡ parents =
    ap (map (λ (e : InEdge). e.from)) c.in_ok-cell.ensures.ins ∙ c.adding.invariant.from ∙ ap (λ (n : ℕ). take n parents) all ∙ take-length parents in
    map-push (λ (x : CellParts g.row.N.Denot). map (λ (e : InEdge). e.from) x.ins.items) c.adding.cells.items c.in_ok-cell.cell c.push.new.self.items (parents_of c.args.cells.now.items) parents
    c.in_ok-push.ensures.items c.adding.invariant.parents from

pub returns-clause-passed : goal.returns-clause-passed
returns-clause-passed g c =
    map-push (λ (x : CellParts g.row.N.Denot). x.core.passed.0) c.adding.cells.items c.in_ok-cell.cell c.push.new.self.items (passed_of c.args.cells.now.items) c.args.passed.0
    c.in_ok-push.ensures.items c.adding.invariant.passed c.in_ok-cell.ensures.core.passed

pub returns-clause-life : goal.returns-clause-life
returns-clause-life g c = life g (goal.at.returns-clause-life g c).In_ok-push

pub returns-clause-nothing : goal.returns-clause-nothing
returns-clause-nothing g c = nothing g (goal.at.returns-clause-nothing g c).In_ok-push

pub returns-clause-rest : goal.returns-clause-rest
returns-clause-rest g c =
    let p = (goal.at.returns-clause-rest g c).In_ok-push in
    nothing-quiet g.N.Node c.push.new.self.items (life g p).ready (nothing g p)

pub returns-clause-gathered : goal.returns-clause-gathered
returns-clause-gathered g c =
    let p = (goal.at.returns-clause-gathered g c).In_ok-push in
    nothing-gathered g.N.Node c.push.new.self.items (life g p).ready (nothing g p)

pub returns-clause-clean : goal.returns-clause-clean
returns-clause-clean g c =
    let p = (goal.at.returns-clause-clean g c).In_ok-push in
    nothing-fed g.N.Node c.push.new.self.items (life g p).ready (nothing g p)

pub returns-clause-carried : goal.returns-clause-carried
returns-clause-carried g c = λ all.
    let e = c.in_ok-cell.ensures in
    holds-of (Each HasCarriedNothing) (c.adding.cells.items ++ c.in_ok-cell.cell ∷ []) c.push.new.self.items c.in_ok-push.ensures.items
    (each-append HasCarriedNothing c.adding.cells.items (c.in_ok-cell.cell ∷ []) (c.adding.invariant.carried all) (subst (Each IsUntouched) (sym e.ins) c.adding.invariant.untouched, tt))

pub returns-clause-room : goal.returns-clause-room
returns-clause-room g c = λ all.
    let capacity = c.args.capacity in
    let none : HasRoom capacity c.in_ok-cell.cell = subst (Each (λ (o : OutEdge). edge_capacity o.tail ≡ capacity)) (sym c.in_ok-cell.ensures.core.outs) tt in
    holds-of (Each (HasRoom capacity)) (c.adding.cells.items ++ c.in_ok-cell.cell ∷ []) c.push.new.self.items c.in_ok-push.ensures.items
    (each-append (HasRoom capacity) c.adding.cells.items (c.in_ok-cell.cell ∷ []) (c.adding.invariant.room all) (none, tt))
