use Rattle.std.proofs.Common.{◌≡◌, ℕ, ◌<◌, List, [], ◌∷◌, ◌++◌, length, map, get_or, set, Some, refl, sym, ap, subst, ◌∙◌, arith}
use Rattle.std.specs.Prelude.{slice_get}
use Rattle.std.specs.List.{AllByRecursion as Each}
use Rattle.edge_queue.specs.Edges.{edge_capacity}
use Rattle.flow_cells.specs.declared.parts.CellParts.{CellParts}
use Rattle.flow_cells.specs.declared.parts.InEdge.{InEdge}
use Rattle.flow_cells.specs.declared.parts.OutEdge.{OutEdge}
use Rattle.flow_cells.specs.Made.{HasNothing}
use Rattle.flow_cells.proofs.OutLaws.{each-set, get-here}
use Rattle.flow_cells.specs.Rooms.{HasRoom}
use Rattle.flow_life.specs.Making.{AreBlank, HasCarriedNothing, IsUntouched}
use Rattle.flow_life.proofs.PlaceLaws.{each-get, map-set}
use Rattle.flow_life.specs.Wired.{IsUnspent}
use Rattle.flow_life.proofs.MakingLaws.{blank-edge, fresh-head, holds-of, unused-tail}
use Rattle.flow_life.proofs.SplitLaws.{each-append}
use Rattle.flow_life.proofs.making.add_edge.Goals as goal

pub add_out-requires-clause-unspent : goal.add_out-requires-clause-unspent
add_out-requires-clause-unspent g c =
    let cells = c.args.cells.now in
    let mover = get_or cells c.args.parent c.index-cells-parent.result in
    each-get IsUnspent cells c.args.parent mover (get-here cells c.args.parent c.index-cells-parent.result (omega arith)) c.requires.blank.unspent

pub add_out-requires-clause-nothing : goal.add_out-requires-clause-nothing
add_out-requires-clause-nothing g c =
    let cells = c.args.cells.now in
    let mover = get_or cells c.args.parent c.index-cells-parent.result in
    each-get HasNothing cells c.args.parent mover (get-here cells c.args.parent c.index-cells-parent.result (omega arith)) c.requires.blank.nothing

pub add_out-requires-clause-unused : goal.add_out-requires-clause-unused
add_out-requires-clause-unused g c = (unused-tail c.in_ok-tail.tail c.in_ok-tail.ensures.empty.0, c.new.ensures)

pub returns-clause-blank : goal.returns-clause-blank
returns-clause-blank g c =
    let cells = c.args.cells.now in
    let ins = c.args.ins.now.items in
    let mover = get_or cells c.args.parent c.index-cells-parent.result in
    let at : slice_get cells c.args.parent ≡ Some mover = get-here cells c.args.parent c.index-cells-parent.result (omega arith) in
    let d = c.add_out.new.self in
    let made = c.in_ok-tail.ensures in
    let added = c.in_ok-add_out.ensures in
    let o : OutEdge = record { tail = c.in_ok-tail.tail; unsent = c.new.result; child = c.in_ok-child.child; input = c.in_ok-input.input } in
    let e : InEdge = record { head = c.in_ok-tail.head; from = c.args.parent; out = c.in_ok-out.out } in
    let some : 0 < edge_capacity o.tail = subst (λ (n : ℕ). 0 < n) (sym made.capacity) c.requires.some in
    let child : c.in_ok-child.child ≡ length cells = c.in_ok-child.ensures in
    let input : c.in_ok-input.input ≡ length ins = c.in_ok-input.ensures ∙ c.len.ensures ∙ c.args.ins.now.ok.0 in
    let out : c.in_ok-out.out ≡ length mover.core.outs.items = c.in_ok-out.ensures ∙ c.outs.ensures in
    holds-of (λ (l : List InEdge). AreBlank g.N.Node l (set cells c.args.parent d)) (ins ++ e ∷ []) c.push.new.self.items c.in_ok-push.ensures.items
    (blank-edge g.N.Node ins cells c.args.parent mover d o e c.requires.blank at added.keeps added.others added.ok made.edge made.settled some child input refl out (fresh-head c.in_ok-tail.head made.empty.1))

pub returns-clause-nodes : goal.returns-clause-nodes
returns-clause-nodes g c =
    let cells = c.args.cells.now in
    let mover = get_or cells c.args.parent c.index-cells-parent.result in
    let at : slice_get cells c.args.parent ≡ Some mover = get-here cells c.args.parent c.index-cells-parent.result (omega arith) in
    map-set (λ (x : CellParts g.row.N.Denot). x.core.node) cells c.args.parent mover c.add_out.new.self at c.in_ok-add_out.ensures.others.node

pub returns-clause-parents : goal.returns-clause-parents
returns-clause-parents g c =
    let cells = c.args.cells.now in
    let mover = get_or cells c.args.parent c.index-cells-parent.result in
    let at : slice_get cells c.args.parent ≡ Some mover = get-here cells c.args.parent c.index-cells-parent.result (omega arith) in
    map-set (λ (x : CellParts g.row.N.Denot). map (λ (e : InEdge). e.from) x.ins.items) cells c.args.parent mover c.add_out.new.self at (ap (λ v. map (λ (e : InEdge). e.from) v.items) c.in_ok-add_out.ensures.others.ins)

pub returns-clause-passed : goal.returns-clause-passed
returns-clause-passed g c =
    let cells = c.args.cells.now in
    let mover = get_or cells c.args.parent c.index-cells-parent.result in
    let at : slice_get cells c.args.parent ≡ Some mover = get-here cells c.args.parent c.index-cells-parent.result (omega arith) in
    map-set (λ (x : CellParts g.row.N.Denot). x.core.passed.0) cells c.args.parent mover c.add_out.new.self at (ap (λ v. v.0) c.in_ok-add_out.ensures.others.passed)

pub returns-clause-untouched : goal.returns-clause-untouched
returns-clause-untouched g c = λ all.
    let ins = c.args.ins.now.items in
    let e : InEdge = record { head = c.in_ok-tail.head; from = c.args.parent; out = c.in_ok-out.out } in
    holds-of (Each IsUntouched) (ins ++ e ∷ []) c.push.new.self.items c.in_ok-push.ensures.items
    (each-append IsUntouched ins (e ∷ []) all (c.in_ok-tail.ensures.empty.1, tt))

pub returns-clause-carried : goal.returns-clause-carried
returns-clause-carried g c = λ all.
    let cells = c.args.cells.now in
    let mover = get_or cells c.args.parent c.index-cells-parent.result in
    let at : slice_get cells c.args.parent ≡ Some mover = get-here cells c.args.parent c.index-cells-parent.result (omega arith) in
    each-set HasCarriedNothing cells c.args.parent c.add_out.new.self all
    (subst (λ v. Each IsUntouched v.items) (sym c.in_ok-add_out.ensures.others.ins) (each-get HasCarriedNothing cells c.args.parent mover at all))

pub returns-clause-room : goal.returns-clause-room
returns-clause-room g c = λ all.
    let cells = c.args.cells.now in
    let capacity = c.args.capacity in
    let has = λ (x : OutEdge). edge_capacity x.tail ≡ capacity in
    let mover = get_or cells c.args.parent c.index-cells-parent.result in
    let at : slice_get cells c.args.parent ≡ Some mover = get-here cells c.args.parent c.index-cells-parent.result (omega arith) in
    let outs = mover.core.outs.items in
    let o : OutEdge = record { tail = c.in_ok-tail.tail; unsent = c.new.result; child = c.in_ok-child.child; input = c.in_ok-input.input } in
    each-set (HasRoom capacity) cells c.args.parent c.add_out.new.self all
    (holds-of (Each has) (outs ++ o ∷ []) c.add_out.new.self.core.outs.items c.in_ok-add_out.ensures.ok
    (each-append has outs (o ∷ []) (each-get (HasRoom capacity) cells c.args.parent mover at all) (c.in_ok-tail.ensures.capacity, tt)))
