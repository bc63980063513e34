use Rattle.std.proofs.Common.{◌<◌, length, set, subst}
use Rattle.std.specs.List.{AllByRecursion as Each}
use Rattle.flow_cells.specs.Kept.{Keeps}
use Rattle.flow_cells.proofs.OutLaws.{each-at, each-set}
use Rattle.flow_life.proofs.SplitLaws.{IsSplit, each-append, each-behind, each-front, split-bound, split-fed, split-settles, split-some}
use Rattle.flow_life.proofs.settling.settle_input.Goals as goal

pub settle-requires : goal.settle-requires
settle-requires g c =
    let before = c.split_at_mut-before.result.0.now in
    let rest = c.split_at_mut-before.result.1.now in
    let s : IsSplit c.args.child c.args.input c.args.parent c.args.cells.now before rest = record { edge = c.requires.edge; whole = c.split_at_mut-before.ensures.value; count = c.split_at_mut-before.ensures.front_len } in
    split-fed c.args.child c.args.input c.args.parent c.args.cells.now before rest s _ _

pub returns-clause-keeps : goal.returns-clause-keeps
returns-clause-keeps g c = λ all.
    let before = c.split_at_mut-before.result.0.now in
    let rest = c.split_at_mut-before.result.1.now in
    let s : IsSplit c.args.child c.args.input c.args.parent c.args.cells.now before rest = record { edge = c.requires.edge; whole = c.split_at_mut-before.ensures.value; count = c.split_at_mut-before.ensures.front_len } in
    let bound : c.args.parent < length before = split-bound c.args.child c.args.input c.args.parent c.args.cells.now before rest s in
    let some : 0 < length rest = split-some c.args.child c.args.input c.args.parent c.args.cells.now before rest s in
    let whole = subst (Each (Keeps g.N.Node)) c.split_at_mut-before.ensures.value all in
    let front = each-front (Keeps g.N.Node) before rest whole in
    let behind = each-behind (Keeps g.N.Node) before rest whole in
    each-append (Keeps g.N.Node) (set before c.args.parent c.settle.new.self) (set rest 0 c.settle.new.child)
    (each-set (Keeps g.N.Node) before c.args.parent c.settle.new.self front (c.settle.ensures.parent (each-at (Keeps g.N.Node) before c.args.parent _ bound front)))
    (each-set (Keeps g.N.Node) rest 0 c.settle.new.child behind (c.settle.ensures.child (each-at (Keeps g.N.Node) rest 0 _ some behind)))

pub returns-clause-settles : goal.returns-clause-settles
returns-clause-settles g c =
    let before = c.split_at_mut-before.result.0.now in
    let rest = c.split_at_mut-before.result.1.now in
    let s : IsSplit c.args.child c.args.input c.args.parent c.args.cells.now before rest = record { edge = c.requires.edge; whole = c.split_at_mut-before.ensures.value; count = c.split_at_mut-before.ensures.front_len } in
    split-settles c.args.child c.args.input c.args.parent c.args.cells.now before rest s _ _ c.settle.new.self c.settle.new.child c.settle.ensures.settles
