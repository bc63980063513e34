use Rattle.std.proofs.Common.{◌≡◌, ◌≤◌, length, arith}
use Rattle.flow_life.proofs.LookLaws.{keep_all, keep_none}
use Rattle.flow_life.proofs.LooseLaws.{looked_joined, looked_more, looked_none, looked_unspent, settled_none, settled_wired}
use Rattle.flow_life.proofs.settling.settle_cells.Goals as goal

pub settling-init : goal.settling-init
settling-init g c = record { looked = looked_none c.args.cells.now; settled = settled_none c.args.cells.now; keeps = keep_none g.N.Node c.args.cells.now }

pub settling-preserved : goal.settling-preserved
settling-preserved g c = record {
  looked = looked_more c.args.cells.now c.settling.cells c.settle_cell.new.cells c.settling.invariant.looked c.in_ok-settle_cell.ensures.looked;
  settled = c.in_ok-settle_cell.ensures.settled;
  keeps = c.in_ok-settle_cell.ensures.keeps (looked_unspent c.args.cells.now c.settling.cells c.settling.invariant.looked c.requires.unspent) c.settling.invariant.keeps;
}

pub settle_cell-requires-clause-joined : goal.settle_cell-requires-clause-joined
settle_cell-requires-clause-joined g c = looked_joined c.args.cells.now c.settling.cells c.settling.invariant.looked c.requires.joined

pub settle_cell-requires-clause-within : goal.settle_cell-requires-clause-within
settle_cell-requires-clause-within g c =
    let count : c.in_ok-count.count ≡ length c.args.cells.now = c.in_ok-count.ensures in
    let same : length c.settling.cells ≡ length c.args.cells.now = c.settling.auto.cells in
    omega (arith, count, same, c.settling-test.true)

pub returns-clause-wired : goal.returns-clause-wired
returns-clause-wired g c =
    let count : c.in_ok-count.count ≡ length c.args.cells.now = c.in_ok-count.ensures in
    let same : length c.settling.cells ≡ length c.args.cells.now = c.settling.auto.cells in
    let all : length c.settling.cells ≤ c.settling.child = omega (arith, count, same, c.settling-test.false) in
    settled_wired c.settling.child c.settling.cells all (looked_joined c.args.cells.now c.settling.cells c.settling.invariant.looked c.requires.joined) c.settling.invariant.settled

pub returns-clause-keeps : goal.returns-clause-keeps
returns-clause-keeps g c =
    let count : c.in_ok-count.count ≡ length c.args.cells.now = c.in_ok-count.ensures in
    let same : length c.settling.cells ≡ length c.args.cells.now = c.settling.auto.cells in
    let all : length c.settling.cells ≤ c.settling.child = omega (arith, count, same, c.settling-test.false) in
    keep_all g.N.Node c.settling.child c.settling.cells all c.settling.invariant.keeps
