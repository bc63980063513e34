use Rattle.std.proofs.Common.{ℕ, ◌≡◌, arith, subst}
use Rattle.flow_life.specs.Loose.{AreSettledTo}
use Rattle.flow_life.proofs.LookLaws.{keep_more}
use Rattle.flow_life.proofs.LooseLaws.{input_there, looked_inputs, looked_joined, looked_more, looked_none, settled_cell}
use Rattle.flow_life.proofs.settling.settle_cell.Goals as goal

pub settling-init : goal.settling-init
settling-init g c = record { looked = looked_none c.args.cells.now; settled = c.requires.settled }

pub settling-preserved : goal.settling-preserved
settling-preserved g c = record {
  looked = looked_more c.args.cells.now c.settling.cells c.settle_one.new.cells c.settling.invariant.looked c.settle_one.ensures.looked;
  settled = c.settle_one.ensures.settled;
}

pub settle_one-requires-clause-joined : goal.settle_one-requires-clause-joined
settle_one-requires-clause-joined g c = looked_joined c.args.cells.now c.settling.cells c.settling.invariant.looked c.requires.joined

pub settle_one-requires-clause-there : goal.settle_one-requires-clause-there
settle_one-requires-clause-there g c =
    let inputs = looked_inputs c.args.child c.in_ok-inputs.inputs c.args.cells.now c.settling.cells c.settling.invariant.looked c.in_ok-inputs.ensures.inputs in
    input_there c.args.child c.in_ok-inputs.inputs c.settling.input c.settling.cells inputs c.settling-test.true

pub returns-clause-settled : goal.returns-clause-settled
returns-clause-settled g c =
    let inputs = looked_inputs c.args.child c.in_ok-inputs.inputs c.args.cells.now c.settling.cells c.settling.invariant.looked c.in_ok-inputs.ensures.inputs in
    let all : c.settling.input ≡ c.in_ok-inputs.inputs = omega (arith, c.settling-test.false, c.settling.auto.input-end) in
    settled_cell c.args.child c.in_ok-inputs.inputs c.settling.cells inputs (subst (λ (n : ℕ). AreSettledTo c.settling.cells c.args.child n) all c.settling.invariant.settled)

pub returns-clause-keeps : goal.returns-clause-keeps
returns-clause-keeps g c = λ unspent before. keep_more g.N.Node c.args.child c.args.cells.now c.settling.cells c.settling.invariant.looked before (c.in_ok-inputs.ensures.keeps unspent)
