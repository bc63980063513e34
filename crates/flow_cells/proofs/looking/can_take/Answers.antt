use Rattle.std.proofs.Common.{◌≡◌, ◌∙◌, ◌<◌, true, false, length, nat_lt, Some, sym, ap, arith}
use Rattle.std.specs.Prelude.{slice_get}
use Rattle.flow_cells.specs.declared.parts.InEdge.{InEdge}
use Rattle.flow_cells.specs.Outs.{has_unsent}
use Rattle.flow_cells.specs.Looks.{knows_some}
use Rattle.flow_cells.proofs.OutLaws.{get-here}
use Rattle.flow_cells.proofs.MoveLaws.{some-value}
use Rattle.flow_cells.proofs.SettleLaws.{is-false, is-true}
use Rattle.flow_cells.proofs.looking.can_take.Goals as goal

pub returns-clause-yes : goal.returns-clause-yes
returns-clause-yes g c = λ some.
    let ins = c.args.cell.now.ins.items in
    let i = c.args.input in
    let lt : i < length ins = omega arith in
    let edge = c.index-edge.result.now in
    record {
      edge = edge;
      at = get-here ins i edge lt ∙ ap (λ (e : InEdge). Some e) (sym c.index-edge.ensures);
      knows = ap (λ n. nat_lt 0 n) (sym c.waiting.ensures) ∙ is-true (nat_lt 0 c.waiting.result) some;
      none = sym (ap has_unsent c.deref.ensures.value) ∙ sym c.has_unsent.ensures ∙ c.if-has_unsent.false;
    }

pub returns-clause-no : goal.returns-clause-no
returns-clause-no g c = λ no can.
    let ins = c.args.cell.now.ins.items in
    let i = c.args.input in
    let lt : i < length ins = omega arith in
    let edge = c.index-edge.result.now in
    let at : slice_get ins i ≡ Some edge = get-here ins i edge lt ∙ ap (λ (e : InEdge). Some e) (sym c.index-edge.ensures) in
    let same : can.edge ≡ edge = some-value can.edge edge (sym can.at ∙ at) in
    let yes : knows_some edge ≡ true = ap knows_some (sym same) ∙ can.knows in
    let not : knows_some edge ≡ false = ap (λ n. nat_lt 0 n) (sym c.waiting.ensures) ∙ is-false (nat_lt 0 c.waiting.result) no in
    absurd (true-false (sym yes ∙ not))
  where
    true-false : true ≡ false → ⊥
    true-false e = absurd cc
