use Rattle.std.proofs.Common.{◌≡◌, [], ◌∷◌, sym, ap}
use Rattle.std.proofs.lemmas.Result.{on_ok_weaker}
use Rattle.merge_node.specs.Looking.{looked}
use Rattle.merge_node.proofs.FrontLaws.{looked_empty}
use Rattle.flow_cells.specs.HandledLaws.{Handles-alone}
use Rattle.flow_cells.proofs.reacting.handle.Goals as goal

pub returns-then-is_clear-clause-stuck : goal.returns-then-is_clear-clause-stuck
returns-then-is_clear-clause-stuck g c =
    let clear : c.args.buffer.now ≡ [] ∷ [] = c.is_clear.ensures.0 c.if-is_clear.true in
    on_ok_weaker c.react.result (λ _. looked_empty c.args.buffer.now (sym (ap looked clear))) c.react.ensures.outs

pub returns-then-is_clear-clause-handles : goal.returns-then-is_clear-clause-handles
returns-then-is_clear-clause-handles g c =
    let clear : c.args.buffer.now ≡ [] ∷ [] = c.is_clear.ensures.0 c.if-is_clear.true in
    on_ok_weaker c.react.result
    (Handles-alone g.N.Node c.args.core.now c.react.new.self c.args.buffer.now c.args.input c.args.msg clear c.requires.within c.react.ensures.spec c.react.ensures.keeps)
    c.react.ensures.reacts
