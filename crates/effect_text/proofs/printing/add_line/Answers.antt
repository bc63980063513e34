use Rattle.std.proofs.Common.{◌≡◌, ℕ, ◌+◌, ◌-◌, ◌++◌, ◌∷◌, [], List, None, length, ap, ◌∙◌, arith, length-append}
use Rattle.effect_text.proofs.PieceLaws.{cut_more, pieces_more}
use Rattle.effect_text.specs.Lines.{out_line}
use Rattle.effect_text.specs.Pieces.{AreCut, pieces_in}
use Rattle.effect_text.specs.declared.printing.Piece.{Piece}
use Rattle.effect_text.proofs.printing.add_line.Goals as goal

pub returns-clause-cut : goal.returns-clause-cut
returns-clause-cut c =
    let line : List ℕ = out_line c.args.id.now c.args.node.now c.args.point.now in
    let p : Piece = record { stamp = c.args.stamp; size = c.len.result - c.len-start.result; event = None } in
    let long : length c.put_out_line.new.text ≡ length c.args.lines.now + length line = ap length c.in_ok-put_out_line.ensures ∙ length-append c.args.lines.now line in
    let now : c.len.result ≡ length c.put_out_line.new.text = c.len.ensures in
    let was : c.len-start.result ≡ length c.args.lines.now = c.len-start.ensures in
    let size : c.len.result - c.len-start.result ≡ length line = omega (arith, long, now, was) in
    let cut : AreCut (c.args.lines.now ++ line) (c.args.pieces.now.items ++ p ∷ []) = cut_more c.args.lines.now line c.args.pieces.now.items p c.requires.cut size in
    rw (c.in_ok-push.ensures.items, c.in_ok-put_out_line.ensures) cut

pub returns-clause-piece : goal.returns-clause-piece
returns-clause-piece c =
    let line : List ℕ = out_line c.args.id.now c.args.node.now c.args.point.now in
    let p : Piece = record { stamp = c.args.stamp; size = c.len.result - c.len-start.result; event = None } in
    let long : length c.put_out_line.new.text ≡ length c.args.lines.now + length line = ap length c.in_ok-put_out_line.ensures ∙ length-append c.args.lines.now line in
    let now : c.len.result ≡ length c.put_out_line.new.text = c.len.ensures in
    let was : c.len-start.result ≡ length c.args.lines.now = c.len-start.ensures in
    let size : c.len.result - c.len-start.result ≡ length line = omega (arith, long, now, was) in
    ap (λ (ps : List Piece). pieces_in c.put_out_line.new.text ps) c.in_ok-push.ensures.items
    ∙ ap (λ (l : List ℕ). pieces_in l (c.args.pieces.now.items ++ p ∷ [])) c.in_ok-put_out_line.ensures
    ∙ pieces_more c.args.lines.now line c.args.pieces.now.items p c.requires.cut size
