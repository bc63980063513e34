use Rattle.std.proofs.Common.{◌≡◌, drop, length}
use Rattle.effect_text.proofs.PieceLaws.{ToldTo}
use Rattle.effect_text.specs.Pieces.{PieceValue, Tells, behind_with, front_with, pieces_in}
use Rattle.effect_text.proofs.merging.put_some.Given as goal

-- of the pieces that have the stamp some were told, and what is behind them is left
abbrev pub invariant-putting : goal.invariant-putting
invariant-putting l = record {
  told : ToldTo (λ (ps : _). Tells l.initial.topics l.initial.text l.topics l.text ps) (front_with (λ (p : PieceValue). p.stamp) l.stamp (pieces_in (drop l.fn.start l.lines) (drop l.fn.next l.pieces))) (front_with (λ (p : PieceValue). p.stamp) l.stamp (pieces_in (drop l.start l.lines) (drop l.next l.pieces)));
  behind : behind_with (λ (p : PieceValue). p.stamp) l.stamp (pieces_in (drop l.fn.start l.lines) (drop l.fn.next l.pieces)) ≡ behind_with (λ (p : PieceValue). p.stamp) l.stamp (pieces_in (drop l.start l.lines) (drop l.next l.pieces));
}

abbrev pub decreases-putting : goal.decreases-putting
decreases-putting l = length (drop l.next l.pieces)
