use Rattle.std.proofs.Common.{◌-◌}
use Rattle.effect_text.proofs.PieceLaws.{ToldTo}
use Rattle.effect_text.specs.Pieces.{PieceValue, Tells, merged}
use Rattle.effect_text.proofs.merging.put_merged.Given as goal

-- of the pieces with all stamps those with some were told
abbrev pub invariant-merging : goal.invariant-merging
invariant-merging l =
    ToldTo (λ (ps : _). Tells l.initial.topics l.initial.text l.topics l.text ps) (merged (λ (p : PieceValue). p.stamp) l.from l.count l.fn.parts) (merged (λ (p : PieceValue). p.stamp) l.stamp (l.count - l.counter) l.parts)
