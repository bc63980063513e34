use Rattle.std.proofs.Common.{List, ℕ, ap, sym, ◌∙◌}
use Rattle.tick_lexer.specs.Bytes.{starts_three}
use Rattle.tick_lexer.proofs.Scans.{three_later}
use Rattle.tick_lexer.proofs.quote.before_three.Goals as goal

pub bytes-preserved : goal.bytes-preserved
bytes-preserved c =
    sym (three_later c.args.text.now c.bytes.index c.bytes-test.true (ap (λ (l : List ℕ). starts_three l) (sym c.split_at.ensures.back) ∙ sym c.starts_three.ensures ∙ c.if-starts_three.false)) ∙ c.bytes.invariant
