use Rattle.lambda_types.proofs.pattern.PatternDuplicate.copy.Goals as goal

pub invariant_of-result : goal.invariant_of-result
invariant_of-result c = (
  rw c.deref.ensures at c.in_ok-cache.ensures,
  (rw c.in_ok-program.ensures c.self.inside.whole_characters, (rw (c.in_ok-program.ensures, c.in_ok-text.ensures) c.self.inside.as_written, tt)),
)
