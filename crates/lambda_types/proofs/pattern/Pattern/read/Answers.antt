use Rattle.std.proofs.Common.{◌∙◌}
use Rattle.lambda_types.proofs.pattern.Pattern.read.Goals as goal

pub invariant_of-result : goal.invariant_of-result
invariant_of-result c =
    let text = c.in_ok-text.ensures ∙ c.in_ok-copy.ensures.copy in
    let read = c.in_ok-program_of.ensures in (
      rw c.deref.ensures at c.in_ok-cache.ensures,
      (rw c.in_ok-program.ensures.ok read.whole, (rw (c.in_ok-program.ensures.ok, text) (rw c.as_str.ensures at read.read), tt)),
    )
