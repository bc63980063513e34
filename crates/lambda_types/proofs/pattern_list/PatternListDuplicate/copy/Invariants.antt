use Rattle.std.proofs.Common.{◌≡◌, take}
use Rattle.lambda_types.proofs.pattern_list.PatternListDuplicate.copy.Given as goal

-- what was passed is copied
abbrev pub invariant-copying : goal.invariant-copying
invariant-copying l = l.patterns.items ≡ take l.pattern-index l.self
