use Rattle.std.proofs.Common.{[], refl, arith}
use Rattle.std.proofs.lemmas.Str.{is_utf8-from_IsUtf8}
use Rattle.kap_base.proofs.short_text.ShortText.empty.Goals as goal

pub invariant_of-result : goal.invariant_of-result
invariant_of-result c = (omega arith, is_utf8-from_IsUtf8 [] ([], (refl, refl)))
