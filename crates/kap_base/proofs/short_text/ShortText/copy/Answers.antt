use Rattle.std.proofs.lemmas.Str.{IsUtf8-from_is_utf8}
use Rattle.kap_base.proofs.short_text.ShortText.copy.Goals as goal

pub returns-clause-utf8 : goal.returns-clause-utf8
returns-clause-utf8 c = IsUtf8-from_is_utf8 _ c.self.invariant.1
