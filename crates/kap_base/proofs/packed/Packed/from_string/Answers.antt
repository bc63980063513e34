use Rattle.std.proofs.lemmas.Str.{IsUtf8-string_bytes}
use Rattle.kap_base.proofs.packed.Packed.from_string.Goals as goal

pub returns-clause-utf8 : goal.returns-clause-utf8
returns-clause-utf8 c = rw c.long_text.ensures (IsUtf8-string_bytes c.args.string)
