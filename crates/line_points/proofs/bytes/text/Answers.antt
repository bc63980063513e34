use Rattle.std.proofs.Common.{◌≡◌, ℕ, Bool, true, false, List, refl, sym, ◌∙◌}
use Rattle.std.specs.Prelude.{IsUtf8}
use Rattle.std.specs.Str.{is_utf8}
use Rattle.std.proofs.lemmas.Str.{is_utf8-from_IsUtf8, IsUtf8-from_is_utf8}
use Rattle.line_points.proofs.AsciiLaws.{ascii_is_text, ascii_is_valid}
use Rattle.line_points.proofs.bytes.text.Goals as goal

pub from_utf8_unchecked-requires : goal.from_utf8_unchecked-requires
from_utf8_unchecked-requires c = ascii_is_text c.args.line.now (sym c.is_ascii.ensures ∙ c.if-is_ascii.true)

pub returns-then-is_ascii-clause-valid : goal.returns-then-is_ascii-clause-valid
returns-then-is_ascii-clause-valid c = ascii_is_valid c.args.line.now (sym c.is_ascii.ensures ∙ c.if-is_ascii.true)

pub returns-in-Ok-clause-valid : goal.returns-in-Ok-clause-valid
returns-in-Ok-clause-valid c = sym (is_utf8-from_IsUtf8 c.args.line.now c.in-Ok.ensures.cases.1)

not_utf8 : (bytes : List ℕ) (b : Bool) → is_utf8 bytes ≡ b → (IsUtf8 bytes → ⊥) → false ≡ b
not_utf8 bytes true e wrong = absurd (wrong (IsUtf8-from_is_utf8 bytes e))
not_utf8 bytes false e wrong = refl

pub returns-in-Err-clause-valid : goal.returns-in-Err-clause-valid
returns-in-Err-clause-valid c = not_utf8 c.args.line.now (is_utf8 c.args.line.now) refl c.in-Err.ensures.cases.0
