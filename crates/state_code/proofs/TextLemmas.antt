-- A byte string is a text exactly where it is UTF-8.
use Rattle.std.proofs.Common.{◌≡◌, Bool, true, false, List, ℕ, None, refl}
use Rattle.std.specs.Prelude.{IsUtf8}
use Rattle.std.specs.Str.{is_utf8}
use Rattle.std.proofs.lemmas.Str.{IsUtf8-from_is_utf8, is_utf8-from_IsUtf8}
use Rattle.state_code.specs.Spelling.{value_then, read_bytes}
use Rattle.state_code.specs.Texts.{read_text}

pub text_reads : (bytes text rest : List ℕ) → read_bytes bytes ≡ value_then text rest → IsUtf8 text → read_text bytes ≡ value_then text rest
text_reads bytes text rest reads utf8 = rw (reads, is_utf8-from_IsUtf8 text utf8) refl

fails : (test : Bool) → ¬ (test ≡ true) → test ≡ false
fails true other = absurd (other refl)
fails false other = refl

pub no_text : (bytes text rest : List ℕ) → read_bytes bytes ≡ value_then text rest → ¬ (IsUtf8 text) → read_text bytes ≡ None
no_text bytes text rest reads other = rw (reads, fails (is_utf8 text) (λ e. other (IsUtf8-from_is_utf8 text e))) refl

pub tests_as_utf8 : (text : List ℕ) → IsUtf8 text → is_utf8 text ≡ true
tests_as_utf8 text utf8 = is_utf8-from_IsUtf8 text utf8
