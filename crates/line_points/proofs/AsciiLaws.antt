-- ASCII bytes are text.
use Rattle.std.proofs.Common.{◌≡◌, ℕ, zero, suc, ◌<◌, true, List, [], ◌∷◌, get_or, sym, arith}
use Rattle.std.specs.Prelude.{IsUtf8}
use Rattle.std.specs.Char.{is_ascii}
use Rattle.std.specs.List.{list_all}
use Rattle.std.specs.Str.{is_utf8}
use Rattle.std.proofs.lemmas.Bool.{and_parts, ltb-true}
use Rattle.std.proofs.lemmas.Str.{IsUtf8-from_ascii, is_utf8-from_IsUtf8}

each_ascii : (bytes : List ℕ) → list_all is_ascii bytes ≡ true → (i : ℕ) → get_or bytes i 0 < 128
each_ascii [] all i = omega arith
each_ascii (b ∷ bs) all zero = ltb-true _ _ (and_parts _ _ all).0
each_ascii (b ∷ bs) all (suc i) = each_ascii bs (and_parts _ _ all).1 i

pub ascii_is_text : (bytes : List ℕ) → list_all is_ascii bytes ≡ true → IsUtf8 bytes
ascii_is_text bytes all = IsUtf8-from_ascii bytes (each_ascii bytes all)

pub ascii_is_valid : (bytes : List ℕ) → list_all is_ascii bytes ≡ true → true ≡ is_utf8 bytes
ascii_is_valid bytes all = sym (is_utf8-from_IsUtf8 bytes (ascii_is_text bytes all))
