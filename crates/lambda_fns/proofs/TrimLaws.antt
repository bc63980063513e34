-- White space is what std means by it.
use Rattle.std.proofs.Common.{◌≡◌, ℕ, List, [], ◌∷◌, refl, arith}
use Rattle.std.proofs.lemmas.Bool.Decides.{nat_tests}
use Rattle.std.specs.Char.{is_whitespace}
use Rattle.std.specs.Str.{chars, encode_utf8_all, trim, trim_start, trim_end, skip_leading_whitespace, drop_trailing_whitespace}
use Rattle.lambda_fns.specs.Texts.{is_space, past_spaces, up_to_spaces, trimmed}

is_space_is : (c : ℕ) → is_space c ≡ is_whitespace c
is_space_is c = grind (arith, nat_tests)

past_spaces_is : (cs : List ℕ) → past_spaces cs ≡ skip_leading_whitespace cs
past_spaces_is [] = refl
past_spaces_is (c ∷ cs) = rw (is_space_is c, past_spaces_is cs) refl

up_to_spaces_is : (cs : List ℕ) → up_to_spaces cs ≡ drop_trailing_whitespace cs
up_to_spaces_is [] = refl
up_to_spaces_is (c ∷ cs) = rw (is_space_is c, up_to_spaces_is cs) refl

pub trimmed_is : (s : List ℕ) → trim s ≡ trimmed s
unfolding trim_start trim_end
trimmed_is s = rw (past_spaces_is (chars s), up_to_spaces_is (chars (encode_utf8_all (skip_leading_whitespace (chars s))))) refl
