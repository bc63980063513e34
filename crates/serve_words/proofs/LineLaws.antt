-- An option stands in front.
use Rattle.std.proofs.Common.{◌≡◌, ℕ, true, false, List, [], ◌∷◌, Some, refl}
use Rattle.std.specs.Prelude.{codes}
use Rattle.std.specs.Str.{bytes_eq}
use Rattle.serve_words.specs.ServeLines.{seen_in, with_single, with_value}
use Rattle.serve_words.specs.declared.lines.Seen.{Seen}

-- `--single` does
pub single_first : (seen more : Seen) (word : List ℕ) (words : List (List ℕ)) → bytes_eq word (codes "--single") ≡ true
    → with_single seen ≡ Some more → seen_in seen (word ∷ words) ≡ seen_in more words
single_first seen more word [] flag given = rw (flag, given) refl
single_first seen more word (value ∷ words) flag given = rw (flag, given) refl

-- another one with its value does
pub value_first : (seen more : Seen) (word value : List ℕ) (words : List (List ℕ)) → bytes_eq word (codes "--single") ≡ false
    → with_value seen word value ≡ Some more → seen_in seen (word ∷ value ∷ words) ≡ seen_in more words
value_first seen more word value words flag given = rw (flag, given) refl
