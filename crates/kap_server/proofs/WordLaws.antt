-- Words are pairs, and options before them.
use Rattle.std.proofs.Common.{◌≡◌, ℕ, ◌<◌, ◌≤◌, ◌+◌, Bool, true, false, List, [], ◌∷◌, ◌-◌, drop, get_or, length, map, take, refl, sym, ap, ◌∙◌, arith}
use Rattle.std.specs.Prelude.{Some, codes, nat_le, nat_lt}
use Rattle.std.specs.Str.{bytes_eq}
use Rattle.std.proofs.Math.Seq.{take-length}
use Rattle.std.proofs.lemmas.List.{length-drop}
use Rattle.std.proofs.lemmas.Bool.Decides.{nat_tests}
use Rattle.kap_server.specs.declared.options.ReplayOptions.{ReplayOptions}
use Rattle.kap_server.specs.declared.options.WriteOptions.{WriteOptions}
use Rattle.kap_server.specs.Options.{with_counts, with_value, with_write_value}
use Rattle.kap_server.specs.Words.{are_pairs, is_option, pairs_of, replay_request, write_request}

-- ---- how many pairs words are

pub words_of_pairs : (words : List (List ℕ)) → (length (pairs_of words) + length (pairs_of words) ≤ length words) × (length words ≤ 1 + (length (pairs_of words) + length (pairs_of words)))
words_of_pairs [] = (omega arith, omega arith)
words_of_pairs (id ∷ []) = (omega arith, omega arith)
words_of_pairs (id ∷ script ∷ words) =
    let h = words_of_pairs words in
    let a = h.0 in
    let b = h.1 in
    (omega (arith, a), omega (arith, b))

more_than : (n k : ℕ) → k + k ≤ n → n ≤ 1 + (k + k) → nat_le 130 n ≡ nat_lt 64 k
more_than n k low high = by (nat_le 130 n) (nat_lt 64 k) refl refl where
  by : (a b : Bool) → nat_le 130 n ≡ a → nat_lt 64 k ≡ b → a ≡ b
  by true true p q = refl
  by false false p q = refl
  by true false p q =
      let x : 130 ≤ n = grind (arith, nat_tests) in
      let y : k ≤ 64 = grind (arith, nat_tests) in
      absurd (omega (arith, x, y, low, high))
  by false true p q =
      let x : n < 130 = grind (arith, nat_tests) in
      let y : 64 < k = grind (arith, nat_tests) in
      absurd (omega (arith, x, y, low, high))

-- words that are more pairs than there may be
pub many_words : (words : List (List ℕ)) → nat_le 130 (length words) ≡ nat_lt 64 (length (pairs_of words))
many_words words = let h = words_of_pairs words in more_than (length words) (length (pairs_of words)) h.0 h.1

-- one word, or none, is no pair
pub one_word : {A : Type 0} (f : A → List ℕ) (words : List A) → 1 ≤ length words → length words < 2 → are_pairs (map f words) ≡ false
one_word f [] some few = absurd (omega (arith, some))
one_word f (x ∷ []) some few = refl
one_word f (x ∷ y ∷ words) some few = absurd (omega (arith, few))

pub no_pairs : {A : Type 0} (f : A → List ℕ) (words : List A) → length words < 2 → pairs_of (map f words) ≡ []
no_pairs f [] few = refl
no_pairs f (x ∷ []) few = refl
no_pairs f (x ∷ y ∷ words) few = absurd (omega (arith, few))

-- two words and further ones
pair_then : {A : Type 0} (f : A → List ℕ) (words : List A) (x y : A) → 2 ≤ length words → x ≡ get_or words 0 x → y ≡ get_or words 1 y
    → pairs_of (map f words) ≡ record { id = f x; script = f y } ∷ pairs_of (map f (drop 2 words))
pair_then f [] x y some p q = absurd (omega (arith, some))
pair_then f (a ∷ []) x y some p q = absurd (omega (arith, some))
pair_then f (a ∷ b ∷ words) x y some p q = rw (p, q) refl

rest_is : {A : Type 0} (words : List A) → take (length words - 2) (drop 2 words) ≡ drop 2 words
rest_is words = ap (λ n. take n (drop 2 words)) (sym (length-drop 2 words)) ∙ take-length (drop 2 words)

pub pair_first : {A : Type 0} (f : A → List ℕ) (words : List A) (x y : A) → 2 ≤ length words → x ≡ get_or words 0 x → y ≡ get_or words 1 y
    → pairs_of (map f words) ≡ record { id = f x; script = f y } ∷ pairs_of (map f (take (length words - 2) (drop 2 words)))
pair_first f words x y some p q = pair_then f words x y some p q ∙ ap (λ l. record { id = f x; script = f y } ∷ pairs_of (map f l)) (sym (rest_is words))

-- ---- options

module _ (options more : ReplayOptions) (word value : List ℕ) (words : List (List ℕ)) (is : is_option word ≡ true) where
  -- `--counts` stands in front
  pub counts_first : bytes_eq word (codes "--counts") ≡ true → with_counts options ≡ Some more → replay_request options (word ∷ value ∷ words) ≡ replay_request more (value ∷ words)
  counts_first flag given = rw (is, flag, given) refl

  -- another option with its value does
  pub value_first : bytes_eq word (codes "--counts") ≡ false → with_value options word value ≡ Some more → replay_request options (word ∷ value ∷ words) ≡ replay_request more words
  value_first flag given = rw (is, flag, given) refl

-- an option of a write with its value stands in front
pub write_first : (options more : WriteOptions) (word value : List ℕ) (words : List (List ℕ)) → is_option word ≡ true → with_write_value options word value ≡ Some more → write_request options (word ∷ value ∷ words) ≡ write_request more words
write_first options more word value words is given = rw (is, given) refl
