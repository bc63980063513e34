-- Spaces before and behind the parts of a line.
use Rattle.std.proofs.Common.{◌≡◌, ℕ, zero, suc, true, false, List, [], ◌∷◌, ◌++◌, length, refl, ap, ◌∙◌, arith}
use Rattle.std.specs.List.{list_all, position_or_len}
use Rattle.std.proofs.lemmas.Bool.{eqb-true}
use Rattle.std.proofs.lemmas.Bool.Decides.{nat_tests}
use Rattle.kap_base.specs.Texts.{is_empty, begins_with}
use Rattle.line_points.specs.Parts.{comma, space, begins, is_space, without_spaces, is_at_separator}
use Rattle.line_points.specs.Grammar.{spaces}
use Rattle.kap_base.proofs.TestLaws.{first_of, second_of}

pub record AfterSpaces (bytes : List ℕ) : Type 0 where
  pub count : ℕ
  pub is : bytes ≡ spaces count ++ without_spaces bytes

-- the bytes are some spaces and what stands behind them
pub after_spaces : (bytes : List ℕ) → AfterSpaces bytes
after_spaces [] = record { count = 0; is = refl }
after_spaces (b ∷ bs) =
    elim (is_space b) as (λ s. is_space b ≡ s → AfterSpaces (b ∷ bs)) [
      | true ↦ λ s. one_more b bs s (after_spaces bs)
      | false ↦ λ s. record { count = 0; is = rw s refl }
    ] refl
  where
    one_more : (b : ℕ) (bs : List ℕ) → is_space b ≡ true → AfterSpaces bs → AfterSpaces (b ∷ bs)
    one_more b bs s more =
        let same : b ≡ space = eqb-true _ _ s in
        record { count = suc more.count; is = rw s (ap (λ (x : ℕ). x ∷ bs) same ∙ ap (λ (x : List ℕ). space ∷ x) more.is) }

pub spaces_skipped : (n : ℕ) (bytes : List ℕ) → begins is_space bytes ≡ false → without_spaces (spaces n ++ bytes) ≡ bytes
spaces_skipped zero [] h = refl
spaces_skipped zero (b ∷ bs) h = rw h refl
spaces_skipped (suc n) bytes h = spaces_skipped n bytes h

pub only_spaces : (n : ℕ) → without_spaces (spaces n) ≡ []
only_spaces zero = refl
only_spaces (suc n) = only_spaces n

pub are_spaces : (n : ℕ) → list_all is_space (spaces n) ≡ true
are_spaces zero = refl
are_spaces (suc n) = are_spaces n

pub spaces_are : (bytes : List ℕ) → list_all is_space bytes ≡ true → bytes ≡ spaces (length bytes)
spaces_are [] all = refl
spaces_are (b ∷ bs) all =
    let same : b ≡ space = eqb-true _ _ (first_of (is_space b) _ all) in
    ap (λ (x : ℕ). x ∷ bs) same ∙ ap (λ (x : List ℕ). space ∷ x) (spaces_are bs (second_of (is_space b) _ all))

pub some_before : (bytes : List ℕ) → is_empty (without_spaces bytes) ≡ false → is_empty bytes ≡ false
some_before [] some = some
some_before (b ∷ bs) some = refl

pub record BehindSpaces (bytes : List ℕ) : Type 0 where
  pub more : ℕ
  pub is : bytes ≡ space ∷ (spaces more ++ without_spaces bytes)

-- what stands behind a part, where no comma and not the end comes next: one space or more first
pub behind_spaces : (bytes : List ℕ) → is_at_separator bytes ≡ true → begins_with comma bytes ≡ false → is_empty bytes ≡ false → BehindSpaces bytes
behind_spaces [] next none some = absurd cc
behind_spaces (b ∷ bs) next none some =
    let s : is_space b ≡ true = grind (arith, nat_tests) in
    let same : b ≡ space = eqb-true _ _ s in
    let more = after_spaces bs in
    record { more = more.count; is = rw s (ap (λ (x : ℕ). x ∷ bs) same ∙ ap (λ (x : List ℕ). space ∷ x) more.is) }

-- a word that ends where spaces begin, or nothing
pub place_end : (n : ℕ) → position_or_len is_space (spaces n) ≡ 0
place_end zero = refl
place_end (suc n) = refl
