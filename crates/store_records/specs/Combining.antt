-- Spellings whose second part depends on the first, and of values that only some spellings stand for.
use Rattle.std.proofs.Common.{◌≡◌, ℕ, List, ◌++◌, Option, Some, None, refl, sym, ap, subst, ◌∙◌, append_assoc}
use Rattle.state_code.specs.Spelling.{IsBytes, IsSpelling, Reading, Stands, read_then, value_then}
use Rattle.kap_base.proofs.ResultLaws.{same_pair}

-- a value, and behind it one that is read by the first
abbrev pub read_behind : {A B : Type 0} → Reading A → (A → Reading B) → Reading (A × B)
read_behind a b bytes = read_then (a bytes) (λ x rest. read_then (b x rest) (λ y rest. value_then (x, y) rest))

-- what was found, and the bytes behind it, or None where nothing was
abbrev pub found_then : {B : Type 0} → Option B → List ℕ → Option (B × List ℕ)
found_then None rest = None
found_then (Some y) rest = value_then y rest

-- what a value stands for, if it stands for something
abbrev pub read_some : {A B : Type 0} → (A → Option B) → Reading A → Reading B
read_some f a bytes = read_then (a bytes) (λ x rest. found_then (f x) rest)

-- the first part of a reading that succeeds
pub record Parted {A B : Type 0} (r : Option (A × List ℕ)) (f : A → List ℕ → Option (B × List ℕ)) (y : B
    × List ℕ) : Type 0 where
  pub value : A
  pub rest : List ℕ
  pub first : r ≡ Some (value, rest)
  pub second : f value rest ≡ Some y

-- a reading that succeeds has a first part, and then the rest of it
pub parted : {A B : Type 0} (r : Option (A × List ℕ)) (f : A → List ℕ → Option (B × List ℕ)) (y : B × List ℕ)
    → read_then r f ≡ Some y → Parted r f y
parted None f y e = absurd cc
parted (Some r) f y e = record { value = r.0; rest = r.1; first = refl; second = e }

-- values that are read with the same bytes behind them stand at the same place
pub stands_at : {A : Type 0} {Fits : A → Type 0} {spell : A → List ℕ} (bytes : List ℕ) (x y : A) (r t : List ℕ)
    → value_then x r ≡ value_then y t → Stands Fits spell bytes x r → Stands Fits spell bytes y t
stands_at {A = A} {Fits = Fits} {spell = spell} bytes x y r t e stands =
    let both = same_pair {A = A} (x, r) (y, t) e in
    subst (λ z. Stands Fits spell bytes z t) (ap (λ (p : A × List ℕ). p.0) both)
    (subst (λ z. Stands Fits spell bytes x z) (ap (λ (p : A × List ℕ). p.1) both) stands)

module _ {A B : Type 0} {FitsA : A → Type 0} {spell_a : A → List ℕ} {read_a : Reading A}
    (a : IsSpelling FitsA spell_a read_a) (FitsB : A → B → Type 0) (spell_b : B → List ℕ) (read_b : A → Reading B)
    (b : (x : A) → IsSpelling (FitsB x) spell_b (read_b x)) where
  behind_only : (bytes : List ℕ) (p : A × B) (rest : List ℕ) → IsBytes bytes
      → read_behind read_a read_b bytes ≡ value_then p rest
      → Stands (λ p. FitsA p.0 × FitsB p.0 p.1) (λ p. spell_a p.0 ++ spell_b p.1) bytes p rest
  behind_only bytes p rest fits e =
      let one = parted (read_a bytes) (λ x rest. read_then (read_b x rest) (λ y rest. value_then (x, y) rest))
      (p, rest) e in
      let two = parted (read_b one.value one.rest) (λ y rest. value_then (one.value, y) rest) (p, rest) one.second in
      let first = a.only bytes one.value one.rest fits one.first in
      let second = (b one.value).only one.rest two.value two.rest first.rest_bytes two.first in
      stands_at bytes (one.value, two.value) p two.rest rest two.second (record {
        fits = (first.fits, second.fits);
        parts = first.parts ∙ ap (λ (t : List ℕ). spell_a one.value ++ t) second.parts
            ∙ sym (append_assoc (spell_a one.value) (spell_b two.value) two.rest);
        rest_bytes = second.rest_bytes;
      })

  -- two values of which the second depends on the first are spelled one behind the other
  pub behind_spelled : IsSpelling (λ p. FitsA p.0 × FitsB p.0 p.1) (λ p. spell_a p.0 ++ spell_b p.1)
      (read_behind read_a read_b)
  behind_spelled = record {
    again = λ p rest fits. rw
        (append_assoc, a.again p.0 (spell_b p.1 ++ rest) fits.0, (b p.0).again p.1 rest fits.1) refl;
    only = behind_only;
  }

found_value : {B : Type 0} (o : Option B) (rest : List ℕ) (y : B) (t : List ℕ) → found_then o rest ≡ value_then y t
    → (o ≡ Some y) × (rest ≡ t)
found_value None rest y t e = absurd cc
found_value {B = B} (Some x) rest y t e =
    let both = same_pair {A = B} (x, rest) (y, t) e in
    (ap (λ (p : B × List ℕ). Some p.0) both, ap (λ (p : B × List ℕ). p.1) both)

module _ {A B : Type 0} {FitsA : A → Type 0} {spell_a : A → List ℕ} {read_a : Reading A}
    (a : IsSpelling FitsA spell_a read_a) (FitsB : B → Type 0) (f : A → Option B) (g : B → A) (there : (y : B) → FitsB y
    → FitsA (g y) × (f (g y) ≡ Some y)) (back : (x : A) (y : B) → FitsA x → f x ≡ Some y → FitsB y × (g y ≡ x)) where
  some_only : (bytes : List ℕ) (y : B) (rest : List ℕ) → IsBytes bytes → read_some f read_a bytes ≡ value_then y rest
      → Stands FitsB (λ y. spell_a (g y)) bytes y rest
  some_only bytes y rest fits e =
      let one = parted (read_a bytes) (λ x rest. found_then (f x) rest) (y, rest) e in
      let found = found_value (f one.value) one.rest y rest one.second in
      let first = a.only bytes one.value one.rest fits one.first in
      let same = back one.value y first.fits found.0 in
      record {
        fits = same.0;
        parts = first.parts ∙ ap (λ (t : List ℕ). spell_a one.value ++ t) found.1
            ∙ ap (λ (x : A). spell_a x ++ rest) (sym same.1);
        rest_bytes = subst IsBytes found.1 first.rest_bytes;
      }

  -- values are spelled as what stands for them is
  pub some_spelled : IsSpelling FitsB (λ y. spell_a (g y)) (read_some f read_a)
  some_spelled = record {
    again = λ y rest fits. rw (a.again (g y) rest (there y fits).0, (there y fits).1) refl;
    only = some_only;
  }
