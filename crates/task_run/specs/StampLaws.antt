-- Laws of lists of what has a stamp.
use Rattle.std.proofs.Common.{◌≡◌, ℕ, zero, suc, ◌≤◌, ◌<◌, ◌==◌, true, false, cond, List, [], ◌∷◌, ◌++◌, refl, sym, ap, ◌∙◌, append-nil, arith}
use Rattle.std.specs.Prelude.{filter, flat_map, nat_le}
use Rattle.std.proofs.lemmas.Bool.Decides.{nat_tests}
use Rattle.std.proofs.lemmas.List.Concat.{flat_map-append}
use Rattle.task_run.specs.Merging.{stamps}
use Rattle.task_run.specs.Stamps.{with_stamp, HaveStamp, StampsUpTo, StampsFrom, StampsRise, IsStream}

module _ {A : Type 0} (stamp_of : A → ℕ) where
  pub up_to_append : (n : ℕ) (xs ys : List A) → StampsUpTo stamp_of n xs → StampsUpTo stamp_of n ys
      → StampsUpTo stamp_of n (xs ++ ys)
  up_to_append n [] ys a b = b
  up_to_append n (x ∷ xs) ys a b = (a.0, up_to_append n xs ys a.1 b)

  pub from_append : (s : ℕ) (xs ys : List A) → StampsFrom stamp_of s xs → StampsFrom stamp_of s ys
      → StampsFrom stamp_of s (xs ++ ys)
  from_append s [] ys a b = b
  from_append s (x ∷ xs) ys a b = (a.0, from_append s xs ys a.1 b)

  pub have_append : (s : ℕ) (xs ys : List A) → HaveStamp stamp_of s xs → HaveStamp stamp_of s ys
      → HaveStamp stamp_of s (xs ++ ys)
  have_append s [] ys a b = b
  have_append s (x ∷ xs) ys a b = (a.0, have_append s xs ys a.1 b)

  pub have_up_to : (n s : ℕ) (xs : List A) → s ≤ n → HaveStamp stamp_of s xs → StampsUpTo stamp_of n xs
  have_up_to n s [] le have = tt
  have_up_to n s (x ∷ xs) le have = let same = have.0 in ((omega arith), have_up_to n s xs le have.1)

  pub have_from : (s t : ℕ) (xs : List A) → s ≤ t → HaveStamp stamp_of t xs → StampsFrom stamp_of s xs
  have_from s t [] le have = tt
  have_from s t (x ∷ xs) le have = let same = have.0 in ((omega arith), have_from s t xs le have.1)

  pub rise_append : (s : ℕ) (xs ys : List A) → HaveStamp stamp_of s xs → StampsFrom stamp_of s ys
      → StampsRise stamp_of ys → StampsRise stamp_of (xs ++ ys)
  rise_append s [] ys have from rising = rising
  rise_append s (x ∷ xs) ys have from rising = (
    rw have.0 (from_append s xs ys (have_from s s xs (omega arith) have.1) from),
    rise_append s xs ys have.1 from rising,
  )

  -- ---- those with a stamp

  pub none_with : (s t : ℕ) (xs : List A) → (t == s) ≡ false → HaveStamp stamp_of t xs → with_stamp stamp_of s xs ≡ []
  none_with s t [] e h = refl
  none_with s t (x ∷ xs) e h = rw (h.0, e) (none_with s t xs e h.1)

  pub all_with : (s : ℕ) (xs : List A) → HaveStamp stamp_of s xs → with_stamp stamp_of s xs ≡ xs
  all_with s [] h = refl
  all_with s (x ∷ xs) h =
      let e = h.0 in
      let same : (stamp_of x == s) ≡ true = grind (arith, nat_tests) in
      rw same (ap (λ (l : List A). x ∷ l) (all_with s xs h.1))

  pub none_above : (s n : ℕ) (xs : List A) → n < s → StampsUpTo stamp_of n xs → with_stamp stamp_of s xs ≡ []
  none_above s n [] e h = refl
  none_above s n (x ∷ xs) e h =
      let low = h.0 in
      let other : (stamp_of x == s) ≡ false = grind (arith, nat_tests) in
      rw other (none_above s n xs e h.1)

  -- ---- all, stamp by stamp

  -- those up to a stamp
  abbrev until : ℕ → List A → List A
  until n xs = filter (λ x. nat_le (stamp_of x) n) xs

  until-none : (n m : ℕ) (xs : List A) → n < m → StampsFrom stamp_of m xs → until n xs ≡ []
  until-none n m [] lt from = refl
  until-none n m (x ∷ xs) lt from =
      let low : m ≤ stamp_of x = from.0 in
      let above : nat_le (stamp_of x) n ≡ false = grind (arith, nat_tests) in
      rw above (until-none n m xs lt from.1)

  until-more : (n : ℕ) (xs : List A) → StampsRise stamp_of xs → until (suc n) xs ≡ until n xs
      ++ with_stamp stamp_of (suc n) xs
  until-more n [] rising = refl
  until-more n (x ∷ xs) rising =
      elim (nat_le (stamp_of x) n) as (λ b. nat_le (stamp_of x) n ≡ b
      → until (suc n) (x ∷ xs) ≡ cond b (x ∷ until n xs) (until n xs) ++ with_stamp stamp_of (suc n) (x ∷ xs)) [
        | true ↦ λ e.
            let low : nat_le (stamp_of x) (suc n) ≡ true = grind (arith, nat_tests) in
            let other : (stamp_of x == suc n) ≡ false = grind (arith, nat_tests) in
            rw (low, other) (ap (λ (l : List A). x ∷ l) (until-more n xs rising.1))
        | false ↦ λ e. elim (stamp_of x == suc n) as (λ b. (stamp_of x == suc n) ≡ b
            → until (suc n) (x ∷ xs) ≡ until n xs
            ++ cond b (x ∷ with_stamp stamp_of (suc n) xs) (with_stamp stamp_of (suc n) xs)) [
              | true ↦ λ f.
                  let low : nat_le (stamp_of x) (suc n) ≡ true = grind (arith, nat_tests) in
                  let above : n < stamp_of x = grind (arith, nat_tests) in
                  let none : until n xs ≡ [] = until-none n (stamp_of x) xs above rising.0 in
                  rw (low, until-more n xs rising.1, none) refl
              | false ↦ λ f.
                  let high : nat_le (stamp_of x) (suc n) ≡ false = grind (arith, nat_tests) in
                  rw high (until-more n xs rising.1)
            ] refl
      ] refl

  by-stamp : (n : ℕ) (xs : List A) → StampsFrom stamp_of 1 xs → StampsRise stamp_of xs
      → flat_map (λ s. with_stamp stamp_of s xs) (stamps n) ≡ until n xs
  by-stamp zero xs from rising = sym (until-none 0 1 xs (omega arith) from)
  by-stamp (suc n) xs from rising =
      flat_map-append (λ s. with_stamp stamp_of s xs) (stamps n) (suc n ∷ [])
      ∙ rw (append-nil, by-stamp n xs from rising) (sym (until-more n xs rising))

  until-all : (n : ℕ) (xs : List A) → StampsUpTo stamp_of n xs → until n xs ≡ xs
  until-all n [] up_to = refl
  until-all n (x ∷ xs) up_to =
      let low = up_to.0 in
      let in' : nat_le (stamp_of x) n ≡ true = grind (arith, nat_tests) in
      rw in' (ap (λ (l : List A). x ∷ l) (until-all n xs up_to.1))

  -- a stream is what has its first stamp, then what has the next one, and so on
  pub stream_by_stamp : (n : ℕ) (xs : List A) → IsStream stamp_of n xs
      → flat_map (λ s. with_stamp stamp_of s xs) (stamps n) ≡ xs
  stream_by_stamp n xs is = by-stamp n xs is.from_one is.rising ∙ until-all n xs is.up_to
