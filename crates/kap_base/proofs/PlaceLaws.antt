-- What a search by halves finds among entries in byte order.
use Rattle.std.proofs.Common.{◌≡◌, ℕ, zero, suc, ◌<◌, ◌≤◌, Bool, true, false, cond, Some, ⊎_elim, List, [], ◌∷◌, length, get_or, Result, Ok, Err, IfOk, IfErr, refl, sym, ap, ◌∙◌, arith, true≢false}
use Rattle.std.specs.declared.cmp.Ordering.{Ordering}
use Rattle.std.specs.declared.cmp.Ordering.TheVariants.{Less, Equal, Greater}
use Rattle.std.specs.Cmp.Lexicographic.{texts_ties}
use Rattle.std.specs.FinMap.{find, is_sorted}
use Rattle.std.specs.FinMap.Entries.{below_all}
use Rattle.std.specs.Ordering.{is_lt, ordering_index, ordering_reverse}
use Rattle.std.specs.Str.{bytes_eq}
use Rattle.std.specs.List.Sorted.{IsSearchInRange, IsBinarySearchResult, IsNonDecreasingBy}
use Rattle.std.proofs.lemmas.Cmp.{nat_list_cmp_total}
use Rattle.std.proofs.lemmas.Bool.{cases_lt}
use Rattle.kap_base.specs.Maps.{byte_order}
use Rattle.kap_base.specs.Places.{StandsAt, WouldStandAt}
use Rattle.kap_base.proofs.TestLaws.{first_of, second_of}

less : (o : Ordering) → is_lt o ≡ true → o ≡ Less
less Less e = refl
less Equal e = absurd (true≢false (sym e))
less Greater e = absurd (true≢false (sym e))

reversed : (a b : List ℕ) (o : Ordering) → byte_order a b ≡ o → byte_order b a ≡ ordering_reverse o
reversed a b o e = nat_list_cmp_total.antisymm b a ∙ ap ordering_reverse e

-- a key that ties with one that stands above `a` stands above `a` too
above : (a b k : List ℕ) → byte_order a b ≡ Less → byte_order b k ≡ Equal → byte_order k a ≡ Greater
above a b k lt tie = sym (nat_list_cmp_total.congr b k a tie) ∙ reversed a b Less lt

index_small : (o : Ordering) → ordering_index o ≤ 2
index_small Less = omega arith
index_small Equal = omega arith
index_small Greater = omega arith

rise : (a b k : List ℕ) → byte_order a b ≡ Less → ordering_index (byte_order a k) ≤ ordering_index (byte_order b k)
rise a b k lt = elim (byte_order b k) as (λ o. byte_order b k ≡ o → ordering_index (byte_order a k) ≤ ordering_index o) [
  | Less ↦ λ e. rw (nat_list_cmp_total.trans a b k lt e) (omega arith)
  | Equal ↦ λ e. rw (reversed k a Greater (above a b k lt e)) (omega arith)
  | Greater ↦ λ e. index_small (byte_order a k)
] refl

module _ {X : Type 0} where
  -- each later entry stands above a key that stands below all of them
  below_at : (x : List ℕ) (es : List (List ℕ × X)) (i : ℕ) (d : List ℕ × X) → below_all byte_order x es ≡ true → i < length es → byte_order x (get_or es i d).0 ≡ Less
  below_at x [] i d h lt = absurd (omega arith)
  below_at x (e ∷ es) zero d h lt = less _ (first_of _ _ h)
  below_at x (e ∷ es) (suc i) d h lt = below_at x es i d (second_of _ _ h) (omega arith)

  keys_rise : (es : List (List ℕ × X)) (i j : ℕ) (d : List ℕ × X) → is_sorted byte_order es ≡ true → i < j → j < length es → byte_order (get_or es i d).0 (get_or es j d).0 ≡ Less
  keys_rise [] i j d h lt within = absurd (omega arith)
  keys_rise (e ∷ es) zero zero d h lt within = absurd (omega arith)
  keys_rise (e ∷ es) zero (suc j) d h lt within = below_at e.0 es j d (first_of _ _ h) (omega arith)
  keys_rise (e ∷ es) (suc i) zero d h lt within = absurd (omega arith)
  keys_rise (e ∷ es) (suc i) (suc j) d h lt within = keys_rise es i j d (second_of _ _ h) (omega arith) (omega arith)

  -- the comparisons with a key rise along entries in order, as a search by halves asks
  comparisons_rise : (es : List (List ℕ × X)) (k : List ℕ) → is_sorted byte_order es ≡ true → IsNonDecreasingBy (λ e. ordering_index (byte_order e.0 k)) es
  comparisons_rise es k h i j d le within = ⊎_elim
      (λ (lt : i < j). rise (get_or es i d).0 (get_or es j d).0 k (keys_rise es i j d h lt within))
      (λ (ge : j ≤ i). let same : i ≡ j = omega arith in rw same (omega arith))
      (cases_lt i j)

  stands : (es : List (List ℕ × X)) (k : List ℕ) (at : ℕ) → is_sorted byte_order es ≡ true → at < length es → ((d : List ℕ × X) → byte_order (get_or es at d).0 k ≡ Equal) → StandsAt k es at
  stands [] k at h lt tie = absurd (omega arith)
  stands (e ∷ es) k zero h lt tie =
      let t : byte_order k e.0 ≡ Equal = reversed e.0 k Equal (tie e) in
      record { within = lt; value = λ d. rw t refl; put = λ v d. rw t refl }
  stands (e ∷ es) k (suc at) h lt tie =
      let r = stands es k at (second_of _ _ h) (omega arith) tie in
      let t : byte_order k e.0 ≡ Greater = above e.0 (get_or es at e).0 k (below_at e.0 es at e (first_of _ _ h) (omega arith)) (tie e) in
      record { within = lt; value = λ d. rw t (r.value d); put = λ v d. rw t (ap (λ (l : List (List ℕ × X)). e ∷ l) (r.put v d)) }

  would_stand : (es : List (List ℕ × X)) (k : List ℕ) (at : ℕ) → at ≤ length es → ((j : ℕ) (d : List ℕ × X) → j < at → byte_order (get_or es j d).0 k ≡ Less) → ((j : ℕ) (d : List ℕ × X) → at ≤ j → j < length es → byte_order (get_or es j d).0 k ≡ Greater) → WouldStandAt k es at
  would_stand [] k zero le below over = record { within = le; value = refl; put = λ v. refl }
  would_stand [] k (suc at) le below over = absurd (omega arith)
  would_stand (e ∷ es) k zero le below over =
      let t : byte_order k e.0 ≡ Less = reversed e.0 k Greater (over 0 e (omega arith) (omega arith)) in
      let r = would_stand es k 0 (omega arith) (λ j d lt. absurd (omega arith)) (λ j d ge lt. over (suc j) d (omega arith) (omega arith)) in
      record { within = le; value = rw t (r.value); put = λ v. rw t refl }
  would_stand (e ∷ es) k (suc at) le below over =
      let t : byte_order k e.0 ≡ Greater = reversed e.0 k Less (below 0 e (omega arith)) in
      let r = would_stand es k at (omega arith) (λ j d lt. below (suc j) d (omega arith)) (λ j d ge lt. over (suc j) d (omega arith) (omega arith)) in
      record { within = le; value = rw t (r.value); put = λ v. rw t (ap (λ (l : List (List ℕ × X)). e ∷ l) (r.put v)) }

  -- what a search by halves ends at
  pub searched : (es : List (List ℕ × X)) (k : List ℕ) (r : Result ℕ ℕ) → is_sorted byte_order es ≡ true → IsSearchInRange r (length es) → IsBinarySearchResult (λ e. byte_order e.0 k) es r → record { stands : IfOk r (λ at. StandsAt k es at); absent : IfErr r (λ at. WouldStandAt k es at) }
  searched es k (Ok at) h within tie = record { stands = stands es k at h within tie; absent = tt }
  searched es k (Err at) h within parted =
      let p = parted (comparisons_rise es k h) in
      record { stands = tt; absent = would_stand es k at within (λ j d lt. p.0 j d (omega arith) lt) (λ j d ge lt. p.1 j d ge lt) }

module _ {V : Type 0} where
  -- what stands at a key, where the first entry has it
  pub first_has : (k : List ℕ) (e : List ℕ × V) (es : List (List ℕ × V)) → bytes_eq k e.0 ≡ true → find byte_order k (e ∷ es) ≡ Some e.1
  first_has k e es same = ap (λ (b : Bool). cond b (Some e.1) (find byte_order k es)) (sym (texts_ties k e.0) ∙ same)

  -- and where it hasn't
  pub first_lacks : (k : List ℕ) (e : List ℕ × V) (es : List (List ℕ × V)) → bytes_eq k e.0 ≡ false → find byte_order k (e ∷ es) ≡ find byte_order k es
  first_lacks k e es other = ap (λ (b : Bool). cond b (Some e.1) (find byte_order k es)) (sym (texts_ties k e.0) ∙ other)
