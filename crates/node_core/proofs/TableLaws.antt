-- Entries whose keys differ, in any order, as the map that they make.
use Rattle.std.proofs.Common.{◌≡◌, ℕ, suc, ◌+◌, ◌<◌, ◌≤◌, Bool, true, false, cond, ◌&&◌, T, List, [], ◌∷◌, map, length, get_or, Some, None, refl, sym, ap, subst, ◌∙◌, arith, true≢false}
use Rattle.std.specs.Prelude.{IsPermutation, IsSortedBy}
use Rattle.std.specs.declared.cmp.Ordering.{Ordering}
use Rattle.std.specs.declared.cmp.Ordering.TheVariants.{Less, Equal, Greater}
use Rattle.std.specs.FinMap.{FinMap, find, is_sorted, entries, get, insert, from_sorted, from_entries, get-from_entries, get-from_sorted, get-insert, entries-from_sorted, same_map, slice_cmp-IsAntisymmetric, nat_cmp-IsAntisymmetric}
use Rattle.std.specs.FinMap.Entries.{below_all}
use Rattle.std.specs.Ordering.{is_lt, is_eq, ordering_reverse}
use Rattle.std.specs.Cmp.Lexicographic.{bytes_decides, nat_list_cmp_total, nat_list_eq_equiv, texts_ties}
use Rattle.std.specs.List.{IsDistinct, AllByRecursion}
use Rattle.std.specs.Map.{keys_of, lookup, update_all}
use Rattle.std.specs.Str.{bytes_eq}
use Rattle.std.proofs.lemmas.List.Sorted.{Contains-permutation, IsPermutation-map, IsPermutation-sym}
use Rattle.std.proofs.lemmas.Map.Keys.{IsDistinct-IsPermutation, IsDistinct-cons, IsDistinct-head, IsDistinct-tail}
use Rattle.std.proofs.lemmas.Map.Made.{update_all_none}
use Rattle.std.proofs.lemmas.Map.Views.{Contains-from_lookup, lookup-from_Contains}
use Rattle.kap_base.specs.Maps.{byte_order}
use Rattle.kap_base.proofs.ManyLaws.{rises_step}

-- ---- orders

strict : (o : Ordering) → is_lt (ordering_reverse o) ≡ false → is_eq o ≡ false → is_lt o ≡ true
strict Less below tie = refl
strict Equal below tie = absurd (true≢false tie)
strict Greater below tie = absurd (true≢false below)

not_tied : (o : Ordering) → T (is_lt o) → is_eq o ≡ false
not_tied Less h = refl
not_tied Equal h = absurd h
not_tied Greater h = absurd h

first : (a b : Bool) → T (a && b) → T a
first true b h = tt
first false b h = absurd h

second : (a b : Bool) → T (a && b) → T b
second true b h = h
second false b h = absurd h

same_text : (x y : List ℕ) → bytes_eq x y ≡ true → x ≡ y
same_text x y h = (bytes_decides x y).0 h

module _ {X : Type 0} where
  -- ---- what stands at a key

  same : (m n : FinMap byte_order X) → ((q : List ℕ) → get m q ≡ get n q) → m ≡ n
  same m n h = same_map nat_list_cmp_total (slice_cmp-IsAntisymmetric nat_cmp-IsAntisymmetric) m n h

  pub find-lookup : (q : List ℕ) (es : List (List ℕ × X)) → find byte_order q es ≡ lookup (bytes_eq q) es
  find-lookup q [] = refl
  find-lookup q (e ∷ es) = λ i. cond (sym (texts_ties q e.0) i) (Some e.1) (find-lookup q es i)

  pub get-lookup : (es : List (List ℕ × X)) (q : List ℕ) → get (from_entries {R = byte_order} es) q ≡ lookup (bytes_eq q) es
  get-lookup es q = get-from_entries nat_list_cmp_total es q ∙ find-lookup q es

  -- entries that have a value at one key, and at each other key what others have
  pub put_at : (old new : List (List ℕ × X)) (k : List ℕ) (v : X) → ((q : List ℕ) → lookup (bytes_eq q) new ≡ cond (bytes_eq k q) (Some v) (lookup (bytes_eq q) old))
      → from_entries {R = byte_order} new ≡ insert (from_entries old) k v
  put_at old new k v h = same _ _ (λ q.
      get-lookup new q ∙ h q
      ∙ (λ i. cond ((nat_list_eq_equiv.symm k q ∙ texts_ties q k) i) (Some v) (sym (get-lookup old q) i))
      ∙ sym (get-insert nat_list_cmp_total (from_entries old) k v q))

  -- ---- in the order of the keys

  -- of what is shown as entries, in an order of their keys that may have ties
  strictly_rise : {A : Type 0} (f : A → List ℕ × X) (xs : List A) → IsSortedBy (λ x y. is_lt (byte_order (f x).0 (f y).0)) xs → IsDistinct bytes_eq (keys_of (map f xs)) → T (is_sorted byte_order (map f xs))
  strictly_rise f [] sorted distinct = tt
  strictly_rise f (x ∷ []) sorted distinct = tt
  strictly_rise {A} f (x ∷ y ∷ xs) sorted distinct =
      let above : is_lt (ordering_reverse (byte_order (f x).0 (f y).0)) ≡ false = ap is_lt (sym (nat_list_cmp_total.antisymm (f y).0 (f x).0)) ∙ sorted 0 x (omega arith) (omega arith) in
      let apart : is_eq (byte_order (f x).0 (f y).0) ≡ false = sym (texts_ties (f x).0 (f y).0) ∙ (IsDistinct-head bytes_eq (f x).0 (keys_of (map f (y ∷ xs))) distinct).0 in
      let later = λ (k : ℕ) (d : A) (low : 0 ≤ k) (high : k + 1 < length (y ∷ xs)).
      let next : suc k + 1 ≡ suc (k + 1) = omega arith in
      subst (λ n. is_lt (byte_order (f (get_or (x ∷ y ∷ xs) n d)).0 (f (get_or (y ∷ xs) k d)).0) ≡ false) next (sorted (suc k) d (omega arith) (omega arith)) in
      let rest = strictly_rise f (y ∷ xs) later (IsDistinct-tail bytes_eq (f x).0 (keys_of (map f (y ∷ xs))) distinct) in
      subst T (rises_step (f x) (map f (y ∷ xs)) (strict _ above apart)) rest

  apart_below : (x : List ℕ) (es : List (List ℕ × X)) → T (below_all byte_order x es) → AllByRecursion (λ y. bytes_eq x y ≡ false) (keys_of es)
  apart_below x [] h = tt
  apart_below x (e ∷ es) h = (texts_ties x e.0 ∙ not_tied _ (first _ _ h), apart_below x es (second _ _ h))

  differ : (es : List (List ℕ × X)) → T (is_sorted byte_order es) → IsDistinct bytes_eq (keys_of es)
  unfolding IsDistinct
  differ [] h = tt
  differ (e ∷ es) h = IsDistinct-cons bytes_eq e.0 (keys_of es) (apart_below e.0 es (first _ _ h)) (differ es (second _ _ h))

  found : (es fs : List (List ℕ × X)) → IsPermutation es fs → IsDistinct bytes_eq (keys_of fs) → (q : List ℕ) (v : X) → lookup (bytes_eq q) es ≡ Some v → lookup (bytes_eq q) fs ≡ Some v
  found es fs permuted distinct q v h = lookup-from_Contains nat_list_eq_equiv q v fs distinct (Contains-permutation es fs (q, v) permuted (Contains-from_lookup same_text q v es h))

  lookup-permuted : (es fs : List (List ℕ × X)) → IsPermutation es fs → IsDistinct bytes_eq (keys_of es) → IsDistinct bytes_eq (keys_of fs) → (q : List ℕ) → lookup (bytes_eq q) fs ≡ lookup (bytes_eq q) es
  lookup-permuted es fs permuted one other q =
      elim (lookup (bytes_eq q) es) as (λ o. lookup (bytes_eq q) es ≡ o → lookup (bytes_eq q) fs ≡ o) [
        | Some v ↦ λ h. found es fs permuted other q v h
        | None ↦ λ h. elim (lookup (bytes_eq q) fs) as (λ r. lookup (bytes_eq q) fs ≡ r → r ≡ None) [
          | Some w ↦ λ g. sym (found fs es (IsPermutation-sym es fs permuted) one q w g) ∙ h
          | None ↦ λ g. refl
        ] refl
      ] refl

  -- what is shown as entries, in the order of their keys, is shown as those of the map
  pub in_order : {A : Type 0} (f : A → List ℕ × X) (es : List (List ℕ × X)) (xs order : List A) → IsDistinct bytes_eq (keys_of es) → map f xs ≡ es → IsPermutation xs order
      → IsSortedBy (λ x y. is_lt (byte_order (f x).0 (f y).0)) order → map f order ≡ entries (from_entries {R = byte_order} es)
  in_order f es xs order distinct shown permuted sorted =
      let moved : IsPermutation es (map f order) = subst (λ l. IsPermutation l (map f order)) shown (IsPermutation-map f xs order permuted) in
      let other = IsDistinct-IsPermutation bytes_eq nat_list_eq_equiv.symm (keys_of es) (keys_of (map f order)) (IsPermutation-map (λ (e : List ℕ × X). e.0) es (map f order) moved) distinct in
      let rise = strictly_rise f order sorted other in
      sym (entries-from_sorted byte_order (map f order) rise)
      ∙ ap entries (same (from_sorted (map f order)) (from_entries es) (λ q.
      get-from_sorted byte_order (map f order) q rise ∙ find-lookup q (map f order) ∙ lookup-permuted es (map f order) moved distinct other q ∙ sym (get-lookup es q)))

  -- entries that were put one after the other, where the keys rose
  pub put_rising : (es new : List (List ℕ × X)) → T (is_sorted byte_order es) → ((q : List ℕ) → lookup (bytes_eq q) new ≡ update_all bytes_eq (λ _. None) es q) → from_entries {R = byte_order} new ≡ from_sorted es
  put_rising es new rise h = same _ _ (λ q.
      get-lookup new q ∙ h q ∙ update_all_none nat_list_eq_equiv bytes_eq (λ x y. refl) es q (differ es rise)
      ∙ sym (find-lookup q es) ∙ sym (get-from_sorted byte_order es q rise))
