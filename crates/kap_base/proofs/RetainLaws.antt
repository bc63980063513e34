-- Maps without some keys, and tests that hold of what is left.
use Rattle.std.proofs.Common.{◌≡◌, ℕ, Bool, true, false, cond, T, List, [], ◌∷◌, refl, sym, ap, ◌∙◌}
use Rattle.std.specs.Prelude.{◌&&◌, filter, IsTrue, None}
use Rattle.std.specs.List.{list_all}
use Rattle.std.specs.declared.cmp.Ordering.TheVariants.{Equal}
use Rattle.std.specs.FinMap.{empty, entries, entries_sorted, entries-from_sorted, from_sorted, get-entries, get-from_sorted, get-retain_keys, is_sorted, nat_cmp-IsAntisymmetric, retain_keys, same_entries_map, same_map, slice_cmp-IsAntisymmetric}
use Rattle.std.specs.FinMap.Entries.{find-where_key, is_sorted-where_key, where_key}
use Rattle.std.proofs.lemmas.Cmp.{nat_list_cmp_total}
use Rattle.kap_base.specs.Maps.{KeyMap, byte_order, with_entries}
use Rattle.kap_base.proofs.ManyLaws.{rising}
use Rattle.kap_base.proofs.TestLaws.{both, first_of, second_of}

-- texts that tie are equal
alike : (p : List ℕ → Bool) (q x : List ℕ) → byte_order q x ≡ Equal → p x ≡ p q
alike p q x e = ap p (sym (slice_cmp-IsAntisymmetric nat_cmp-IsAntisymmetric q x e))

module _ {X : Type 0} (p : List ℕ → Bool) where
  kept_sorted : (m : KeyMap X) → T (is_sorted byte_order (where_key byte_order p (entries m)))
  kept_sorted m = is_sorted-where_key byte_order p (entries m) (entries_sorted m)

  retained : (m : KeyMap X) → from_sorted (where_key byte_order p (entries m)) ≡ retain_keys m p
  retained m = same_map nat_list_cmp_total (slice_cmp-IsAntisymmetric nat_cmp-IsAntisymmetric) _ _ (λ q.
      get-from_sorted byte_order (where_key byte_order p (entries m)) q (kept_sorted m)
      ∙ find-where_key byte_order p q (alike p q) (entries m)
      ∙ ap (λ o. cond (p q) o None) (sym (get-entries m q))
      ∙ sym (get-retain_keys m p q (alike p q)))

  pub entries-retained : (m : KeyMap X) → entries (retain_keys m p) ≡ filter (λ e. p e.0) (entries m)
  entries-retained m = ap entries (sym (retained m)) ∙ entries-from_sorted byte_order (where_key byte_order p (entries m)) (kept_sorted m)

  -- the map of the entries that are left
  pub left_of : (m : KeyMap X) (es : List (List ℕ × X)) → es ≡ filter (λ e. p e.0) (entries m) → with_entries empty es ≡ retain_keys m p
  left_of m es is = ap (with_entries empty) is ∙ sym (rising (where_key byte_order p (entries m)) (kept_sorted m)) ∙ retained m

  all_stay : (es : List (List ℕ × X)) → list_all (λ e. p e.0) es ≡ true → filter (λ e. p e.0) es ≡ es
  all_stay [] h = refl
  all_stay (e ∷ es) h = elim (p e.0) as (λ b. (b && list_all (λ e. p e.0) es) ≡ true → cond b (e ∷ filter (λ e. p e.0) es) (filter (λ e. p e.0) es) ≡ e ∷ es) [
    | true ↦ λ h. ap (λ l. e ∷ l) (all_stay es h)
    | false ↦ λ h. absurd cc
  ] h

  -- a map from which nothing goes
  pub nothing_goes : (m : KeyMap X) → list_all (λ e. p e.0) (entries m) ≡ true → m ≡ retain_keys m p
  nothing_goes m h = same_entries_map m (retain_keys m p) (sym (entries-retained m ∙ all_stay (entries m) h))

-- ---- tests of what is left

pub all_left : {A : Type 0} (t p : A → Bool) (xs : List A) → IsTrue (list_all t xs) → IsTrue (list_all t (filter p xs))
all_left t p [] h = refl
all_left t p (x ∷ xs) h =
    let rest = all_left t p xs (second_of (t x) (list_all t xs) h) in
    elim (p x) as (λ b. IsTrue (list_all t (cond b (x ∷ filter p xs) (filter p xs)))) [
      | true ↦ both (t x) (list_all t (filter p xs)) (first_of (t x) (list_all t xs) h) rest
      | false ↦ rest
    ]
