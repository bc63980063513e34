-- A map that is made of a list: what holds of each entry of the list holds of each of its entries, and a map is made of its own.
use Rattle.std.proofs.Common.{◌≡◌, ℕ, ◌+◌, ◌<◌, ◌≤◌, Bool, true, false, cond, ◌&&◌, List, [], ◌∷◌, Some, length, refl, sym, ap, ◌∙◌, subst, arith}
use Rattle.std.specs.Prelude.{IsTrue, nat_lt}
use Rattle.std.specs.List.{list_all}
use Rattle.std.specs.declared.cmp.Ordering.TheVariants.{Less, Equal, Greater}
use Rattle.std.specs.Ordering.{eq_by_cmp, nat_cmp}
use Rattle.std.specs.Cmp.Lexicographic.{slice_cmp}
use Rattle.std.specs.FinMap.{put, entries, empty, insert, len, contains_key, entries-insert, entries_sorted, from_sorted, entries-from_sorted, same_entries_map, len-entries, len-empty, len-insert, find, get, get-entries}
use Rattle.std.specs.FinMap.Entries.{by_order}
use Rattle.std.proofs.lemmas.Bool.Decides.{nat_tests}
use Rattle.std.proofs.lemmas.Cmp.{nat_list_cmp_total}
use Rattle.std.proofs.lemmas.List.{nil_from_length}
use Rattle.kap_base.specs.Maps.{KeyMap, with_entries, byte_order}
use Rattle.kap_base.specs.Points.{are_fields, is_value}
use Rattle.kap_base.specs.Texts.{is_name}
use Rattle.kap_base.specs.declared.value.Value.{Value}
use Rattle.kap_base.proofs.ManyLaws.{rising}
use Rattle.kap_base.proofs.TestLaws.{first_of, second_of, both}

pub no_entries : {V : Type 0} → entries (empty {K = List ℕ} {X = V} {R = byte_order}) ≡ []
no_entries {V} = nil_from_length _ (sym (len-entries empty) ∙ len-empty byte_order V)

module _ {V : Type 0} (f : List ℕ → Bool) (g : V → Bool) where
  all-put : (k : List ℕ) (v : V) (es : List (List ℕ × V)) → f k ≡ true → g v ≡ true → list_all (λ e. f e.0 && g e.1) es ≡ true → list_all (λ e. f e.0 && g e.1) (put (slice_cmp nat_cmp) k v es) ≡ true
  all-put k v [] p q all = rw (p, q) refl
  all-put k v (e ∷ es) p q all =
      let here : (f e.0 && g e.1) ≡ true = first_of _ (list_all (λ e. f e.0 && g e.1) es) all in
      let there : list_all (λ e. f e.0 && g e.1) es ≡ true = second_of (f e.0 && g e.1) _ all in
      elim (slice_cmp nat_cmp k e.0) as (λ o. list_all (λ e. f e.0 && g e.1) (by_order o ((k, v) ∷ e ∷ es) ((e.0, v) ∷ es) (e ∷ put (slice_cmp nat_cmp) k v es)) ≡ true) [
        | Less ↦ both (f k && g v) _ (both (f k) (g v) p q) all
        | Equal ↦ both (f e.0 && g v) _ (both (f e.0) (g v) (first_of (f e.0) (g e.1) here) q) there
        | Greater ↦ both (f e.0 && g e.1) _ here (all-put k v es p q there)
      ]

  all-insert : (m : KeyMap V) (k : List ℕ) (v : V) → f k ≡ true → g v ≡ true → list_all (λ e. f e.0 && g e.1) (entries m) ≡ true → list_all (λ e. f e.0 && g e.1) (entries (insert m k v)) ≡ true
  all-insert m k v p q all = ap (list_all (λ e. f e.0 && g e.1)) (entries-insert nat_list_cmp_total m k v) ∙ all-put k v (entries m) p q all

  all-with : (es : List (List ℕ × V)) (m : KeyMap V) → list_all (λ e. f e.0 && g e.1) es ≡ true → list_all (λ e. f e.0 && g e.1) (entries m) ≡ true → list_all (λ e. f e.0 && g e.1) (entries (with_entries m es)) ≡ true
  all-with [] m each all = all
  all-with (e ∷ es) m each all =
      let here : (f e.0 && g e.1) ≡ true = first_of _ (list_all (λ e. f e.0 && g e.1) es) each in
      all-with es (insert m e.0 e.1) (second_of (f e.0 && g e.1) _ each) (all-insert m e.0 e.1 (first_of (f e.0) (g e.1) here) (second_of (f e.0) (g e.1) here) all)

  pub all-entries : (es : List (List ℕ × V)) → list_all (λ e. f e.0 && g e.1) es ≡ true → list_all (λ e. f e.0 && g e.1) (entries (with_entries empty es)) ≡ true
  all-entries es each = all-with es empty each (ap (list_all (λ e. f e.0 && g e.1)) no_entries)

module _ {V : Type 0} where
  insert_ge : (m : KeyMap V) (k : List ℕ) (v : V) → len m ≤ len (insert m k v)
  insert_ge m k v = rw (len-insert nat_list_cmp_total m k v) (elim (contains_key m k) as (λ b. len m ≤ cond b (len m) (len m + 1)) [ true ↦ omega arith | false ↦ omega arith ])

  with_ge : (es : List (List ℕ × V)) (m : KeyMap V) → len m ≤ len (with_entries m es)
  with_ge [] m = omega arith
  with_ge (e ∷ es) m = omega (arith, insert_ge m e.0 e.1, with_ge es (insert m e.0 e.1))

  put_some : (k : List ℕ) (v : V) (es : List (List ℕ × V)) → 0 < length (put (slice_cmp nat_cmp) k v es)
  put_some k v [] = omega arith
  put_some k v (e ∷ es) =
      elim (slice_cmp nat_cmp k e.0) as (λ o. 0 < length (by_order o ((k, v) ∷ e ∷ es) ((e.0, v) ∷ es) (e ∷ put (slice_cmp nat_cmp) k v es))) [ Less ↦ omega arith | Equal ↦ omega arith | Greater ↦ omega arith ]

  insert_some : (m : KeyMap V) (k : List ℕ) (v : V) → 0 < len (insert m k v)
  insert_some m k v = omega (arith, len-entries (insert m k v), ap length (entries-insert nat_list_cmp_total m k v), put_some k v (entries m))

  pub some_entry : (e : List ℕ × V) (es : List (List ℕ × V)) → nat_lt 0 (len (with_entries empty (e ∷ es))) ≡ true
  some_entry e es =
      let more : 0 < len (with_entries empty (e ∷ es)) = omega (arith, insert_some empty e.0 e.1, with_ge es (insert empty e.0 e.1)) in
      grind (arith, nat_tests)

  -- a map is made of its entries
  pub with_own_entries : (m : KeyMap V) → with_entries empty (entries m) ≡ m
  with_own_entries m = sym (rising (entries m) (entries_sorted m)) ∙ same_entries_map (from_sorted (entries m)) m (entries-from_sorted byte_order (entries m) (entries_sorted m))

-- what stands under a key passes the test that each entry passes
pub found_passes : {X : Type 0} (f : List ℕ → Bool) (g : X → Bool) (q : List ℕ) (es : List (List ℕ × X)) (v : X) → list_all (λ e. f e.0 && g e.1) es ≡ true → find byte_order q es ≡ Some v → g v ≡ true
found_passes f g q [] v all is = absurd cc
found_passes {X} f g q (e ∷ es) v all is = go (eq_by_cmp byte_order q e.0) is (found_passes f g q es v (second_of (f e.0 && g e.1) _ all))
  where
    go : (t : Bool) → cond t (Some e.1) (find byte_order q es) ≡ Some v → (find byte_order q es ≡ Some v → g v ≡ true) → g v ≡ true
    go true h more = let same : e.1 ≡ v = cc in subst (λ (x : X). g x ≡ true) same (second_of (f e.0) (g e.1) (first_of (f e.0 && g e.1) _ all))
    go false h more = more h

-- what stands at a field is a value
pub field_is_value : (m : KeyMap Value) (q : List ℕ) (v : Value) → IsTrue (are_fields m) → get m q ≡ Some v → IsTrue (is_value v)
field_is_value m q v all is = found_passes is_name is_value q (entries m) v all (sym (get-entries m q) ∙ is)
