-- Maps as their entries: what a walk over the entries in order does, and what stands at a key afterwards.
use Rattle.std.proofs.Common.{◌≡◌, ℕ, ◌+◌, ◌<◌, Bool, true, false, T, subst, ◌||◌, List, [], ◌∷◌, ◌++◌, map, length, get_or, take, drop, refl, sym, ap, ◌∙◌, add-one}
use Rattle.std.proofs.Math.ListN.{set}
use Rattle.std.specs.declared.cmp.Ordering.{Ordering}
use Rattle.std.specs.declared.cmp.Ordering.TheVariants.{Equal}
use Rattle.std.specs.FinMap.{FinMap, put, find, is_sorted, empty, entries, get, get-entries, len, insert, contains_key, from_sorted, same_entries_map, entries-from_sorted, entries-insert, empty_of_len, len-entries, contains_key-keys}
use Rattle.std.specs.FinMap.Entries.{is_sorted-put}
use Rattle.std.specs.Ordering.{nat_cmp, eq_by_cmp}
use Rattle.std.specs.Cmp.Lexicographic.{slice_cmp}
use Rattle.std.specs.List.{list_any}
use Rattle.std.specs.Prelude.{IsTrue}
use Rattle.std.proofs.lemmas.Cmp.{nat_list_cmp_total}
use Rattle.std.proofs.Math.Seq.{drop-cons}
use Rattle.std.proofs.lemmas.List.{take-set, drop-set, take-append-drop}

module _ {K X : Type 0} (R : K → K → Ordering) where
  -- the entry at a place, and those after it
  pub entry_at : (es : List (K × X)) (at : ℕ) (e : K × X) → at < length es → e ≡ get_or es at e → drop at es ≡ e ∷ drop (at + 1) es
  entry_at es at e lt is = drop-cons es at e lt ∙ rw (← is, ← add-one) refl

  set_at : (es : List (K × X)) (at : ℕ) (e : K × X) → at < length es → set es at e ≡ take at es ++ e ∷ drop (at + 1) es
  set_at es at e lt = sym (take-append-drop at (set es at e)) ∙ rw (take-set es at e, drop-set es at e lt) refl

  -- at the entry of the key
  pub put-equal : (k : K) (v : X) (es : List (K × X)) (at : ℕ) (e : K × X) → at < length es → e ≡ get_or es at e → R k e.0 ≡ Equal → take at es ++ put R k v (drop at es) ≡ set es at (e.0, v)
  put-equal k v es at e lt is same = rw (entry_at es at e lt is, same, set_at es at (e.0, v) lt) refl

-- ---- a map as its entries

abbrev R : List ℕ → List ℕ → Ordering
R = slice_cmp nat_cmp

pub holds : (b : Bool) → IsTrue b → T b
holds b e = subst T (sym e) tt

pub is_true : (b : Bool) → T b → IsTrue b
is_true true h = refl
is_true false h = absurd h

module _ {X : Type 0} where
  pub empty-from_sorted : (es : List (List ℕ × X)) → es ≡ [] → from_sorted {R = R} es ≡ empty
  empty-from_sorted es none = rw none (empty_of_len (from_sorted []) (len-entries (from_sorted []) ∙ ap length (entries-from_sorted R [] tt)))

  pub entries-of : (es : List (List ℕ × X)) (m : FinMap R X) → IsTrue (is_sorted R es) → from_sorted es ≡ m → entries m ≡ es
  entries-of es m sorted is = ap entries (sym is) ∙ entries-from_sorted R es (holds _ sorted)

  pub sorted-put : (old new : List (List ℕ × X)) (k : List ℕ) (v : X) → IsTrue (is_sorted R old) → new ≡ put R k v old → IsTrue (is_sorted R new)
  sorted-put old new k v sorted is = rw is (is_true _ (is_sorted-put R nat_list_cmp_total k v old (holds _ sorted)))

  pub insert-put : (old new : List (List ℕ × X)) (m : FinMap R X) (k : List ℕ) (v : X) → IsTrue (is_sorted R old) → from_sorted old ≡ m → new ≡ put R k v old → from_sorted new ≡ insert m k v
  insert-put old new m k v sorted view is =
      same_entries_map (from_sorted new) (insert m k v)
      (entries-from_sorted R new (holds _ (sorted-put old new k v sorted is)) ∙ is ∙ ap (put R k v) (sym (entries-of old m sorted view)) ∙ sym (entries-insert nat_list_cmp_total m k v))

  list_any-keys : (p : List ℕ → Bool) (es : List (List ℕ × X)) → list_any p (map (λ e. e.0) es) ≡ list_any (λ e. p e.0) es
  list_any-keys p [] = refl
  list_any-keys p (e ∷ es) = ap (λ b. p e.0 || b) (list_any-keys p es)

  pub contains-holds : (es : List (List ℕ × X)) (m : FinMap R X) (k : List ℕ) (b : Bool) → IsTrue (is_sorted R es) → from_sorted es ≡ m → b ≡ list_any (λ e. eq_by_cmp R k e.0) es → b ≡ contains_key m k
  contains-holds es m k b sorted view is = is ∙ sym (contains_key-keys m k ∙ ap (λ l. list_any (eq_by_cmp R k) (map (λ e. e.0) l)) (entries-of es m sorted view) ∙ list_any-keys (eq_by_cmp R k) es)

  pub len-of : (es : List (List ℕ × X)) (m : FinMap R X) → IsTrue (is_sorted R es) → from_sorted es ≡ m → length es ≡ len m
  len-of es m sorted view = sym (len-entries m ∙ ap length (entries-of es m sorted view))

  pub get-of : (es : List (List ℕ × X)) (m : FinMap R X) (q : List ℕ) → IsTrue (is_sorted R es) → from_sorted es ≡ m → find R q es ≡ get m q
  get-of es m q sorted view = sym (get-entries m q ∙ ap (find R q) (entries-of es m sorted view))
