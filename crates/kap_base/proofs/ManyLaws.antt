-- A map of many entries: put one after the other, they are what a stable sort leaves.
use Rattle.std.proofs.Common.{◌≡◌, ℕ, ◌+◌, ◌-◌, ◌<◌, Bool, true, false, cond, not, ◌&&◌, T, subst, List, [], ◌∷◌, ◌++◌, length, get_or, take, drop, refl, sym, ap, ◌∙◌, append_assoc, append-nil, arith}
use Rattle.std.specs.Prelude.{Option, Some, filter, IsTrue}
use Rattle.std.specs.declared.cmp.Ordering.{Ordering}
use Rattle.std.specs.declared.cmp.Ordering.TheVariants.{Less, Equal, Greater}
use Rattle.std.specs.FinMap.{FinMap, put, is_sorted, empty, insert, get, from_sorted, same_entries_map, same_map, entries-from_sorted, entries-insert, get-insert, nat_cmp-IsAntisymmetric, slice_cmp-IsAntisymmetric}
use Rattle.std.specs.FinMap.Entries.{below_all}
use Rattle.std.specs.Ordering.{eq_by_cmp, is_lt, is_eq, ordering_reverse}
use Rattle.std.specs.List.Sorted.{ties, IsStableBy}
use Rattle.std.proofs.lemmas.Cmp.{nat_list_cmp_total}
use Rattle.kap_base.specs.Maps.{byte_order, with_entries, is_below}
use Rattle.std.proofs.Math.ListN.{set}
use Rattle.std.proofs.Math.Seq.{set-append_seam}
use Rattle.std.proofs.lemmas.List.{take-append-drop, length-take, length-drop, nil_from_length, get_or_default}
use Rattle.kap_base.proofs.KeyMapLaws.{holds, is_true, entry_at, empty-from_sorted, sorted-put, insert-put}

-- ---- an entry behind all others

both : (a b : Bool) → T a → T b → T (a && b)
both true b p q = q
both false b p q = absurd p

first : (a b : Bool) → T (a && b) → T a
first true b p = tt
first false b p = absurd p

second : (a b : Bool) → T (a && b) → T b
second true b p = p
second false b p = absurd p

less : (o : Ordering) → T (is_lt o) → o ≡ Less
less Less p = refl
less Equal p = absurd p
less Greater p = absurd p

and-false : (b : Bool) → (b && false) ≡ false
and-false true = refl
and-false false = refl

module _ {X : Type 0} where
  below_last : (x : List ℕ) (es : List (List ℕ × X)) (k : List ℕ) (v : X) → T (below_all byte_order x (es ++ (k, v) ∷ [])) → byte_order x k ≡ Less
  below_last x [] k v h = less _ (first _ _ h)
  below_last x (e ∷ es) k v h = below_last x es k v (second _ _ h)

  -- an entry whose key is above all others is put at the end
  pub put-behind : (es : List (List ℕ × X)) (k : List ℕ) (v : X) → T (is_sorted byte_order (es ++ (k, v) ∷ [])) → put byte_order k v es ≡ es ++ (k, v) ∷ []
  put-behind [] k v h = refl
  put-behind (e ∷ es) k v h =
      let above : byte_order k e.0 ≡ Greater = nat_list_cmp_total.antisymm k e.0 ∙ ap ordering_reverse (below_last e.0 es k v (first _ _ h)) in
      rw above (ap (λ (rest : List (List ℕ × X)). e ∷ rest) (put-behind es k v (second _ _ h)))

  below_lower : (x y : List ℕ) (es : List (List ℕ × X)) → byte_order x y ≡ Less → T (below_all byte_order y es) → T (below_all byte_order x es)
  below_lower x y [] p h = tt
  below_lower x y (e ∷ es) p h = both _ _ (subst (λ (o : Ordering). T (is_lt o)) (sym (nat_list_cmp_total.trans x y e.0 p (less _ (first _ _ h)))) tt) (below_lower x y es p (second _ _ h))

  below_next : (x : List ℕ) (es : List (List ℕ × X)) → T (is_below x es) → T (is_sorted byte_order es) → T (below_all byte_order x es)
  below_next x [] p h = tt
  below_next x (e ∷ es) p h = both _ _ p (below_lower x e.0 es (less _ p) (first _ _ h))

  -- where the first key stands below the next one, all rise if the others do
  pub rises_step : (e : List ℕ × X) (es : List (List ℕ × X)) → is_below e.0 es ≡ true → is_sorted byte_order es ≡ is_sorted byte_order (e ∷ es)
  rises_step e es below = elim (is_sorted byte_order es) as (λ b. is_sorted byte_order es ≡ b → b ≡ (below_all byte_order e.0 es && b)) [
    | true ↦ λ h. sym (ap (λ (b : Bool). b && true) (is_true _ (below_next e.0 es (subst T (sym below) tt) (subst T (sym h) tt))))
    | false ↦ λ h. sym (and-false (below_all byte_order e.0 es))
  ] refl

  -- and else they don't
  pub rises_not : (e : List ℕ × X) (es : List (List ℕ × X)) → is_below e.0 es ≡ false → is_sorted byte_order (e ∷ es) ≡ false
  rises_not e [] below = absurd (subst T below tt)
  rises_not e (f ∷ es) below = ap (λ (b : Bool). (b && below_all byte_order e.0 es) && is_sorted byte_order (f ∷ es)) below

  below_front : (x : List ℕ) (front rest : List (List ℕ × X)) → T (below_all byte_order x (front ++ rest)) → T (below_all byte_order x front)
  below_front x [] rest h = tt
  below_front x (e ∷ front) rest h = both _ _ (first _ _ h) (below_front x front rest (second _ _ h))

  sorted_front : (front rest : List (List ℕ × X)) → T (is_sorted byte_order (front ++ rest)) → T (is_sorted byte_order front)
  sorted_front [] rest h = tt
  sorted_front (e ∷ front) rest h = both _ _ (below_front e.0 front rest (first _ _ h)) (sorted_front front rest (second _ _ h))

  one_more : (front : List (List ℕ × X)) (k : List ℕ) (v : X) → T (is_sorted byte_order (front ++ (k, v) ∷ [])) → insert (from_sorted {R = byte_order} front) k v ≡ from_sorted (front ++ (k, v) ∷ [])
  one_more front k v h =
      same_entries_map _ _ (entries-insert nat_list_cmp_total (from_sorted front) k v
      ∙ ap (put byte_order k v) (entries-from_sorted byte_order front (sorted_front front ((k, v) ∷ []) h))
      ∙ put-behind front k v h
      ∙ sym (entries-from_sorted byte_order (front ++ (k, v) ∷ []) h))

  with_more : (front rest : List (List ℕ × X)) → T (is_sorted byte_order (front ++ rest)) → with_entries (from_sorted {R = byte_order} front) rest ≡ from_sorted (front ++ rest)
  with_more front [] h = ap (from_sorted {R = byte_order}) (sym (append-nil front))
  with_more front (e ∷ rest) h =
      let joined : (front ++ e ∷ []) ++ rest ≡ front ++ e ∷ rest = append_assoc front (e ∷ []) rest in
      let sorted : T (is_sorted byte_order ((front ++ e ∷ []) ++ rest)) = subst (λ es. T (is_sorted byte_order es)) (sym joined) h in
      ap (λ (m : FinMap byte_order X). with_entries m rest) (one_more front e.0 e.1 (sorted_front (front ++ e ∷ []) rest sorted))
      ∙ with_more (front ++ e ∷ []) rest sorted
      ∙ ap (from_sorted {R = byte_order}) joined

  -- entries whose keys rise are the map that they make
  pub rising : (es : List (List ℕ × X)) → T (is_sorted byte_order es) → from_sorted es ≡ with_entries empty es
  rising es h = sym (ap (λ (m : FinMap byte_order X). with_entries m es) (sym (empty-from_sorted [] refl)) ∙ with_more [] es h)

  with_entries-append : (m : FinMap byte_order X) (es : List (List ℕ × X)) (k : List ℕ) (v : X) → with_entries m (es ++ (k, v) ∷ []) ≡ insert (with_entries m es) k v
  with_entries-append m [] k v = refl
  with_entries-append m (e ∷ es) k v = with_entries-append (insert m e.0 e.1) es k v

  -- one more entry is put
  pub put_one : (old new es : List (List ℕ × X)) (k : List ℕ) (v : X) → IsTrue (is_sorted byte_order old) → from_sorted old ≡ with_entries empty es → new ≡ put byte_order k v old
      → IsTrue (is_sorted byte_order new) × (from_sorted new ≡ with_entries empty (es ++ (k, v) ∷ []))
  put_one old new es k v sorted same is = (sorted-put old new k v sorted is, insert-put old new (with_entries empty es) k v sorted same is ∙ sym (with_entries-append empty es k v))

  -- ---- what stands at a key

  -- the value of the last entry with the key, or what was there before
  seek : Option X → List ℕ → List (List ℕ × X) → Option X
  seek before q [] = before
  seek before q (e ∷ es) = seek (cond (eq_by_cmp byte_order q e.0) (Some e.1) before) q es

  get-with_entries : (m : FinMap byte_order X) (q : List ℕ) (es : List (List ℕ × X)) → get (with_entries m es) q ≡ seek (get m q) q es
  unfolding seek
  get-with_entries m q [] = refl
  get-with_entries m q (e ∷ es) = get-with_entries (insert m e.0 e.1) q es ∙ ap (λ (o : Option X). seek o q es) (get-insert nat_list_cmp_total m e.0 e.1 q)

  lt : List ℕ × X → List ℕ × X → Bool
  lt x y = is_lt (byte_order x.0 y.0)

  -- entries that tie have one key
  tie : (x e : List ℕ × X) → ties lt x e ≡ eq_by_cmp byte_order x.0 e.0
  unfolding lt
  tie x e = ap (λ (o : Ordering). not (is_lt (byte_order x.0 e.0)) && not (is_lt o)) (nat_list_cmp_total.antisymm e.0 x.0) ∙
      elim (byte_order x.0 e.0) as (λ o. not (is_lt o) && not (is_lt (ordering_reverse o)) ≡ is_eq o) [ Less ↦ refl | Equal ↦ refl | Greater ↦ refl ]

  -- only the entries that tie matter
  seek-filter : (before : Option X) (x : List ℕ × X) (es : List (List ℕ × X)) → seek before x.0 es ≡ seek before x.0 (filter (ties lt x) es)
  unfolding seek
  seek-filter before x [] = refl
  seek-filter before x (e ∷ es) =
      elim (ties lt x e) as (λ b. ties lt x e ≡ b → seek (cond (eq_by_cmp byte_order x.0 e.0) (Some e.1) before) x.0 es ≡ seek before x.0 (cond b (e ∷ filter (ties lt x) es) (filter (ties lt x) es))) [
        | true ↦ λ t. seek-filter (cond (eq_by_cmp byte_order x.0 e.0) (Some e.1) before) x es
        | false ↦ λ t. ap (λ (b : Bool). seek (cond b (Some e.1) before) x.0 es) (sym (tie x e) ∙ t) ∙ seek-filter before x es
      ] refl

  seek-stable : (before : Option X) (q : List ℕ) (xs ys : List (List ℕ × X)) → IsStableBy lt xs ys → length xs ≡ length ys → seek before q ys ≡ seek before q xs
  seek-stable before q [] [] stable same = refl
  seek-stable before q [] (y ∷ ys) stable same = absurd (omega arith)
  seek-stable before q (x ∷ xs) ys stable same =
      seek-filter before (q, x.1) ys ∙ ap (seek before q) (stable (q, x.1)) ∙ sym (seek-filter before (q, x.1) (x ∷ xs))

  -- a stable sort doesn't change the map
  pub stable : (xs ys : List (List ℕ × X)) → IsStableBy (λ x y. is_lt (byte_order x.0 y.0)) xs ys → length xs ≡ length ys → with_entries empty ys ≡ with_entries empty xs
  unfolding lt
  stable xs ys ties same = same_map nat_list_cmp_total (slice_cmp-IsAntisymmetric nat_cmp-IsAntisymmetric) _ _ (λ q. get-with_entries empty q ys ∙ seek-stable (get empty q) q xs ys ties same ∙ sym (get-with_entries empty q xs))

  -- ---- an entry put behind those that rise

  above_last : (x : List ℕ) (front : List (List ℕ × X)) (e : List ℕ × X) (k : List ℕ) (v : X) → T (below_all byte_order x (front ++ e ∷ [])) → byte_order e.0 k ≡ Less → T (below_all byte_order x ((front ++ e ∷ []) ++ (k, v) ∷ []))
  above_last x [] e k v h p = both _ _ (first _ _ h) (both _ _ (subst (λ (o : Ordering). T (is_lt o)) (sym (nat_list_cmp_total.trans x e.0 k (less _ (first _ _ h)) p)) tt) tt)
  above_last x (f ∷ front) e k v h p = both _ _ (first _ _ h) (above_last x front e k v (second _ _ h) p)

  longer_sorted : (front : List (List ℕ × X)) (e : List ℕ × X) (k : List ℕ) (v : X) → T (is_sorted byte_order (front ++ e ∷ [])) → byte_order e.0 k ≡ Less → T (is_sorted byte_order ((front ++ e ∷ []) ++ (k, v) ∷ []))
  longer_sorted [] e k v h p = subst (λ (o : Ordering). T ((is_lt o && true) && (true && true))) (sym p) tt
  longer_sorted (f ∷ front) e k v h p = both _ _ (above_last f.0 front e k v (first _ _ h) p) (longer_sorted front e k v (second _ _ h) p)

  -- above the last key: behind all
  pub put-above : (front : List (List ℕ × X)) (e : List ℕ × X) (k : List ℕ) (v : X) → T (is_sorted byte_order (front ++ e ∷ [])) → byte_order k e.0 ≡ Greater → put byte_order k v (front ++ e ∷ []) ≡ (front ++ e ∷ []) ++ (k, v) ∷ []
  put-above front e k v h p =
      put-behind (front ++ e ∷ []) k v (longer_sorted front e k v h (nat_list_cmp_total.antisymm e.0 k ∙ ap ordering_reverse p))

  -- at the last key: in its place
  pub put-last : (front : List (List ℕ × X)) (e : List ℕ × X) (k : List ℕ) (v : X) → T (is_sorted byte_order (front ++ e ∷ [])) → byte_order k e.0 ≡ Equal → put byte_order k v (front ++ e ∷ []) ≡ front ++ (e.0, v) ∷ []
  put-last [] e k v h p = rw p refl
  put-last (f ∷ front) e k v h p =
      let same : k ≡ e.0 = slice_cmp-IsAntisymmetric nat_cmp-IsAntisymmetric k e.0 p in
      let above : byte_order k f.0 ≡ Greater = ap (λ (x : List ℕ). byte_order x f.0) same ∙ nat_list_cmp_total.antisymm e.0 f.0 ∙ ap ordering_reverse (below_last f.0 front e.0 e.1 (first _ _ h)) in
      rw above (ap (λ (rest : List (List ℕ × X)). f ∷ rest) (put-last front e k v (second _ _ h) p))

  last_is : (es : List (List ℕ × X)) (n : ℕ) (e : List ℕ × X) → n ≡ length es → 0 < n → e ≡ get_or es (n - 1) e → es ≡ take (n - 1) es ++ e ∷ []
  last_is es n e count some is =
      let within : n - 1 < length es = omega (arith, count) in
      let none : drop (n - 1 + 1) es ≡ [] = nil_from_length _ (omega (arith, length-drop (n - 1 + 1) es, count)) in
      sym (take-append-drop (n - 1) es) ∙ ap (λ (rest : List (List ℕ × X)). take (n - 1) es ++ rest) (entry_at byte_order es (n - 1) e within is ∙ ap (λ (rest : List (List ℕ × X)). e ∷ rest) none)

  sorted_as : (es fs : List (List ℕ × X)) → es ≡ fs → IsTrue (is_sorted byte_order es) → T (is_sorted byte_order fs)
  sorted_as es fs is h = holds _ (ap (is_sorted byte_order) (sym is) ∙ h)

  pub put_greater : (es : List (List ℕ × X)) (n : ℕ) (e : List ℕ × X) (k : List ℕ) (v : X) → n ≡ length es → 0 < n → e ≡ get_or es (n - 1) e → IsTrue (is_sorted byte_order es) → byte_order k e.0 ≡ Greater → es ++ (k, v) ∷ [] ≡ put byte_order k v es
  put_greater es n e k v count some is h p =
      let split = last_is es n e count some is in
      ap (λ (x : List (List ℕ × X)). x ++ (k, v) ∷ []) split ∙ sym (put-above (take (n - 1) es) e k v (sorted_as es _ split h) p) ∙ ap (put byte_order k v) (sym split)

  pub put_equal : (es : List (List ℕ × X)) (n : ℕ) (e written : List ℕ × X) (k : List ℕ) (v : X) → n ≡ length es → 0 < n → e ≡ get_or es (n - 1) e → written ≡ get_or es (n - 1) written → IsTrue (is_sorted byte_order es) → byte_order k e.0 ≡ Equal → set es (n - 1) (written.0, v) ≡ put byte_order k v es
  put_equal es n e written k v count some is was h p =
      let within : n - 1 < length es = omega (arith, count) in
      let same : written ≡ e = was ∙ get_or_default es (n - 1) written e within ∙ sym is in
      let split = last_is es n e count some is in
      let place : length (take (n - 1) es) ≡ n - 1 = omega (arith, length-take (n - 1) es, count) in
      ap (λ (x : List ℕ × X). set es (n - 1) (x.0, v)) same
      ∙ ap (λ (i : ℕ). set es i (e.0, v)) (sym place)
      ∙ ap (λ (x : List (List ℕ × X)). set x (length (take (n - 1) es)) (e.0, v)) split
      ∙ set-append_seam (take (n - 1) es) e [] (e.0, v)
      ∙ sym (put-last (take (n - 1) es) e k v (sorted_as es _ split h) p)
      ∙ ap (put byte_order k v) (sym split)
