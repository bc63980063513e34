-- The place of a group's cell.
use Rattle.std.proofs.Common.{◌≡◌, ℕ, zero, suc, ◌<◌, true, false, List, [], ◌∷◌, ◌++◌, length, get_or, Option, Some, None, is_some, refl, sym, ap, ◌∙◌, arith, true≢false}
use Rattle.std.specs.Option.{option_map}
use Rattle.std.specs.Prelude.{slice_get, unwrap_or}
use Rattle.std.specs.FinMap.{FinMap, get, from_entries, from_entries_push, slice_cmp-IsAntisymmetric, nat_cmp-IsAntisymmetric}
use Rattle.std.specs.Cmp.Lexicographic.{bytes_decides, nat_list_cmp_total, nat_list_eq_equiv}
use Rattle.std.specs.Map.{keys_of, values_of}
use Rattle.std.specs.Str.{bytes_eq}
use Rattle.std.proofs.lemmas.List.{get_or-map, length-append}
use Rattle.std.proofs.lemmas.List.Quantifiers.{position-Some}
use Rattle.std.proofs.lemmas.Map.Entries.{length-keys_of}
use Rattle.indexmap.specs.IndexMap.{IndexMap, IsUnique, get as get_in, index_of, insert_entry, set_value_at, values}
use Rattle.indexmap.proofs.CallerLemmas.{insert_entry-new, updates-with_value_at}
use Rattle.kap_base.specs.Maps.{byte_order}
use Rattle.node_core.specs.Groups.{cell_or}
use Rattle.node_core.specs.Places.{IsCellOf}
use Rattle.node_core.proofs.TableLaws.{get-lookup, put_at, find-lookup}

module _ {C : Type 0} where
  kept_cell : (o : Option C) (first : C) → is_some o ≡ true → o ≡ Some (cell_or first o)
  kept_cell None first h = absurd (true≢false (sym h))
  kept_cell (Some c) first h = refl

  no_cell : (o : Option C) → false ≡ is_some o → o ≡ None
  no_cell None h = refl
  no_cell (Some c) h = absurd (true≢false (sym h))

  entry_within : (es : List (List ℕ × C)) (i : ℕ) (d : List ℕ × C) → i < length es → slice_get es i ≡ Some (get_or es i d)
  entry_within [] i d lt = absurd (omega arith)
  entry_within (e ∷ es) zero d lt = refl
  entry_within (e ∷ es) (suc i) d lt = entry_within es i d (omega arith)

  -- where the key has a cell
  pub found_cell : {S : Type 0} (m : IndexMap (List ℕ) C S) (k : List ℕ) (at : ℕ) (first : C) → IsUnique bytes_eq m → index_of bytes_eq m k ≡ Some at
      → slice_get (values m) at ≡ get_in bytes_eq m k → true ≡ is_some (get_in bytes_eq m k) → IsCellOf m.entries m.entries k first at
  found_cell m k at first unique place value there =
      let stands = position-Some (bytes_eq k) (keys_of m.entries) at k place in
      let within : at < length m.entries = omega (arith, stands.0, length-keys_of m.entries) in
      let e = get_or m.entries at (k, first) in
      let key : e.0 ≡ k = sym (get_or-map (λ (e : List ℕ × C). e.0) m.entries at (k, first) k within) ∙ sym ((bytes_decides k _).0 stands.1) in
      let entry : slice_get m.entries at ≡ Some (k, e.1) = entry_within m.entries at (k, first) within ∙ ap (λ (x : List ℕ). Some (x, e.1)) key in
      record {
        within = within;
        value = value ∙ kept_cell _ first (sym there) ∙ ap (λ (o : Option C). Some (cell_or first o)) (sym (get-lookup m.entries k));
        writes = λ c. put_at m.entries (set_value_at m.entries at c) k c (updates-with_value_at m at c nat_list_eq_equiv unique k e.1 entry).0;
      }

  value_at : (es : List (List ℕ × C)) (at : ℕ) (e : List ℕ × C) → at < length es → slice_get es at ≡ Some e → slice_get (values_of es) at ≡ Some e.1
  value_at [] at e lt h = absurd (omega arith)
  value_at (x ∷ es) zero e lt h = ap (option_map (λ (e : List ℕ × C). e.1)) h
  value_at (x ∷ es) (suc at) e lt h = value_at es at e (omega arith) h

  -- where the entry at a place has the key
  pub known_cell : {S : Type 0} (m : IndexMap (List ℕ) C S) (k : List ℕ) (at : ℕ) (c : C) → IsUnique bytes_eq m → at < length m.entries → slice_get m.entries at ≡ Some (k, c)
      → get_in bytes_eq m k ≡ Some c → (first : C) → IsCellOf m.entries m.entries k first at
  known_cell m k at c unique within entry value first = record {
    within = within;
    value = value_at m.entries at (k, c) within entry ∙ ap (λ (o : Option C). Some (cell_or first o)) (sym (get-lookup m.entries k ∙ value));
    writes = λ d. put_at m.entries (set_value_at m.entries at d) k d (updates-with_value_at m at d nat_list_eq_equiv unique k c entry).0;
  }

  last_value : (es : List (List ℕ × C)) (k : List ℕ) (c : C) → slice_get (values_of (es ++ (k, c) ∷ [])) (length es) ≡ Some c
  last_value [] k c = refl
  last_value (e ∷ es) k c = last_value es k c

  set_last : (es : List (List ℕ × C)) (k : List ℕ) (c d : C) → set_value_at (es ++ (k, c) ∷ []) (length es) d ≡ es ++ (k, d) ∷ []
  set_last [] k c d = refl
  set_last (e ∷ es) k c d = ap (λ l. e ∷ l) (set_last es k c d)

  -- where the key has none, and gets the first one
  pub new_cell : {S : Type 0} (m : IndexMap (List ℕ) C S) (new : List (List ℕ × C)) (k : List ℕ) (at : ℕ) (first : C) → at ≡ length m.entries → false ≡ is_some (get_in bytes_eq m k)
      → new ≡ insert_entry bytes_eq m.entries k first → IsCellOf m.entries new k first at
  new_cell m new k at first last missing inserted =
      let es = m.entries in
      let none : get_in bytes_eq m k ≡ None = no_cell _ missing in
      let is : new ≡ es ++ (k, first) ∷ [] = inserted ∙ insert_entry-new bytes_eq m k first none in
      rw (last, is) (record {
        within = omega (arith, length-append es ((k, first) ∷ []));
        value = last_value es k first ∙ ap (λ (o : Option C). Some (cell_or first o)) (sym (get-lookup es k ∙ none));
        writes = λ c. ap (from_entries {R = byte_order}) (set_last es k first c)
            ∙ from_entries_push nat_list_cmp_total (slice_cmp-IsAntisymmetric nat_cmp-IsAntisymmetric) es k c (find-lookup k es ∙ none);
      })

  -- the cell that is read at the key's place
  pub cell_is : {old new : List (List ℕ × C)} {k : List ℕ} {first : C} {at : ℕ} → IsCellOf old new k first at → (m : FinMap byte_order C) → from_entries old ≡ m → (c : C) → slice_get (values_of new) at ≡ Some c
      → c ≡ cell_or first (get m k)
  cell_is {k = k} {first = first} place m view c read = ap (λ (o : Option C). unwrap_or o first) (sym read ∙ place.value) ∙ ap (λ n. cell_or first (get n k)) view
