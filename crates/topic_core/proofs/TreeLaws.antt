-- The entries of a tree, as the finite map that contracts see.
use Rattle.std.proofs.Common.{◌≡◌, ℕ, Bool, true, false, cond, ◌&&◌, T, List, [], ◌∷◌, ◌++◌, Option, Some, None, Result, Ok, Err, OnOk, OnErr, refl, sym, ap, subst, ◌∙◌}
use Rattle.std.specs.Prelude.{unwrap_or, ⊤}
use Rattle.std.specs.BTreeMap.{is_at}
use Rattle.std.specs.Cmp.{eq_by_cmp_equiv}
use Rattle.std.specs.FinMap.{find, is_sorted, entries, get, insert, empty, from_sorted, from_entries, from_entries_push, get-from_entries, get-from_sorted, get-insert, entries-from_sorted, same_map, slice_cmp-IsAntisymmetric, nat_cmp-IsAntisymmetric}
use Rattle.std.specs.FinMap.Entries.{below_all}
use Rattle.std.specs.List.{AllByRecursion}
use Rattle.std.specs.List.Sorted.{IsStrictlySortedBy}
use Rattle.std.specs.Map.{keys_of, lookup}
use Rattle.std.specs.Ordering.{is_eq, ordering_reverse}
use Rattle.std.specs.declared.cmp.Ordering.TheVariants.{Less}
use Rattle.std.proofs.lemmas.Cmp.{nat_list_cmp_total}
use Rattle.kap_base.specs.Maps.{KeyMap, byte_order}
use Rattle.kap_base.specs.declared.items.Level.{Level}
use Rattle.kap_base.specs.declared.memory.NoMemory.{NoMemory}
use Rattle.topic_core.specs.Topics.{put_level, same_text}
use Rattle.topic_core.proofs.TransLaws.{append_assoc, append_nil, one_text}

both : (a b : Bool) → T a → T b → T (a && b)
both true b p q = q
both false b p q = p

module _ {X : Type 0} where
  -- ---- what stands at a key

  pub same : (m n : KeyMap X) → ((q : List ℕ) → get m q ≡ get n q) → m ≡ n
  same m n h = same_map nat_list_cmp_total (slice_cmp-IsAntisymmetric nat_cmp-IsAntisymmetric) m n h

  looked_up : (q : List ℕ) (es : List (List ℕ × X)) → lookup (is_at (byte_order q)) es ≡ find byte_order q es
  looked_up q [] = refl
  looked_up q (e ∷ es) = ap (λ (o : Option X). cond (is_eq (byte_order q e.0)) (Some e.1) o) (looked_up q es)

  pub got : (es : List (List ℕ × X)) (q : List ℕ) → get (from_entries {R = byte_order} es) q ≡ lookup (is_at (byte_order q)) es
  got es q = get-from_entries nat_list_cmp_total es q ∙ sym (looked_up q es)

  -- entries that have a value at one key, and at each other key what others have
  pub inserted : (old new : List (List ℕ × X)) (k : List ℕ) (v : X)
      → ((q : List ℕ) → lookup (is_at (byte_order q)) new ≡ cond (is_eq (byte_order k q)) (Some v) (lookup (is_at (byte_order q)) old))
      → from_entries {R = byte_order} new ≡ insert (from_entries old) k v
  inserted old new k v h = same _ _ (λ q.
      got new q ∙ h q
      ∙ (λ i. cond ((eq_by_cmp_equiv nat_list_cmp_total).symm k q i) (Some v) (sym (got old q) i))
      ∙ sym (get-insert nat_list_cmp_total (from_entries old) k v q))

  -- to put what stands at a key there again changes nothing
  pub put_again : (m : KeyMap X) (k : List ℕ) (v : X) → get m k ≡ Some v → insert m k v ≡ m
  put_again m k v there = same _ _ (λ q.
      get-insert nat_list_cmp_total m k v q
      ∙ elim (same_text q k) as (λ b. same_text q k ≡ b → cond b (Some v) (get m q) ≡ get m q) [
        | true ↦ λ is. sym there ∙ ap (λ (x : List ℕ). get m x) (sym (one_text q k is))
        | false ↦ λ is. refl
      ] refl)

  -- ---- in the order of the keys

  rises : (x : List ℕ) (es : List (List ℕ × X)) → AllByRecursion (λ y. byte_order x y ≡ Less) (keys_of es) → T (below_all byte_order x es)
  rises x [] h = tt
  rises x (e ∷ es) h = rw (h.0) (rises x es h.1)

  sorted : (es : List (List ℕ × X)) → IsStrictlySortedBy byte_order (keys_of es) → T (is_sorted byte_order es)
  unfolding IsStrictlySortedBy
  sorted [] h = tt
  sorted (e ∷ es) h = both _ _ (rises e.0 es h.0) (sorted es h.1)

  pub entries_are : (es : List (List ℕ × X)) → IsStrictlySortedBy byte_order (keys_of es) → entries (from_entries {R = byte_order} es) ≡ es
  entries_are es h =
      ap entries (same (from_entries es) (from_sorted es) (λ q. get-from_entries nat_list_cmp_total es q ∙ sym (get-from_sorted byte_order es q (sorted es h))))
      ∙ entries-from_sorted byte_order es (sorted es h)

  reached : (P : List ℕ → Type 0) (xs : List (List ℕ × X)) (e : List ℕ × X) (ys : List (List ℕ × X)) → AllByRecursion P (keys_of (xs ++ e ∷ ys)) → P e.0
  reached P [] e ys h = h.0
  reached P (x ∷ xs) e ys h = reached P xs e ys h.1

  -- a key isn't among those before it
  absent : (xs : List (List ℕ × X)) (e : List ℕ × X) (ys : List (List ℕ × X)) → IsStrictlySortedBy byte_order (keys_of (xs ++ e ∷ ys)) → find byte_order e.0 xs ≡ None
  unfolding IsStrictlySortedBy
  absent [] e ys h = refl
  absent (x ∷ xs) e ys h =
      let above = nat_list_cmp_total.antisymm e.0 x.0 ∙ ap ordering_reverse (reached (λ y. byte_order x.0 y ≡ Less) xs e ys h.0) in
      ap (λ o. cond (is_eq o) (Some x.1) (find byte_order e.0 xs)) above ∙ absent xs e ys h.1

  -- what is behind the first entries is put behind them
  pub put_behind : (xs : List (List ℕ × X)) (e : List ℕ × X) (ys all : List (List ℕ × X)) → xs ++ e ∷ ys ≡ all → IsStrictlySortedBy byte_order (keys_of all)
      → from_entries {R = byte_order} (xs ++ e ∷ []) ≡ insert (from_entries xs) e.0 e.1
  put_behind xs e ys all is h =
      from_entries_push nat_list_cmp_total (slice_cmp-IsAntisymmetric nat_cmp-IsAntisymmetric) xs e.0 e.1
      (absent xs e ys (subst (λ (l : List (List ℕ × X)). IsStrictlySortedBy byte_order (keys_of l)) (sym is) h))

  -- ---- a copy

  -- the copy has what stands before the rest of all entries
  pub record Copied (all copy rest : List (List ℕ × X)) : Type 0 where
    pub first : List (List ℕ × X)
    pub is : first ++ rest ≡ all
    pub made : from_entries {R = byte_order} copy ≡ from_entries first

  pub copied_none : (all copy : List (List ℕ × X)) → copy ≡ [] → Copied all copy all
  copied_none all copy none = record { first = []; is = refl; made = ap (λ (l : List (List ℕ × X)). from_entries {R = byte_order} l) none }

  pub copied_more : (all copy later : List (List ℕ × X)) (e : List ℕ × X) (rest : List (List ℕ × X)) → IsStrictlySortedBy byte_order (keys_of all) → Copied all copy (e ∷ rest)
      → from_entries {R = byte_order} later ≡ insert (from_entries copy) e.0 e.1 → Copied all later rest
  copied_more all copy later e rest h so_far put = record {
    first = so_far.first ++ e ∷ [];
    is = append_assoc so_far.first (e ∷ []) rest ∙ so_far.is;
    made = put ∙ ap (λ (m : KeyMap X). insert m e.0 e.1) so_far.made ∙ sym (put_behind so_far.first e rest all so_far.is h);
  }

  pub copied_all : (all copy : List (List ℕ × X)) → Copied all copy [] → from_entries {R = byte_order} copy ≡ from_entries all
  copied_all all copy so_far = so_far.made ∙ ap (λ (l : List (List ℕ × X)). from_entries {R = byte_order} l) (sym (append_nil so_far.first) ∙ so_far.is)

-- ---- a level under a topic that is there

module _ (old new : List (List ℕ × KeyMap Level)) (topic id : List ℕ) (level : Level) (ids left : KeyMap Level) where
  abbrev pub Wrote : Type 0
  Wrote = (q : List ℕ) → lookup (is_at (byte_order q)) new ≡ cond (is_eq (byte_order topic q)) (Some left) (lookup (is_at (byte_order q)) old)

  abbrev pub Stood : Type 0
  Stood = Some ids ≡ lookup (is_at (byte_order topic)) old

  pub level_put : (r : Result ⊤ NoMemory) → Stood → Wrote → OnOk r (left ≡ insert ids id level)
      → OnOk r (from_entries {R = byte_order} new ≡ put_level (from_entries old) topic id level)
  level_put (Ok x) stood wrote is =
      inserted old new topic left wrote
      ∙ ap (λ (m : KeyMap Level). insert (from_entries {R = byte_order} old) topic m)
      (is ∙ ap (λ (o : Option (KeyMap Level)). insert (unwrap_or o empty) id level) (stood ∙ sym (got old topic)))
  level_put (Err x) stood wrote is = tt

  pub level_kept : (r : Result ⊤ NoMemory) → Stood → Wrote → OnErr r (left ≡ ids)
      → OnErr r (from_entries {R = byte_order} new ≡ from_entries old)
  level_kept (Ok x) stood wrote is = tt
  level_kept (Err x) stood wrote is = inserted old new topic left wrote ∙ put_again (from_entries old) topic left (got old topic ∙ sym stood ∙ ap (λ (m : KeyMap Level). Some m) (sym is))

-- under a topic that is not there
pub first_level : (old new : List (List ℕ × KeyMap Level)) (topic id key : List ℕ) (level : Level) (ids : KeyMap Level) → key ≡ topic → ids ≡ insert empty id level
    → None ≡ lookup (is_at (byte_order topic)) old
    → ((q : List ℕ) → lookup (is_at (byte_order q)) new ≡ cond (is_eq (byte_order key q)) (Some ids) (lookup (is_at (byte_order q)) old))
    → from_entries {R = byte_order} new ≡ put_level (from_entries old) topic id level
first_level old new topic id key level ids same is none put =
    inserted old new key ids put
    ∙ ap (λ (k : List ℕ). insert (from_entries {R = byte_order} old) k ids) same
    ∙ ap (λ (m : KeyMap Level). insert (from_entries {R = byte_order} old) topic m)
    (is ∙ ap (λ (o : Option (KeyMap Level)). insert (unwrap_or o empty) id level) (none ∙ sym (got old topic)))
