-- A map has as many keys as the list that it was made of exactly where no key stands twice in the list.
use Rattle.std.proofs.Common.{◌≡◌, ◌≢◌, ℕ, suc, ◌+◌, ◌≤◌, Bool, true, false, not, cond, ◌&&◌, ◌||◌, Some, List, [], ◌∷◌, length, eqb, refl, sym, ap, ◌∙◌, arith}
use Rattle.std.specs.Prelude.{bytes_eq, is_some}
use Rattle.std.specs.List.{list_any, list_all}
use Rattle.std.specs.FinMap.{empty, insert, get, len, contains_key, len-insert, len-empty, get-empty, get-insert}
use Rattle.std.proofs.lemmas.Cmp.{nat_list_cmp_total}
use Rattle.std.proofs.lemmas.Map.Text.{is_eq-slice_cmp}
use Rattle.std.proofs.lemmas.Bool.Decides.{nat_tests}
use Rattle.kap_base.specs.Maps.{KeyMap, with_entries, byte_order}
use Rattle.line_points.specs.Line.{Tag, differ}

abbrev Tags : Type 0
Tags = KeyMap (List ℕ)

contains-insert : (m : Tags) (k v q : List ℕ) → contains_key (insert m k v) q ≡ (bytes_eq q k || contains_key m q)
contains-insert m k v q =
    ap is_some (get-insert nat_list_cmp_total m k v q)
    ∙ ap (λ b. is_some (cond b (Some v) (get m q))) (is_eq-slice_cmp q k)
    ∙ elim (bytes_eq q k) as (λ b. is_some (cond b (Some v) (get m q)) ≡ (b || is_some (get m q))) [ true ↦ refl | false ↦ refl ]

-- no key of the list stands in the map
pub none_in : Tags → List Tag → Bool
none_in m es = list_all (λ e. not (contains_key m e.0)) es

swapped : (a b c d : Bool) → (not (a || b) && (not c && d)) ≡ (not (a || c) && (not b && d))
swapped true b c d = refl
swapped false true true d = refl
swapped false true false d = refl
swapped false false true d = refl
swapped false false false d = refl

none-insert : (es : List Tag) (m : Tags) (k v : List ℕ) → none_in (insert m k v) es ≡ (not (list_any (λ e. bytes_eq e.0 k) es) && none_in m es)
unfolding none_in
none-insert [] m k v = refl
none-insert (e ∷ es) m k v =
    ap (λ b. not b && none_in (insert m k v) es) (contains-insert m k v e.0)
    ∙ ap (λ b. not (bytes_eq e.0 k || contains_key m e.0) && b) (none-insert es m k v)
    ∙ swapped (bytes_eq e.0 k) (contains_key m e.0) (list_any (λ e. bytes_eq e.0 k) es) (none_in m es)

insert_le : (m : Tags) (k v : List ℕ) → len (insert m k v) ≤ len m + 1
insert_le m k v = rw (len-insert nat_list_cmp_total m k v) (elim (contains_key m k) as (λ b. cond b (len m) (len m + 1) ≤ len m + 1) [ true ↦ omega arith | false ↦ omega arith ])

at_most : (es : List Tag) (m : Tags) → len (with_entries m es) ≤ len m + length es
at_most [] m = omega arith
at_most (e ∷ es) m = omega (arith, at_most es (insert m e.0 e.1), insert_le m e.0 e.1)

turned : (a b d : Bool) → ((not a && b) && d) ≡ (b && (not a && d))
turned true true d = refl
turned true false d = refl
turned false b d = refl

not_equal : (a b : ℕ) → suc a ≤ b → eqb a b ≡ false
not_equal a b lt = grind (arith, nat_tests)

pub counted : (es : List Tag) (m : Tags) → eqb (len (with_entries m es)) (len m + length es) ≡ (none_in m es && differ es)
unfolding none_in
counted [] m = grind (arith, nat_tests)
counted (e ∷ es) m =
    elim (contains_key m e.0) as (λ c. contains_key m e.0 ≡ c → eqb (len (with_entries (insert m e.0 e.1) es)) (len m + suc (length es)) ≡ ((not c && none_in m es) && (not (list_any (λ u. bytes_eq u.0 e.0) es) && differ es))) [
      | true ↦ λ c.
          let same : len (insert m e.0 e.1) ≡ len m = rw (len-insert nat_list_cmp_total m e.0 e.1, c) refl in
          not_equal _ _ (omega (arith, at_most es (insert m e.0 e.1), same))
      | false ↦ λ c.
          let more : len (insert m e.0 e.1) ≡ len m + 1 = rw (len-insert nat_list_cmp_total m e.0 e.1, c) refl in
          let all : len m + suc (length es) ≡ len (insert m e.0 e.1) + length es = omega (arith, more) in
          ap (eqb (len (with_entries (insert m e.0 e.1) es))) all
          ∙ counted es (insert m e.0 e.1)
          ∙ ap (λ b. b && differ es) (none-insert es m e.0 e.1)
          ∙ turned (list_any (λ u. bytes_eq u.0 e.0) es) (none_in m es) (differ es)
    ] refl

none_in-empty : (es : List Tag) → none_in empty es ≡ true
unfolding none_in
none_in-empty [] = refl
none_in-empty (e ∷ es) = rw get-empty (none_in-empty es)

abbrev no_tags : Tags
no_tags = empty

-- the map of a list has as many keys as the list exactly where its keys differ
differ-len : (es : List Tag) → eqb (len (with_entries no_tags es)) (length es) ≡ differ es
differ-len es =
    let all : length es ≡ len no_tags + length es = omega (arith, len-empty byte_order (List ℕ)) in
    ap (eqb (len (with_entries no_tags es))) all ∙ counted es no_tags ∙ ap (λ b. b && differ es) (none_in-empty es)

pub keys_twice : (es : List Tag) (found given : ℕ) (m : Tags) → given ≡ length es → found ≡ len m → m ≡ with_entries empty es → found ≢ given → differ es ≡ false
keys_twice es found given m given_is found_is map_is apart =
    sym (differ-len es) ∙ ap (λ (x : Tags). eqb (len x) (length es)) (sym map_is) ∙ rw (← found_is, ← given_is) (unequal found given apart)
  where
    unequal : (a b : ℕ) → a ≢ b → eqb a b ≡ false
    unequal a b apart = grind (arith, nat_tests)

pub keys_once : (es : List Tag) (found given : ℕ) (m : Tags) → given ≡ length es → found ≡ len m → m ≡ with_entries empty es → found ≡ given → differ es ≡ true
keys_once es found given m given_is found_is map_is same =
    sym (differ-len es) ∙ ap (λ (x : Tags). eqb (len x) (length es)) (sym map_is) ∙ rw (← found_is, ← given_is) (equal found given same)
  where
    equal : (a b : ℕ) → a ≡ b → eqb a b ≡ true
    equal a b same = grind (arith, nat_tests)
