-- The keys of a map can be the dimensions of a point.
use Rattle.std.proofs.Common.{◌≡◌, ℕ, ◌+◌, ◌<◌, Bool, true, false, cond, ◌||◌, T, List, [], ◌∷◌, ◌++◌, map, length, take, get_or, refl, sym, ap, ◌∙◌, IsUtf8}
use Rattle.std.specs.Prelude.{◌&&◌, nat_eq, IsTrue, Option, Some, None, bytes_eq, is_some}
use Rattle.std.specs.List.{list_all, list_any}
use Rattle.std.specs.Str.{is_utf8}
use Rattle.std.specs.Ordering.{eq_by_cmp, is_eq, is_lt}
use Rattle.std.specs.declared.cmp.Ordering.{Ordering}
use Rattle.std.specs.declared.cmp.Ordering.TheVariants.{Less, Equal, Greater}
use Rattle.std.specs.FinMap.{contains_key, contains_key-keys, empty, entries, entries_sorted, get, get-empty, get-insert, get_tied, insert, is_sorted, keys, nat_cmp-IsAntisymmetric, same_map, slice_cmp-IsAntisymmetric}
use Rattle.std.specs.FinMap.Entries.{below_all}
use Rattle.std.proofs.lemmas.List.{take_more}
use Rattle.std.proofs.lemmas.List.Folds.{list_all-append}
use Rattle.std.proofs.lemmas.Str.{is_utf8-from_IsUtf8}
use Rattle.std.proofs.lemmas.Cmp.{nat_list_cmp_total}
use Rattle.std.proofs.lemmas.Map.Text.{is_eq-slice_cmp}
use Rattle.std.specs.Cmp.Lexicographic.{pointwise, same_text}
use Rattle.kap_base.specs.Maps.{KeyMap, byte_order, with_entries}
use Rattle.kap_base.specs.Points.{PointValue, are_dimensions, rises}
use Rattle.kap_base.proofs.TestLaws.{first_of, second_of}
use Rattle.basic_nodes.specs.declared.dimensions.Grouping.{Grouping}
use Rattle.basic_nodes.specs.declared.dimensions.Grouping.TheVariants.{By}
use Rattle.basic_nodes.specs.Dimensions.{grouped, in_order, map_of}

both : (a b : Bool) → IsTrue a → IsTrue b → IsTrue (a && b)
both true b p q = q
both false b p q = absurd cc

first : (a b : Bool) → T (a && b) → T a
first true b p = tt
first false b p = absurd p

second : (a b : Bool) → T (a && b) → T b
second true b p = p
second false b p = absurd p

is_true : (b : Bool) → T b → IsTrue b
is_true true h = refl
is_true false h = absurd h

keys_rise : {X : Type 0} (es : List (List ℕ × X)) → T (is_sorted byte_order es) → IsTrue (rises (map (λ e. e.0) es))
keys_rise [] h = refl
keys_rise (e ∷ []) h = refl
keys_rise (e ∷ f ∷ es) h =
    let below = first (below_all byte_order e.0 (f ∷ es)) (is_sorted byte_order (f ∷ es)) h in
    let rest = second (below_all byte_order e.0 (f ∷ es)) (is_sorted byte_order (f ∷ es)) h in
    both (is_lt (byte_order e.0 f.0)) (rises (map (λ e. e.0) (f ∷ es)))
    (is_true (is_lt (byte_order e.0 f.0)) (first (is_lt (byte_order e.0 f.0)) (below_all byte_order e.0 es) below)) (keys_rise (f ∷ es) rest)

pub keys_fit : {X : Type 0} (m : KeyMap X) (names : List (List ℕ)) → names ≡ keys m → IsTrue (list_all is_utf8 names) → IsTrue (are_dimensions names)
keys_fit m names is utf8 = both (rises names) (list_all is_utf8 names) (rw is (keys_rise (entries m) (entries_sorted m))) utf8

-- one name more
pub all_more : (names : List (List ℕ)) (name : List ℕ) → IsTrue (list_all is_utf8 names) → IsUtf8 name → IsTrue (list_all is_utf8 (names ++ name ∷ []))
all_more names name h utf8 =
    list_all-append is_utf8 names (name ∷ [])
    ∙ both (list_all is_utf8 names) (list_all is_utf8 (name ∷ [])) h (both (is_utf8 name) true (is_utf8-from_IsUtf8 name utf8) refl)

-- ---- the names of a script in order

or-false : (a : Bool) → (a || false) ≡ a
or-false true = refl
or-false false = refl

pub in_order_rises : (names : List (List ℕ)) → IsTrue (rises (in_order names))
in_order_rises names = keys_rise (entries (map_of names)) (entries_sorted (map_of names))

-- the test by the order is that of equal bytes
any_alike : (text : List ℕ) (names : List (List ℕ)) → list_any (eq_by_cmp byte_order text) names ≡ list_any (bytes_eq text) names
any_alike text [] = refl
any_alike text (name ∷ names) = rw (is_eq-slice_cmp text name, any_alike text names) refl

or-or : (a b c : Bool) → ((a || b) || c) ≡ (b || (a || c))
or-or true true c = refl
or-or true false c = refl
or-or false b c = refl

found_first : (b : Bool) (o : Option (Unit {0})) → is_some (cond b (Some tt) o) ≡ (b || is_some o)
found_first true o = refl
found_first false o = refl

found : (text : List ℕ) (m : KeyMap (Unit {0})) (names : List (List ℕ)) → contains_key (with_entries m (map (λ name. (name, tt)) names)) text ≡ (contains_key m text || list_any (eq_by_cmp byte_order text) names)
found text m [] = sym (or-false (contains_key m text))
found text m (name ∷ names) =
    found text (insert m name tt) names
    ∙ rw (get-insert nat_list_cmp_total m name tt text, found_first (eq_by_cmp byte_order text name) (get m text))
    (or-or (eq_by_cmp byte_order text name) (contains_key m text) (list_any (eq_by_cmp byte_order text) names))

pub in_order_same : (text : List ℕ) (names : List (List ℕ)) → list_any (bytes_eq text) (in_order names) ≡ list_any (bytes_eq text) names
in_order_same text names =
    sym (any_alike text (in_order names))
    ∙ sym (contains_key-keys (map_of names) text)
    ∙ found text empty names
    ∙ rw (get-empty byte_order text) (any_alike text names)

pub ruleset ordered = (in_order_rises, in_order_same)

-- ---- a map that is made key by key

one_more : (m : KeyMap (Unit {0})) (names : List (List ℕ)) (name : List ℕ)
    → with_entries m (map (λ n. (n, tt)) (names ++ name ∷ [])) ≡ insert (with_entries m (map (λ n. (n, tt)) names)) name tt
one_more m [] name = refl
one_more m (n ∷ names) name = one_more (insert m n tt) names name

map_of_more : (names : List (List ℕ)) (name : List ℕ) → map_of (names ++ name ∷ []) ≡ insert (map_of names) name tt
map_of_more names name = one_more empty names name

pub map_of_next : (names : List (List ℕ)) (i : ℕ) (name : List ℕ) (old new : KeyMap (Unit {0})) → i < length names → name ≡ get_or names i name
    → old ≡ map_of (take i names) → new ≡ insert old name tt → new ≡ map_of (take (i + 1) names)
map_of_next names i name old new lt is so_far more =
    more ∙ ap (λ (m : KeyMap (Unit {0})). insert m name tt) so_far ∙ sym (map_of_more (take i names) name)
    ∙ ap (λ (n : List ℕ). map_of (take i names ++ n ∷ [])) is ∙ ap map_of (sym (take_more names i name lt))

is_equal : (o : Ordering) → is_eq o ≡ true → o ≡ Equal
is_equal Less e = absurd cc
is_equal Equal e = refl
is_equal Greater e = absurd cc

there : (o : Option (Unit {0})) → is_some o ≡ true → Some tt ≡ o
there (Some u) e = refl
there None e = absurd cc

-- a key that is there changes nothing
pub key_stays : (m : KeyMap (Unit {0})) (k : List ℕ) → contains_key m k ≡ true → insert m k tt ≡ m
key_stays m k in_m = same_map nat_list_cmp_total (slice_cmp-IsAntisymmetric nat_cmp-IsAntisymmetric) (insert m k tt) m (λ q. get-insert nat_list_cmp_total m k tt q ∙ at q (eq_by_cmp byte_order q k) refl)
  where
    at : (q : List ℕ) (b : Bool) → eq_by_cmp byte_order q k ≡ b → cond b (Some tt) (get m q) ≡ get m q
    at q true e = there (get m k) in_m ∙ get_tied nat_list_cmp_total m q k (is_equal (byte_order q k) e)
    at q false e = refl

-- lists of names that test equal are equal
pub same_names : (names others : List (List ℕ)) → pointwise (pointwise nat_eq) names others ≡ true → names ≡ others
same_names [] [] e = refl
same_names [] (other ∷ others) e = absurd cc
same_names (name ∷ names) [] e = absurd cc
same_names (name ∷ names) (other ∷ others) e =
    rw (same_text name other (sym (first_of (pointwise nat_eq name other) (pointwise (pointwise nat_eq) names others) e)), same_names names others (second_of (pointwise nat_eq name other) (pointwise (pointwise nat_eq) names others) e)) refl

-- a point that has these dimensions and is grouped by name or not, grouped so
pub grouped_still : (grouping : Grouping) (dims : List (List ℕ)) (by_name : Bool) (p : PointValue) → grouping ≡ By dims → dims ≡ p.dims → by_name ≡ p.by_name → grouped grouping by_name p ≡ p
grouped_still grouping dims by_name p is same also = rw (is, same, also) refl
