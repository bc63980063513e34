-- Values have one key exactly where they are the same.
use Rattle.std.proofs.Common.{◌≡◌, Bool, true, false, ◌||◌, List, [], ◌∷◌, refl, sym, ap, ◌∙◌, subst, arith}
use Rattle.std.specs.Prelude.{pos, if◌then◌else◌}
use Rattle.std.specs.Bool.{Decides, one_answer}
use Rattle.std.specs.Cmp.{IsTotalOrder, int_cmp_total, nat_cmp_total, on_total, then_total, tied_itself}
use Rattle.std.specs.FinMap.{int_cmp-IsAntisymmetric, nat_cmp-IsAntisymmetric, slice_cmp-IsAntisymmetric}
use Rattle.std.specs.List.{list_any}
use Rattle.std.specs.Ordering.{int_cmp, is_eq, match_ordering, nat_cmp, ordering_then}
use Rattle.std.specs.Cmp.Lexicographic.{slice_cmp}
use Rattle.std.specs.declared.cmp.Ordering.{Ordering}
use Rattle.std.specs.declared.cmp.Ordering.TheVariants.{Less, Equal, Greater}
use Rattle.std.specs.BTreeSet.{insert_key}
use Rattle.std.proofs.lemmas.Cmp.{nat_list_cmp_total}
use Rattle.std.proofs.lemmas.Int.{ints}
use Rattle.kap_base.specs.declared.value.Value.{Value}
use Rattle.kap_base.specs.declared.value.Value.TheVariants.{Int, Bool as Truth, Str}
use Rattle.kap_base.specs.Values.{is_same_value}
use Rattle.kap_base.proofs.ValueLaws.{values_decided}
use Rattle.select_nodes.specs.Steps.{KeptKey, KeyValue, compare_keys, is_seen, key_of, seen_key}

-- ---- keys

-- the kinds of keys, their numbers and their texts
kinds : (a b : KeyValue) → a ≡ b → a.0 ≡ b.0
kinds a b e = ap (λ (k : KeyValue). k.0) e

ints_of : (a b : KeyValue) → a ≡ b → a.1 ≡ b.1
ints_of a b e = ap (λ (k : KeyValue). k.1) e

texts_of : (a b : KeyValue) → a ≡ b → a.2 ≡ b.2
texts_of a b e = ap (λ (k : KeyValue). k.2) e

truth_of : (a b : Bool) → pos (if a then 1 else 0) ≡ pos (if b then 1 else 0) → a ≡ b
truth_of true true e = refl
truth_of true false e = absurd (omega (arith, ints, e))
truth_of false true e = absurd (omega (arith, ints, e))
truth_of false false e = refl

one_key : (a b : Value) → key_of a ≡ key_of b → a ≡ b
one_key (Int a) (Int b) e = ap Int (ints_of (key_of (Int a)) (key_of (Int b)) e)
one_key (Int a) (Truth b) e = absurd (omega (arith, kinds (key_of (Int a)) (key_of (Truth b)) e))
one_key (Int a) (Str b) e = absurd (omega (arith, kinds (key_of (Int a)) (key_of (Str b)) e))
one_key (Truth a) (Int b) e = absurd (omega (arith, kinds (key_of (Truth a)) (key_of (Int b)) e))
one_key (Truth a) (Truth b) e = ap Truth (truth_of a b (ints_of (key_of (Truth a)) (key_of (Truth b)) e))
one_key (Truth a) (Str b) e = absurd (omega (arith, kinds (key_of (Truth a)) (key_of (Str b)) e))
one_key (Str a) (Int b) e = absurd (omega (arith, kinds (key_of (Str a)) (key_of (Int b)) e))
one_key (Str a) (Truth b) e = absurd (omega (arith, kinds (key_of (Str a)) (key_of (Truth b)) e))
one_key (Str a) (Str b) e = ap Str (texts_of (key_of (Str a)) (key_of (Str b)) e)

keys_total : IsTotalOrder compare_keys
keys_total = then_total (then_total (on_total (λ (k : KeyValue). k.0) nat_cmp_total) (on_total (λ (k : KeyValue). k.1) int_cmp_total))
    (on_total (λ (k : KeyValue). k.2) nat_list_cmp_total)

then_first : (o p : Ordering) → ordering_then o p ≡ Equal → o ≡ Equal
then_first Less p e = absurd cc
then_first Equal p e = refl
then_first Greater p e = absurd cc

then_second : (o p : Ordering) → ordering_then o p ≡ Equal → p ≡ Equal
then_second Less p e = absurd cc
then_second Equal p e = e
then_second Greater p e = absurd cc

equal_keys : (a b : KeyValue) → compare_keys a b ≡ Equal → a ≡ b
equal_keys a b e =
    let front = then_first (ordering_then (nat_cmp a.0 b.0) (int_cmp a.1 b.1)) (slice_cmp nat_cmp a.2 b.2) e in
    let kind : a.0 ≡ b.0 = nat_cmp-IsAntisymmetric a.0 b.0 (then_first (nat_cmp a.0 b.0) (int_cmp a.1 b.1) front) in
    let number : a.1 ≡ b.1 = int_cmp-IsAntisymmetric a.1 b.1 (then_second (nat_cmp a.0 b.0) (int_cmp a.1 b.1) front) in
    let text : a.2 ≡ b.2 = slice_cmp-IsAntisymmetric nat_cmp-IsAntisymmetric a.2 b.2
    (then_second (ordering_then (nat_cmp a.0 b.0) (int_cmp a.1 b.1)) (slice_cmp nat_cmp a.2 b.2) e) in
    (λ i. (kind i, number i, text i))

is_equal : (o : Ordering) → is_eq o ≡ true → o ≡ Equal
is_equal Less e = absurd cc
is_equal Equal e = refl
is_equal Greater e = absurd cc

keys_decided : (a b : Value) → Decides (is_eq (compare_keys (key_of a) (key_of b))) (a ≡ b)
keys_decided a b = (
  λ e. one_key a b (equal_keys (key_of a) (key_of b) (is_equal (compare_keys (key_of a) (key_of b)) e)),
  λ e. subst (λ (v : Value). is_eq (compare_keys (key_of a) (key_of v)) ≡ true) e (ap is_eq (tied_itself keys_total (key_of a))),
)

pub key_same : (a b : Value) → is_eq (compare_keys (key_of a) (key_of b)) ≡ is_same_value a b
key_same a b = one_answer (is_eq (compare_keys (key_of a) (key_of b))) (is_same_value a b) (keys_decided a b) (values_decided a b)

-- ---- a key more

swapped : (a b c : Bool) → (a || (b || c)) ≡ (b || (a || c))
swapped true true c = refl
swapped true false c = refl
swapped false b c = refl

twice : (a c : Bool) → (a || c) ≡ (a || (a || c))
twice true c = refl
twice false c = refl

module _ {K : Type 0} (cmp : K → K → Ordering) (test : K → Bool) (alike : (a b : K) → cmp a b ≡ Equal → test a ≡ test b) where
  pub any-insert_key : (ks : List K) (k : K) → list_any test (insert_key cmp ks k) ≡ (test k || list_any test ks)
  any-insert_key [] k = refl
  any-insert_key (x ∷ xs) k =
      elim (cmp k x) as (λ o. cmp k x ≡ o → list_any test (match_ordering o (k ∷ x ∷ xs) (x ∷ xs) (x ∷ insert_key cmp xs k)) ≡
      (test k || (test x || list_any test xs))) [
        | Less ↦ λ e. refl
        | Equal ↦ λ e. twice (test x) (list_any test xs) ∙ ap (λ b. b || (test x || list_any test xs)) (sym (alike k x e))
        | Greater ↦ λ e. ap (λ b. test x || b) (any-insert_key xs k) ∙ swapped (test x) (test k) (list_any test xs)
      ] refl

abbrev pub kept_cmp : KeptKey → KeptKey → Ordering
kept_cmp a b = compare_keys (seen_key a) (seen_key b)

pub seen_more : (ks : List KeptKey) (k : KeptKey) (v w : Value) → seen_key k ≡ key_of w → is_seen (insert_key kept_cmp ks k) v ≡ (is_same_value v w || is_seen ks v)
seen_more ks k v w is =
    any-insert_key kept_cmp (λ (x : KeptKey). is_eq (compare_keys (key_of v) (seen_key x)))
    (λ a b e. ap (λ (x : KeyValue). is_eq (compare_keys (key_of v) x)) (equal_keys (seen_key a) (seen_key b) e)) ks k
    ∙ ap (λ (x : KeyValue). is_eq (compare_keys (key_of v) x) || is_seen ks v) is
    ∙ ap (λ b. b || is_seen ks v) (key_same v w)
