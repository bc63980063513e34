-- A point with one more field is a point.
use Rattle.std.proofs.Common.{ℕ, ◌<◌, Bool, true, List, [], ◌∷◌, length, refl, arith}
use Rattle.std.specs.Prelude.{◌&&◌, nat_lt, IsTrue}
use Rattle.std.specs.List.{list_all}
use Rattle.std.specs.FinMap.{entries, insert, len, len-entries, entries-insert, put}
use Rattle.std.specs.FinMap.Entries.{by_order}
use Rattle.std.specs.declared.cmp.Ordering.TheVariants.{Less, Equal, Greater}
use Rattle.std.proofs.lemmas.Cmp.{nat_list_cmp_total}
use Rattle.std.proofs.lemmas.Bool.Decides.{nat_tests}
use Rattle.kap_base.specs.Maps.{KeyMap, byte_order}
use Rattle.kap_base.specs.Points.{PointValue, IsPoint, is_value}
use Rattle.kap_base.specs.Texts.{is_name}
use Rattle.kap_base.specs.declared.value.Value.{Value}
use Rattle.kap_base.proofs.TestLaws.{both, first_of, second_of}

abbrev pub Entry : Type 0
Entry = List ℕ × Value

-- a name and a value
abbrev pub is_field : Entry → Bool
is_field e = is_name e.0 && is_value e.1

abbrev pub AreFields : List Entry → Type 0
AreFields es = IsTrue (list_all is_field es)

fields-put : (k : List ℕ) (v : Value) (es : List Entry) → IsTrue (is_field (k, v)) → AreFields es → AreFields (put byte_order k v es)
fields-put k v [] h hs = both (is_field (k, v)) true h refl
fields-put k v (e ∷ es) h hs =
    let here = first_of (is_field e) (list_all is_field es) hs in
    let rest = second_of (is_field e) (list_all is_field es) hs in
    elim (byte_order k e.0) as (λ o. AreFields (by_order o ((k, v) ∷ e ∷ es) ((e.0, v) ∷ es) (e ∷ put byte_order k v es))) [
      | Less ↦ both (is_field (k, v)) (list_all is_field (e ∷ es)) h hs
      | Equal ↦ both (is_field (e.0, v)) (list_all is_field es) (both (is_name e.0) (is_value v) (first_of (is_name e.0) (is_value e.1) here) (second_of (is_name k) (is_value v) h)) rest
      | Greater ↦ both (is_field e) (list_all is_field (put byte_order k v es)) here (fields-put k v es h rest)
    ]

some-put : (k : List ℕ) (v : Value) (es : List Entry) → 0 < length (put byte_order k v es)
some-put k v [] = omega arith
some-put k v (e ∷ es) = elim (byte_order k e.0) as (λ o. 0 < length (by_order o ((k, v) ∷ e ∷ es) ((e.0, v) ∷ es) (e ∷ put byte_order k v es))) [
  | Less ↦ omega arith
  | Equal ↦ omega arith
  | Greater ↦ omega arith
]

some-insert : (m : KeyMap Value) (k : List ℕ) (v : Value) → 0 < len (insert m k v)
some-insert m k v = rw (len-entries (insert m k v), entries-insert nat_list_cmp_total m k v) (some-put k v (entries m))

below_test : (a b : ℕ) → a < b → IsTrue (nat_lt a b)
below_test a b h = grind (arith, nat_tests)

-- with a field under a name
pub with_field : (p : PointValue) (name : List ℕ) (v : Value) → IsPoint p → IsTrue (is_name name) → IsTrue (is_value v) → IsPoint (record p { fields = insert p.fields name v })
with_field p name v h n x = record {
  db = h.db;
  rp = h.rp;
  name = h.name;
  tags = h.tags;
  fields = rw (entries-insert nat_list_cmp_total p.fields name v) (fields-put name v (entries p.fields) (both (is_name name) (is_value v) n x) h.fields);
  some_field = below_test _ _ (some-insert p.fields name v);
  dims = h.dims;
  time = h.time;
}
