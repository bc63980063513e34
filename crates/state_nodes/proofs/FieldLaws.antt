-- A point can have one number as its one field.
use Rattle.std.proofs.Common.{◌≡◌, ℕ, List, [], ◌∷◌, length, refl, sym, ap, ◌∙◌, arith}
use Rattle.std.specs.Prelude.{◌&&◌, nat_lt, Bool, true, false, IsTrue}
use Rattle.std.specs.FinMap.{empty, entries, entries-insert, entries-from_sorted, from_sorted, insert, len, len-entries, put}
use Rattle.std.proofs.lemmas.Bool.Decides.{nat_tests}
use Rattle.std.proofs.lemmas.Cmp.{nat_list_cmp_total}
use Rattle.kap_base.proofs.KeyMapLaws.{empty-from_sorted}
use Rattle.kap_base.specs.Maps.{KeyMap, byte_order}
use Rattle.kap_base.specs.Points.{are_fields, is_value}
use Rattle.kap_base.specs.Texts.{is_name}
use Rattle.kap_base.specs.declared.value.Value.{Value}

no_fields : KeyMap Value
no_fields = empty

no_entries : entries no_fields ≡ []
unfolding no_fields
no_entries =
    let none : List (List ℕ × Value) = [] in
    let is : from_sorted none ≡ no_fields = empty-from_sorted none refl in
    ap entries (sym is) ∙ entries-from_sorted byte_order none tt

one_entry : (name : List ℕ) (v : Value) → entries (insert no_fields name v) ≡ (name, v) ∷ []
unfolding no_fields
one_entry name v = entries-insert nat_list_cmp_total no_fields name v ∙ ap (put byte_order name v) no_entries

entries_are : (none some : KeyMap Value) (name : List ℕ) (v : Value) → none ≡ empty → some ≡ insert none name v → entries some ≡ (name, v) ∷ []
unfolding no_fields
entries_are none some name v before is = ap entries (is ∙ ap (λ (m : KeyMap Value). insert m name v) before) ∙ one_entry name v

both_and : (a b : Bool) → IsTrue a → IsTrue b → IsTrue ((a && b) && true)
both_and true true a b = refl
both_and true false a b = absurd cc
both_and false b a c = absurd cc

-- one field that a point can have
pub one_fits : (none some : KeyMap Value) (name : List ℕ) (v : Value) → none ≡ empty → some ≡ insert none name v → IsTrue (is_name name) → IsTrue (is_value v) → IsTrue (are_fields some)
one_fits none some name v before is named valued = rw (entries_are none some name v before is) (both_and (is_name name) (is_value v) named valued)

above_zero : (n : ℕ) → n ≡ 1 → IsTrue (nat_lt 0 n)
above_zero n e = grind (arith, nat_tests)

-- is enough
pub one_is_some : (none some : KeyMap Value) (name : List ℕ) (v : Value) → none ≡ empty → some ≡ insert none name v → IsTrue (nat_lt 0 (len some))
one_is_some none some name v before is = above_zero (len some) (len-entries some ∙ ap length (entries_are none some name v before is))
