-- What serde_json reads, in the words of this crate.
use Rattle.std.proofs.Common.{◌≡◌, ℕ, ◌==◌, Bool, true, false, List, [], ◌∷◌, length, Option, Some, None, refl, sym, arith, IsUtf8}
use Rattle.std.specs.Prelude.{if◌then◌else◌}
use Rattle.std.specs.Str.{is_utf8}
use Rattle.std.proofs.lemmas.Str.{IsUtf8-from_is_utf8, is_utf8-from_IsUtf8}
use Rattle.std.proofs.lemmas.Bool.Decides.{nat_tests}
use Rattle.serde_json.specs.Data.{Data}
use Rattle.serde_json.specs.Read.{read}
use Rattle.serde_json.specs.View.{items_view}
use Rattle.serde_json.specs.declared.value.Value.{Value}
use Rattle.kap_http.specs.Bodies.{is_empty_list, json_of}

pub json_is : (body : List ℕ) (d : Data) → IsUtf8 body → read body ≡ Some d → json_of body ≡ Some d
unfolding json_of
json_is body d utf8 reads = rw (is_utf8-from_IsUtf8 body utf8) reads

pub json_none : (body : List ℕ) → (IsUtf8 body → read body ≡ None) → json_of body ≡ None
unfolding json_of
json_none body none = by_test (is_utf8 body) refl
  where
    by_test : (t : Bool) → is_utf8 body ≡ t → ◌≡◌ {A = Option Data} (if t then read body else None) None
    by_test true utf8 = none (IsUtf8-from_is_utf8 body utf8)
    by_test false utf8 = refl

pub empty_list : (items : List Value) → is_empty_list (Some (items_view items)) ≡ (length items == 0)
empty_list [] = refl
empty_list (x ∷ xs) = let some : (length (x ∷ xs) == 0) ≡ false = grind (arith, nat_tests) in sym some
