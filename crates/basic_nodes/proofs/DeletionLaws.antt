-- A point without some of its fields and tags is a point.
use Rattle.std.proofs.Common.{◌≡◌, ℕ, Bool, true, false, cond, T, List, [], ◌∷◌, map, refl, sym, ap, subst, ◌∙◌, arith}
use Rattle.std.specs.Prelude.{◌&&◌, ◌==◌, nat_lt, filter, IsTrue}
use Rattle.std.specs.List.{list_all}
use Rattle.std.specs.Str.{is_utf8}
use Rattle.std.specs.Ordering.{is_lt}
use Rattle.std.specs.FinMap.{entries, is_sorted, len, retain_keys}
use Rattle.std.specs.FinMap.Entries.{is_sorted-where_key, where_key}
use Rattle.std.proofs.lemmas.Bool.Decides.{nat_tests}
use Rattle.kap_base.specs.declared.value.Value.{Value}
use Rattle.kap_base.specs.Maps.{KeyMap, byte_order}
use Rattle.kap_base.specs.Points.{IsPoint, PointValue, are_dimensions, rises}
use Rattle.kap_base.proofs.ManyLaws.{rises_not, rises_step}
use Rattle.kap_base.proofs.RetainLaws.{all_left, entries-retained}
use Rattle.kap_base.proofs.TestLaws.{both, first_of, second_of}

-- names as keys at which nothing stands
keyed : List (List ℕ) → List (List ℕ × Unit {0})
keyed names = map (λ name. (name, tt)) names

rises-sorted : (names : List (List ℕ)) → rises names ≡ is_sorted byte_order (keyed names)
unfolding keyed
rises-sorted [] = refl
rises-sorted (a ∷ []) = refl
rises-sorted (a ∷ b ∷ names) = elim (is_lt (byte_order a b)) as (λ l. is_lt (byte_order a b) ≡ l → (l && rises (b ∷ names)) ≡ is_sorted byte_order (keyed (a ∷ b ∷ names))) [
  | true ↦ λ e. rises-sorted (b ∷ names) ∙ rises_step (a, tt) (keyed (b ∷ names)) e
  | false ↦ λ e. sym (rises_not (a, tt) (keyed (b ∷ names)) e)
] refl

keyed-filter : (p : List ℕ → Bool) (names : List (List ℕ)) → keyed (filter p names) ≡ where_key byte_order p (keyed names)
unfolding keyed
keyed-filter p [] = refl
keyed-filter p (a ∷ names) = elim (p a) as (λ b. keyed (cond b (a ∷ filter p names) (filter p names)) ≡ cond b ((a, tt) ∷ where_key byte_order p (keyed names)) (where_key byte_order p (keyed names))) [
  | true ↦ ap (λ l. (a, tt) ∷ l) (keyed-filter p names)
  | false ↦ keyed-filter p names
]

holds : (b : Bool) → IsTrue b → T b
holds b e = subst T (sym e) tt

is_true : (b : Bool) → T b → IsTrue b
is_true true h = refl
is_true false h = absurd h

rises_left : (p : List ℕ → Bool) (names : List (List ℕ)) → IsTrue (rises names) → IsTrue (rises (filter p names))
rises_left p names h =
    let sorted : T (is_sorted byte_order (keyed names)) = holds (is_sorted byte_order (keyed names)) (sym (rises-sorted names) ∙ h) in
    rises-sorted (filter p names) ∙ ap (is_sorted byte_order) (keyed-filter p names) ∙ is_true _ (is_sorted-where_key byte_order p (keyed names) sorted)

dims_left : (p : List ℕ → Bool) (names : List (List ℕ)) → IsTrue (are_dimensions names) → IsTrue (are_dimensions (filter p names))
dims_left p names h =
    both (rises (filter p names)) (list_all is_utf8 (filter p names))
    (rises_left p names (first_of (rises names) (list_all is_utf8 names) h)) (all_left is_utf8 p names (second_of (rises names) (list_all is_utf8 names) h))

-- a point with what is left, which is some field at least
pub left_fits : (p : PointValue) (f t : List ℕ → Bool) (fields : KeyMap Value) (tags : KeyMap (List ℕ)) (dims : List (List ℕ)) → fields ≡ retain_keys p.fields f → tags ≡ retain_keys p.tags t
    → dims ≡ filter t p.dims → (len fields == 0) ≡ false → IsPoint p → IsPoint (record p { fields = fields; tags = tags; dims = dims })
left_fits p f t fields tags dims fields_are tags_are dims_are some h = record {
  db = h.db;
  rp = h.rp;
  name = h.name;
  tags = rw (tags_are, entries-retained t p.tags) (all_left _ _ (entries p.tags) h.tags);
  fields = rw (fields_are, entries-retained f p.fields) (all_left _ _ (entries p.fields) h.fields);
  some_field = above_zero (len fields) some;
  dims = rw dims_are (dims_left t p.dims h.dims);
  time = h.time;
}
  where
    above_zero : (n : ℕ) → (n == 0) ≡ false → IsTrue (nat_lt 0 n)
    above_zero n e = grind (arith, nat_tests)
