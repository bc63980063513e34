-- The group of a point is a group.
use Rattle.std.proofs.Common.{◌≡◌, ℕ, Bool, true, false, cond, List, [], ◌∷◌, map, Some, None, refl, unwrap_or}
use Rattle.std.specs.Prelude.{◌&&◌, ◌||◌, IsTrue, if◌then◌else◌}
use Rattle.std.specs.List.{list_all}
use Rattle.std.specs.Option.{option_map_or}
use Rattle.std.specs.Ordering.{eq_by_cmp}
use Rattle.std.specs.FinMap.{entries, find, get-entries, nat_cmp-IsAntisymmetric, slice_cmp-IsAntisymmetric}
use Rattle.std.specs.declared.cmp.Ordering.{Ordering}
use Rattle.std.specs.declared.cmp.Ordering.TheVariants.{Less, Equal, Greater}
use Rattle.std.specs.Ordering.{is_eq}
use Rattle.kap_base.specs.Maps.{KeyMap, byte_order}
use Rattle.kap_base.specs.Texts.{is_empty, is_name, is_measurement}
use Rattle.kap_base.specs.Points.{PointValue, IsPoint}
use Rattle.kap_base.specs.Groups.{IsGroup, group_of, tag_value, is_tag_value, are_tag_values}
use Rattle.kap_base.proofs.TestLaws.{both, first_of, second_of}

or_second : (a b : Bool) → IsTrue b → IsTrue (a || b)
or_second true b e = refl
or_second false b e = e

equal : (o : Ordering) → is_eq o ≡ true → o ≡ Equal
equal Less e = absurd cc
equal Equal e = refl
equal Greater e = absurd cc

abbrev are_names : List (List ℕ × List ℕ) → Bool
are_names es = list_all (λ e. is_name e.0 && is_name e.1) es

-- what is found among the tags fits the dimension
found_fits : (dim : List ℕ) (es : List (List ℕ × List ℕ)) → IsTrue (are_names es) → IsTrue (is_tag_value dim (unwrap_or (find byte_order dim es) []))
found_fits dim [] h = refl
found_fits dim (e ∷ es) h =
    elim (eq_by_cmp byte_order dim e.0) as (λ b. eq_by_cmp byte_order dim e.0 ≡ b → IsTrue (is_tag_value dim (unwrap_or (cond b (Some e.1) (find byte_order dim es)) []))) [
      | true ↦ λ t.
          let same : dim ≡ e.0 = slice_cmp-IsAntisymmetric nat_cmp-IsAntisymmetric dim e.0 (equal _ t) in
          let names = first_of (is_name e.0 && is_name e.1) (are_names es) h in
          or_second (is_empty e.1) (is_name dim && is_name e.1) (rw same names)
      | false ↦ λ t. found_fits dim es (second_of (is_name e.0 && is_name e.1) (are_names es) h)
    ] refl

values_fit : (tags : KeyMap (List ℕ)) (dims : List (List ℕ)) → IsTrue (are_names (entries tags)) → IsTrue (are_tag_values dims (map (tag_value tags) dims))
values_fit tags [] h = refl
values_fit tags (dim ∷ dims) h =
    both (is_tag_value dim (tag_value tags dim)) (are_tag_values dims (map (tag_value tags) dims))
    (rw (get-entries tags dim) (found_fits dim (entries tags) h)) (values_fit tags dims h)

name_fits : (b : Bool) (name : List ℕ) → IsTrue (is_measurement name) → IsTrue (option_map_or is_measurement (if b then Some name else None) true)
name_fits true name h = h
name_fits false name h = refl

pub group_is : (p : PointValue) → IsPoint p → IsGroup (group_of p)
group_is p h = record { name = name_fits p.by_name p.name h.name; dims = h.dims; values = values_fit p.tags p.dims h.tags }
