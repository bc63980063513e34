-- Walking a path leads where its parts lead.
use Rattle.std.proofs.Common.{◌≡◌, ℕ, suc, ◌+◌, ◌==◌, Bool, true, false, not, List, [], ◌∷◌, take, drop, Option, Some, None, refl, sym, ap, arith, codes}
use Rattle.std.specs.Prelude.{IfSome, option_map, option_and_then, if◌then◌else◌}
use Rattle.std.specs.List.{list_any, position_or_len}
use Rattle.form_urlencoded.specs.Form.{onto_first, split}
use Rattle.kap_http.specs.declared.path.Place.{Place}
use Rattle.kap_http.specs.declared.path.Place.TheVariants as places
use Rattle.kap_http.specs.Paths.{is_slash, is_part, parts_of, behind, behind_both, choose, only, all_or_one, under_version, way_of, Way}
use Rattle.kap_http.specs.Walks.{part_in, behind_part, strip, strip_both, ends, ends_or_one, walk, walk_version}

-- nothing, or what begins with a slash
abbrev IsRest : List ℕ → Type 0
IsRest [] = Unit {0}
IsRest (b ∷ bytes) = is_slash b ≡ true

-- a list of some part
record HasPart (parts : List (List ℕ)) : Type 0 where
  first : List ℕ
  others : List (List ℕ)
  is : parts ≡ first ∷ others

onto_some : (b : ℕ) (parts : List (List ℕ)) → HasPart (onto_first b parts)
onto_some b [] = record { first = b ∷ []; others = []; is = refl }
onto_some b (part ∷ parts) = record { first = b ∷ part; others = parts; is = refl }

split_some : (bytes : List ℕ) → HasPart (split 47 bytes)
unfolding split
split_some [] = record { first = []; others = []; is = refl }
split_some (b ∷ bytes) = elim (b == 47) as (λ t. HasPart (if t then [] ∷ split 47 bytes else onto_first b (split 47 bytes))) [
  | true ↦ record { first = []; others = split 47 bytes; is = refl }
  | false ↦ onto_some b (split 47 bytes)
]

-- ---- the first part

take_more : (b n : ℕ) (bytes : List ℕ) → take (1 + n) (b ∷ bytes) ≡ b ∷ take n bytes
take_more b n bytes = let more : 1 + n ≡ suc n = omega arith in rw more refl

drop_more : (b n : ℕ) (bytes : List ℕ) → drop (1 + n) (b ∷ bytes) ≡ drop n bytes
drop_more b n bytes = let more : 1 + n ≡ suc n = omega arith in rw more refl

abbrev IsCut : List ℕ → Type 0
IsCut bytes = split 47 bytes ≡ part_in bytes ∷ parts_of (behind_part bytes)

split_is : (bytes : List ℕ) → IsCut bytes
unfolding split
split_is [] = refl
split_is (b ∷ bytes) = by_test (b == 47) refl (split_is bytes)
  where
    by_test : (t : Bool) → (b == 47) ≡ t → IsCut bytes → IsCut (b ∷ bytes)
    by_test true here cut = rw here (rw here refl)
    by_test false here cut =
        rw (here, take_more b (position_or_len is_slash bytes) bytes, drop_more b (position_or_len is_slash bytes) bytes, cut) refl

rest_of : (bytes : List ℕ) → IsRest (behind_part bytes)
rest_of [] = tt
rest_of (b ∷ bytes) = by_test (b == 47) refl (rest_of bytes)
  where
    by_test : (t : Bool) → (b == 47) ≡ t → IsRest (behind_part bytes) → IsRest (behind_part (b ∷ bytes))
    by_test true here rest = rw here here
    by_test false here rest = rw (here, drop_more b (position_or_len is_slash bytes) bytes) rest

-- ---- words

-- the rest of a path, and what stands for it in its parts
record Stripped (found : Option (List ℕ)) (due : Option (List (List ℕ))) : Type 0 where
  is : option_map parts_of found ≡ due
  rest : IfSome found IsRest

strip_is : (word path : List ℕ) → Stripped (strip word path) (behind word (parts_of path))
strip_is word [] = record { is = refl; rest = tt }
strip_is word (b ∷ bytes) = by_test (b == 47) refl
  where
    by_word : (t : Bool) → Stripped (if t then Some (behind_part bytes) else None) (if t then Some (parts_of (behind_part bytes)) else None)
    by_word true = record { is = refl; rest = rest_of bytes }
    by_word false = record { is = refl; rest = tt }

    by_test : (t : Bool) → (b == 47) ≡ t → Stripped (strip word (b ∷ bytes)) (behind word (parts_of (b ∷ bytes)))
    by_test true here = rw (here, split_is bytes) (by_word (is_part word (part_in bytes)))
    by_test false here = rw here (record { is = refl; rest = tt })

strip_both_is : (first second path : List ℕ) → Stripped (strip_both first second path) (behind_both first second (parts_of path))
strip_both_is first second path = by_first (strip first path) (behind first (parts_of path)) (strip_is first path)
  where
    by_first : (found : Option (List ℕ)) (due : Option (List (List ℕ))) → Stripped found due
        → Stripped (option_and_then (strip second) found) (option_and_then (behind second) due)
    by_first None due is = rw (sym is.is) (record { is = refl; rest = tt })
    by_first (Some rest) due is = rw (sym is.is) (strip_is second rest)

-- ---- what stands behind

-- ways from a rest are ways from its parts
abbrev Follows : (List ℕ → Option Way) → (List (List ℕ) → Option Way) → Type 0
Follows walk way = (rest : List ℕ) → IsRest rest → walk rest ≡ way (parts_of rest)

ends_is : (place : Place) → Follows (ends place) (only place)
ends_is place [] begun = refl
ends_is place (b ∷ bytes) begun = let some = split_some bytes in rw (begun, some.is) refl

-- one part where no slash stands, else two at least
abbrev IsOne : List ℕ → Bool → List (List ℕ) → Type 0
IsOne bytes true parts = (first : List ℕ) × (second : List ℕ) × (others : List (List ℕ)) × (parts ≡ first ∷ second ∷ others)
IsOne bytes false parts = parts ≡ bytes ∷ []

one_is : (bytes : List ℕ) → IsOne bytes (list_any is_slash bytes) (split 47 bytes)
unfolding split
one_is [] = refl
one_is (b ∷ bytes) = by_test (b == 47) refl (one_is bytes)
  where
    onto : (t : Bool) → IsOne bytes t (split 47 bytes) → IsOne (b ∷ bytes) t (onto_first b (split 47 bytes))
    onto true one = (b ∷ one.0, one.1, one.2, ap (onto_first b) one.3)
    onto false one = ap (onto_first b) one

    by_test : (t : Bool) → (b == 47) ≡ t → IsOne bytes (list_any is_slash bytes) (split 47 bytes) → IsOne (b ∷ bytes) (list_any is_slash (b ∷ bytes)) (split 47 (b ∷ bytes))
    by_test true here one = let some = split_some bytes in rw here ([], some.first, some.others, ap (λ (x : List (List ℕ)). [] ∷ x) some.is)
    by_test false here one = rw here (onto (list_any is_slash bytes) one)

ends_or_one_is : (all one : Place) → Follows (ends_or_one all one) (all_or_one all one)
ends_or_one_is all one [] begun = refl
ends_or_one_is all one (b ∷ bytes) begun = rw begun (by_any (list_any is_slash bytes) (one_is bytes))
  where
    by_any : (t : Bool) → IsOne bytes t (split 47 bytes)
        → option_map (λ name. (one, name)) (if not t then Some bytes else None) ≡ all_or_one all one (split 47 bytes)
    by_any true parts = rw parts.3 refl
    by_any false parts = rw parts refl

-- ---- ways

choose_is : (found : Option (List ℕ)) (due : Option (List (List ℕ))) (walk : List ℕ → Option Way) (way : List (List ℕ) → Option Way) (other by : Option Way)
    → Stripped found due → Follows walk way → other ≡ by → choose found walk other ≡ choose due way by
choose_is None due walk way other by is follows same = rw (sym is.is) same
choose_is (Some rest) due walk way other by is follows same = rw (sym is.is) (follows rest is.rest)

version_is : Follows walk_version under_version
version_is rest begun =
    choose_is _ _ _ _ _ _ (strip_is (codes "ping") rest) (ends_is places.Ping)
    (choose_is _ _ _ _ _ _ (strip_is (codes "write") rest) (ends_is places.Write)
    (choose_is _ _ _ _ _ _ (strip_is (codes "tasks") rest) (ends_or_one_is places.Tasks places.Task)
    (choose_is _ _ _ _ _ _ (strip_both_is (codes "alerts") (codes "topics") rest) (ends_or_one_is places.Topics places.Topic) refl)))

pub walk_is : (path : List ℕ) → walk path ≡ way_of path
unfolding walk way_of
walk_is path =
    choose_is _ _ _ _ _ _ (strip_is (codes "write") path) (ends_is places.Write)
    (choose_is _ _ _ _ _ _ (strip_both_is (codes "kapacitor") (codes "v1") path) version_is refl)
