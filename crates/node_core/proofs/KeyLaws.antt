-- Points are of one group exactly where they have one key.
use Rattle.std.proofs.Common.{◌≡◌, ℕ, ◌<◌, Bool, true, false, cond, ltb, not, List, [], ◌∷◌, ◌++◌, map, Option, Some, None, refl, sym, ap, subst, ◌∙◌, append_assoc, arith, inl, inr, unwrap_or}
use Rattle.std.specs.Prelude.{◌&&◌, IsTrue}
use Rattle.std.specs.FinMap.{entries, get-entries}
use Rattle.std.specs.FinMap.Entries.{find}
use Rattle.std.specs.List.{flat_map, list_all}
use Rattle.std.specs.Ordering.{eq_by_cmp}
use Rattle.std.specs.Str.{is_utf8}
use lib.Utf8.{scalar, scalars, scalar_cases, encode, encodes}
use Rattle.std.proofs.lemmas.Bool.Decides.{nat_tests}
use Rattle.std.proofs.lemmas.Str.{IsUtf8-from_is_utf8}
use Rattle.kap_base.specs.Maps.{KeyMap, byte_order}
use Rattle.kap_base.specs.Points.{PointValue, IsPoint, rises}
use Rattle.kap_base.specs.Texts.{is_empty, is_line, is_name, is_measurement, has_line_feed, ends_with, begins_with, backslash, number_sign}
use Rattle.kap_base.specs.Groups.{GroupValue, group_of, tag_value}
use Rattle.node_core.specs.Keys.{mark, ended, name_part, dim_part, group_key}

-- no mark stands in it
abbrev Clean : List ℕ → Type 0
Clean [] = Unit {0}
Clean (b ∷ bs) = (b < 255) × Clean bs

clean-append : (a b : List ℕ) → Clean a → Clean b → Clean (a ++ b)
clean-append [] b p q = q
clean-append (x ∷ a) b p q = (p.0, clean-append a b p.1 q)

-- ---- texts are clean

clean-cond : (b : Bool) (x y : List ℕ) → (b ≡ true → Clean x) → (b ≡ false → Clean y) → Clean (cond b x y)
clean-cond true x y f g = f refl
clean-cond false x y f g = g refl

below : (c n : ℕ) → ltb c n ≡ true → c < n
below c n e = grind (arith, nat_tests)

clean-one : (c : ℕ) → c < 1114112 → Clean (encode c)
unfolding encode
clean-one c lt = clean-cond (ltb c 128) _ _
    (λ e. let l : c < 128 = below c 128 e in (omega arith, tt))
    (λ e. clean-cond (ltb c 2048) _ _
    (λ f. let l : c < 2048 = below c 2048 f in (omega arith, (omega arith, tt)))
    (λ f. clean-cond (ltb c 65536) _ _
    (λ g. let l : c < 65536 = below c 65536 g in (omega arith, (omega arith, (omega arith, tt))))
    (λ g. (omega arith, (omega arith, (omega arith, (omega arith, tt)))))))

both-first : (a b : Bool) → (a && b) ≡ true → a ≡ true
both-first true b e = refl
both-first false b e = e

both-second : (a b : Bool) → (a && b) ≡ true → b ≡ true
both-second true b e = e
both-second false b e = absurd cc

scalar-below : (c : ℕ) → scalar c ≡ true → c < 1114112
scalar-below c e = elim (scalar_cases c e) [
  | inl h ↦ omega arith
  | inr h ↦ h.1
]

clean-all : (cs : List ℕ) → scalars cs ≡ true → Clean (encodes cs)
clean-all [] e = tt
clean-all (c ∷ cs) e = clean-append (encode c) (encodes cs) (clean-one c (scalar-below c (both-first (scalar c) (scalars cs) e))) (clean-all cs (both-second (scalar c) (scalars cs) e))

clean-utf8 : (bs : List ℕ) → is_utf8 bs ≡ true → Clean bs
clean-utf8 bs e = let h = IsUtf8-from_is_utf8 bs e in subst Clean h.1.1 (clean-all h.0 h.1.0)

clean-line : (bs : List ℕ) → IsTrue (is_line bs) → Clean bs
clean-line bs e = clean-utf8 bs (both-second (not (has_line_feed bs)) (is_utf8 bs) e)

clean-name : (bs : List ℕ) → IsTrue (is_name bs) → Clean bs
clean-name bs e = clean-line bs (both-second (not (is_empty bs) && not (ends_with backslash bs)) (is_line bs) e)

some-name : (bs : List ℕ) → IsTrue (is_name bs) → is_empty bs ≡ false
some-name bs e = turned (is_empty bs) (both-first (not (is_empty bs)) (not (ends_with backslash bs)) (both-first (not (is_empty bs) && not (ends_with backslash bs)) (is_line bs) e))
  where
    turned : (b : Bool) → not b ≡ true → b ≡ false
    turned true e = absurd cc
    turned false e = refl

measured-name : (bs : List ℕ) → IsTrue (is_measurement bs) → IsTrue (is_name bs)
measured-name bs e = both-second (not (begins_with number_sign bs)) (is_name bs) e

-- ---- the values of tags

-- a name and a value that is one
abbrev is_tag : List ℕ × List ℕ → Bool
is_tag e = is_name e.0 && is_name e.1

find-clean : (es : List (List ℕ × List ℕ)) (d : List ℕ) → IsTrue (list_all is_tag es) → Clean (unwrap_or (find byte_order d es) [])
find-clean [] d h = tt
find-clean (e ∷ es) d h = elim (eq_by_cmp byte_order d e.0) as (λ b. Clean (unwrap_or (cond b (Some e.1) (find byte_order d es)) [])) [
  | true ↦ clean-name e.1 (both-second (is_name e.0) (is_name e.1) (both-first (is_tag e) (list_all is_tag es) h))
  | false ↦ find-clean es d (both-second (is_tag e) (list_all is_tag es) h)
]

clean-value : (tags : KeyMap (List ℕ)) (d : List ℕ) → IsTrue (list_all is_tag (entries tags)) → Clean (tag_value tags d)
clean-value tags d h = rw get-entries (find-clean (entries tags) d h)

-- ---- cutting at the first mark

cut : (a b x y : List ℕ) → Clean a → Clean b → ended a ++ x ≡ ended b ++ y → (a ≡ b) × (x ≡ y)
cut [] [] x y p q e = (refl, cc)
cut [] (d ∷ b) x y p q e = let is : mark ≡ d = cc in absurd (omega (arith, q.0))
cut (c ∷ a) [] x y p q e = let is : c ≡ mark = cc in absurd (omega (arith, p.0))
cut (c ∷ a) (d ∷ b) x y p q e =
    let is : c ≡ d = cc in
    let rest : ended a ++ x ≡ ended b ++ y = cc in
    let both = cut a b x y p.1 q.1 rest in
    let same : a ≡ b = both.0 in
    (cc, both.1)

not_nil : (a z w : List ℕ) → [] ≡ (ended a ++ z) ++ w → ⊥
not_nil [] z w e = absurd cc
not_nil (c ∷ a) z w e = absurd cc

-- no text has the mark
abbrev AllClean : List (List ℕ) → Type 0
AllClean [] = Unit {0}
AllClean (d ∷ ds) = Clean d × AllClean ds

-- the same dimensions, with the same values
abbrev SameDims : KeyMap (List ℕ) → KeyMap (List ℕ) → List (List ℕ) → List (List ℕ) → Type 0
SameDims s t ds es = (ds ≡ es) × (map (tag_value s) ds ≡ map (tag_value t) es)

module _ (s t : KeyMap (List ℕ)) (clean_s : (d : List ℕ) → Clean (tag_value s d)) (clean_t : (d : List ℕ) → Clean (tag_value t d)) where
  cut-dims : (ds es : List (List ℕ)) → AllClean ds → AllClean es → flat_map (dim_part s) ds ≡ flat_map (dim_part t) es → SameDims s t ds es
  cut-dims [] [] p q e = (refl, refl)
  cut-dims [] (f ∷ es) p q e = absurd (not_nil f (ended (tag_value t f)) (flat_map (dim_part t) es) e)
  cut-dims (d ∷ ds) [] p q e = absurd (not_nil d (ended (tag_value s d)) (flat_map (dim_part s) ds) (sym e))
  cut-dims (d ∷ ds) (f ∷ es) p q e =
      let v = tag_value s d in
      let w = tag_value t f in
      let one = cut d f (ended v ++ flat_map (dim_part s) ds) (ended w ++ flat_map (dim_part t) es) p.0 q.0 (sym (append_assoc (ended d) (ended v) (flat_map (dim_part s) ds)) ∙ e ∙ append_assoc (ended f) (ended w) (flat_map (dim_part t) es)) in
      let two = cut v w (flat_map (dim_part s) ds) (flat_map (dim_part t) es) (clean_s d) (clean_t f) one.1 in
      let rest = cut-dims ds es p.1 q.1 two.1 in
      let dim : d ≡ f = one.0 in
      let dims : ds ≡ es = rest.0 in
      let value : v ≡ w = two.0 in
      let values : map (tag_value s) ds ≡ map (tag_value t) es = rest.1 in
      (cc, cc)

all-clean : (ds : List (List ℕ)) → list_all is_utf8 ds ≡ true → AllClean ds
all-clean [] e = tt
all-clean (d ∷ ds) e = (clean-utf8 d (both-first (is_utf8 d) (list_all is_utf8 ds) e), all-clean ds (both-second (is_utf8 d) (list_all is_utf8 ds) e))

-- ---- names

same-name : (b c : Bool) (x y : List ℕ) → is_empty x ≡ false → is_empty y ≡ false → cond b x [] ≡ cond c y [] → ◌≡◌ {A = Option (List ℕ)} (cond b (Some x) None) (cond c (Some y) None)
same-name true true x y p q e = ap Some e
same-name true false x y p q e = let some : is_empty x ≡ true = ap is_empty e in absurd cc
same-name false true x y p q e = let some : is_empty y ≡ true = ap is_empty (sym e) in absurd cc
same-name false false x y p q e = refl

clean-part : (b : Bool) (x : List ℕ) → Clean x → Clean (cond b x [])
clean-part true x h = h
clean-part false x h = tt

-- Points with one key are of one group.
pub same_key_same_group : (p q : PointValue) → IsPoint p → IsPoint q → group_key p ≡ group_key q → group_of p ≡ group_of q
same_key_same_group p q hp hq e =
    let name_p = measured-name p.name hp.name in
    let name_q = measured-name q.name hq.name in
    let one = cut (name_part p) (name_part q) (flat_map (dim_part p.tags) p.dims) (flat_map (dim_part q.tags) q.dims) (clean-part p.by_name p.name (clean-name p.name name_p)) (clean-part q.by_name q.name (clean-name q.name name_q)) e in
    let two = cut-dims p.tags q.tags (λ d. clean-value p.tags d hp.tags) (λ d. clean-value q.tags d hq.tags) p.dims q.dims (all-clean p.dims (both-second (rises p.dims) (list_all is_utf8 p.dims) hp.dims)) (all-clean q.dims (both-second (rises q.dims) (list_all is_utf8 q.dims) hq.dims)) one.1 in
    let names = same-name p.by_name q.by_name p.name q.name (some-name p.name name_p) (some-name q.name name_q) one.0 in
    ap (λ (n : Option (List ℕ)). record { name = n; dims = p.dims; values = map (tag_value p.tags) p.dims }) names
    ∙ ap (λ (ds : List (List ℕ)). record { name = (group_of q).name; dims = ds; values = map (tag_value p.tags) p.dims }) two.0
    ∙ ap (λ (vs : List (List ℕ)). record { name = (group_of q).name; dims = q.dims; values = vs }) two.1

-- ---- the key of a group

-- dimensions and their values, each with its mark
abbrev key_pairs : List (List ℕ) → List (List ℕ) → List ℕ
key_pairs [] values = []
key_pairs (d ∷ ds) [] = []
key_pairs (d ∷ ds) (v ∷ vs) = (ended d ++ ended v) ++ key_pairs ds vs

key-dims : (tags : KeyMap (List ℕ)) (ds : List (List ℕ)) → flat_map (dim_part tags) ds ≡ key_pairs ds (map (tag_value tags) ds)
key-dims tags [] = refl
key-dims tags (d ∷ ds) = ap (λ l. dim_part tags d ++ l) (key-dims tags ds)

key-name : (b : Bool) (x : List ℕ) → ◌≡◌ {A = List ℕ} (cond b x []) (unwrap_or (cond b (Some x) None) [])
key-name true x = refl
key-name false x = refl

-- the key of a group by its parts
abbrev key_of : GroupValue → List ℕ
key_of g = ended (unwrap_or g.name []) ++ key_pairs g.dims g.values

key-group : (p : PointValue) → group_key p ≡ key_of (group_of p)
key-group p = rw (key-dims p.tags p.dims, key-name p.by_name p.name) refl

-- Points of one group have one key.
pub same_group_same_key : (p q : PointValue) → group_of p ≡ group_of q → group_key p ≡ group_key q
same_group_same_key p q e = key-group p ∙ ap key_of e ∙ sym (key-group q)
