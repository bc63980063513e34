-- A result is of its batch's group.
use Rattle.std.proofs.Common.{◌≡◌, ℕ, true, false, not, cond, inl, inr, List, [], ◌∷◌, map, Option, Some, None, refl, sym, ap, ◌∙◌, subst}
use Rattle.std.specs.Prelude.{is_some, unwrap_or, ⊤}
use Rattle.std.specs.Cmp.{tied_itself}
use Rattle.std.specs.FinMap.{empty, get, get-empty, get-insert, insert, nat_cmp-IsAntisymmetric, slice_cmp-IsAntisymmetric}
use Rattle.std.specs.List.{list_all}
use Rattle.std.specs.Ordering.{is_eq, is_lt}
use Rattle.std.specs.Str.{is_utf8}
use Rattle.std.specs.declared.cmp.Ordering.{Ordering}
use Rattle.std.specs.declared.cmp.Ordering.TheVariants.{Less, Equal, Greater}
use Rattle.std.proofs.lemmas.Cmp.{nat_list_cmp_total}
use Rattle.kap_base.specs.Groups.{GroupValue, IsGroup, are_tag_values, group_of, is_tag_value, tag_value}
use Rattle.kap_base.specs.Maps.{KeyMap, byte_order, with_entries}
use Rattle.kap_base.specs.Points.{rises}
use Rattle.kap_base.specs.Texts.{is_empty}
use Rattle.kap_base.proofs.TestLaws.{first_of, second_of}
use Rattle.select_nodes.specs.Picks.{PickValue}
use Rattle.select_nodes.specs.Results.{IsNamed, result_of, valued}

-- ---- texts in byte order

less : (o : Ordering) → is_lt o ≡ true → o ≡ Less
less Less e = refl
less Equal e = absurd cc
less Greater e = absurd cc

-- each of these stands above the text
abbrev AllAbove : List ℕ → List (List ℕ) → Type 0
AllAbove d [] = ⊤
AllAbove d (e ∷ es) = (byte_order d e ≡ Less) × AllAbove d es

above_all : (d e : List ℕ) (es : List (List ℕ)) → byte_order d e ≡ Less → AllAbove e es → AllAbove d es
above_all d e [] lt all = tt
above_all d e (x ∷ xs) lt all = (nat_list_cmp_total.trans d e x lt all.0, above_all d e xs lt all.1)

rising_above : (d : List ℕ) (ds : List (List ℕ)) → rises (d ∷ ds) ≡ true → AllAbove d ds × (rises ds ≡ true)
rising_above d [] h = (tt, refl)
rising_above d (e ∷ es) h =
    let lt = less (byte_order d e) (first_of (is_lt (byte_order d e)) (rises (e ∷ es)) h) in
    let rest = second_of (is_lt (byte_order d e)) (rises (e ∷ es)) h in
    ((lt, above_all d e es lt (rising_above e es rest).0), rest)

unlike : (d e : List ℕ) → byte_order d e ≡ Less → is_eq (byte_order e d) ≡ false
unlike d e lt = elim (byte_order e d) as (λ o. byte_order e d ≡ o → is_eq o ≡ false) [
  | Less ↦ λ h. refl
  | Equal ↦ λ h.
      let same : e ≡ d = slice_cmp-IsAntisymmetric nat_cmp-IsAntisymmetric e d h in
      let below : byte_order d d ≡ Less = subst (λ (x : List ℕ). byte_order d x ≡ Less) same lt in
      let tied : byte_order d d ≡ Equal = tied_itself nat_list_cmp_total d in
      absurd cc
  | Greater ↦ λ h. refl
] refl

-- ---- tags

-- none of these is there
abbrev Lacks : KeyMap (List ℕ) → List (List ℕ) → Type 0
Lacks m [] = ⊤
Lacks m (d ∷ ds) = (get m d ≡ None) × Lacks m ds

found : (m : KeyMap (List ℕ)) (d v q : List ℕ) → get (insert m d v) q ≡ cond (is_eq (byte_order q d)) (Some v) (get m q)
found m d v q = get-insert nat_list_cmp_total m d v q

found_other : (m : KeyMap (List ℕ)) (d v q : List ℕ) → is_eq (byte_order q d) ≡ false → get (insert m d v) q ≡ get m q
found_other m d v q e = found m d v q ∙ ap (λ b. cond b (Some v) (get m q)) e

found_here : (m : KeyMap (List ℕ)) (d v : List ℕ) → get (insert m d v) d ≡ Some v
found_here m d v = found m d v d ∙ ap (λ (o : Ordering). cond (is_eq o) (Some v) (get m d)) (tied_itself nat_list_cmp_total d)

still_lacks : (m : KeyMap (List ℕ)) (d v : List ℕ) (ds : List (List ℕ)) → AllAbove d ds → Lacks m ds → Lacks (insert m d v) ds
still_lacks m d v [] above lacks = tt
still_lacks m d v (e ∷ es) above lacks = (found_other m d v e (unlike d e above.0) ∙ lacks.0, still_lacks m d v es above.1 lacks.1)

-- tags above one leave it
left_alone : (m : KeyMap (List ℕ)) (d : List ℕ) (ds vs : List (List ℕ)) → AllAbove d ds → get (with_entries m (valued ds vs)) d ≡ get m d
left_alone m d [] vs above = refl
left_alone m d (e ∷ es) [] above = refl
left_alone m d (e ∷ es) (w ∷ ws) above = elim (is_empty w) as (λ b. get (with_entries m (cond (not b) ((e, w) ∷ valued es ws) (valued es ws))) d ≡ get m d) [
  | true ↦ left_alone m d es ws above.1
  | false ↦ left_alone (insert m e w) d es ws above.1 ∙ found_other m e w d (ap is_eq above.0)
]

no_bytes : (v : List ℕ) → is_empty v ≡ true → [] ≡ v
no_bytes [] e = refl
no_bytes (b ∷ bs) e = absurd cc

tagged : (m : KeyMap (List ℕ)) (ds vs : List (List ℕ)) → rises ds ≡ true → Lacks m ds → are_tag_values ds vs ≡ true
    → map (tag_value (with_entries m (valued ds vs))) ds ≡ vs
tagged m [] [] up lacks are = refl
tagged m [] (v ∷ vs) up lacks are = absurd cc
tagged m (d ∷ ds) [] up lacks are = absurd cc
tagged m (d ∷ ds) (v ∷ vs) up lacks are =
    let above = rising_above d ds up in
    let rest = second_of (is_tag_value d v) (are_tag_values ds vs) are in
    elim (is_empty v) as (λ b. is_empty v ≡ b → map (tag_value (with_entries m (cond (not b) ((d, v) ∷ valued ds vs) (valued ds vs)))) (d ∷ ds) ≡ v ∷ vs) [
      | true ↦ λ none.
          let here : unwrap_or (get (with_entries m (valued ds vs)) d) [] ≡ v =
          ap (λ (o : Option (List ℕ)). unwrap_or o []) (left_alone m d ds vs above.0 ∙ lacks.0) ∙ no_bytes v none in
          (λ i. here i ∷ tagged m ds vs above.1 lacks.1 rest i)
      | false ↦ λ some.
          let here : unwrap_or (get (with_entries (insert m d v) (valued ds vs)) d) [] ≡ v =
          ap (λ (o : Option (List ℕ)). unwrap_or o []) (left_alone (insert m d v) d ds vs above.0 ∙ found_here m d v) in
          (λ i. here i ∷ tagged (insert m d v) ds vs above.1 (still_lacks m d v ds above.0 lacks.1) rest i)
    ] refl

none_there : (ds : List (List ℕ)) → Lacks empty ds
none_there [] = tt
none_there (d ∷ ds) = (get-empty byte_order d, none_there ds)

name_again : (name : List ℕ) (g : Option (List ℕ)) → IsNamed name g → cond (is_some g) (Some name) None ≡ g
name_again name g (inl none) = ap (λ (o : Option (List ℕ)). cond (is_some o) (Some name) None) none ∙ sym none
name_again name g (inr named) = ap (λ (o : Option (List ℕ)). cond (is_some o) (Some name) None) named ∙ sym named

pub same_group : (name : List ℕ) (g : GroupValue) (field : List ℕ) (pick : PickValue) → IsGroup g → IsNamed name g.name
    → group_of (result_of name g field pick) ≡ g
same_group name g field pick is named =
    let up : rises g.dims ≡ true = first_of (rises g.dims) (list_all is_utf8 g.dims) is.dims in
    let values : map (tag_value (with_entries empty (valued g.dims g.values))) g.dims ≡ g.values = tagged empty g.dims g.values up (none_there g.dims)
    is.values in
    (λ i. record { name = name_again name g.name named i; dims = g.dims; values = values i })
