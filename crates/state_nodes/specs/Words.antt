-- What nodes say of a point, and what stands at the points of a group.
use Rattle.std.specs.Prelude.{◌≡◌, ℕ, ℤ, List, [], ◌∷◌, ◌++◌, Option, Some, None, filter_map}
use Rattle.std.specs.FinMap.{empty, get, insert}
use Rattle.std.specs.List.{last_or}
use Rattle.std.proofs.Common.{append-nil, ap, ◌∙◌}
use Rattle.std.proofs.lemmas.List.Elements.{filter_map-append}
use Rattle.kap_base.specs.Points.{PointValue}
use Rattle.kap_base.specs.declared.value.Value.{Value}
use Rattle.kap_base.specs.declared.value.Value.TheVariants.{Int}
use Rattle.node_core.specs.Groups.{Came}
use Rattle.kap_base.proofs.LastLaws.{last_or-push}

-- the name of a result: the one that is given, or else the node's own
abbrev pub result_name : List ℕ → Option (List ℕ) → List ℕ
result_name own None = own
result_name own (Some name) = name

-- the point with this number among its fields, in the place of a field of that name
abbrev pub with_number : List ℕ → ℤ → PointValue → PointValue
with_number name n p = record p { fields = insert p.fields name (Int n) }

-- the point with this number as its one field
abbrev pub with_number_alone : List ℕ → ℤ → PointValue → PointValue
with_number_alone name n p = record p { fields = insert empty name (Int n) }

-- the integer that a field holds, if it is there and holds one
abbrev pub int_of : Option Value → Option ℤ
int_of (Some (Int n)) = Some n
int_of _ = None

-- the integer at a field, if one stands there
abbrev pub int_at : List ℕ → PointValue → Option ℤ
int_at field p = int_of (get p.fields field)

-- the integers that a field holds at points, in order
abbrev pub ints_at : List ℕ → List Came → List ℤ
ints_at field points = filter_map (λ c. int_at field c.1) points

-- the last of a list
abbrev pub last : {A : Type 0} → List A → Option A
last xs = last_or None xs

-- the later of two, where there is one
abbrev pub latest : {A : Type 0} → Option A → Option A → Option A
latest before None = before
latest before (Some x) = Some x

-- ---- laws

-- the last of a list with one item more
pub last_push : {A : Type 0} (xs : List A) (x : A) → last (xs ++ x ∷ []) ≡ Some x
last_push xs x = last_or-push None xs x

last_one_more : {B : Type 0} (ys : List B) (o : Option B)
    → last (ys ++ filter_map (λ (p : Option B). p) (o ∷ [])) ≡ latest (last ys) o
last_one_more ys None = ap last (append-nil ys)
last_one_more ys (Some y) = last_push ys y

-- the last of what stands at points, with one point more
pub last_more : {A B : Type 0} (h : A → Option B) (xs : List A) (x : A)
    → last (filter_map h (xs ++ x ∷ [])) ≡ latest (last (filter_map h xs)) (h x)
last_more h xs x = ap last (filter_map-append h xs (x ∷ [])) ∙ last_one_more (filter_map h xs) (h x)
