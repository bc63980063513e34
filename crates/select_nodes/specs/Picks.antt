-- What stands at a field of points.
use Rattle.std.specs.Prelude.{ℕ, ℤ, List, [], ◌∷◌, Option, Some, None, filter_map, option_map, IsTrue}
use Rattle.std.specs.FinMap.{get}
use Rattle.kap_base.specs.Points.{PointValue, is_time, is_value}
use Rattle.kap_base.specs.declared.value.Value.{Value}
use Rattle.kap_base.specs.declared.value.Value.TheVariants.{Int}

-- a value, and a time
pub record PickValue : Type 0 where
  pub value : Value
  pub time : ℤ

-- which a field and a point can have
pub record IsPick (p : PickValue) : Type 0 where
  pub value : IsTrue (is_value p.value)
  pub time : IsTrue (is_time p.time)

-- an integer, and a time
pub record ReadingValue : Type 0 where
  pub number : ℤ
  pub time : ℤ

-- what stands at the field of a point, and the point's time
abbrev pub pick_at : List ℕ → PointValue → Option PickValue
pick_at field p = option_map (λ v. record { value = v; time = p.time }) (get p.fields field)

-- the integer at the field of a point, if it is there and is one, and the point's time
abbrev pub reading_of : Option Value → ℤ → Option ReadingValue
reading_of (Some (Int n)) time = Some (record { number = n; time = time })
reading_of _ time = None

-- the integer of a point's field, with its place
abbrev pub reading_at : List ℕ → PointValue → Option ReadingValue
reading_at field p = reading_of (get p.fields field) p.time

-- the same of each of these points that has it, in order
abbrev pub values_at : List ℕ → List PointValue → List Value
values_at field ps = filter_map (λ p. get p.fields field) ps

-- the values of a field, at the points that have it, in their order
abbrev pub picks_at : List ℕ → List PointValue → List PickValue
picks_at field ps = filter_map (pick_at field) ps

-- its integers, at the points that have one, in their order
abbrev pub readings_at : List ℕ → List PointValue → List ReadingValue
readings_at field ps = filter_map (reading_at field) ps

-- the first and the last of a list
abbrev pub first : {A : Type 0} → List A → Option A
first [] = None
first (x ∷ xs) = Some x
