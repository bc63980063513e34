-- What the body of a record is asked: whether it is that of a batch, and of how many points, or of which other record.
use Rattle.std.specs.Prelude.{◌≡◌, ℕ, Bool, true, false, List, [], length, Option, Some, None, Result, Ok, Err, ⊤}
use Rattle.kap_base.specs.Points.{PointValue}
use Rattle.kap_base.specs.declared.memory.NoMemory.{NoMemory}
use Rattle.state_code.specs.Spelling.{read_many, value_then}
use Rattle.store_records.specs.Lines.{read_point}
use Rattle.store_records.specs.Records.{HasForm, IsBodyOf, IsNoBody}
use Rattle.store_records.specs.declared.checked.Checked.{Checked}
use Rattle.store_records.specs.declared.checked.Checked.TheVariants as checked
use Rattle.store_records.specs.declared.rec.Rec.TheVariants as kinds

-- The bytes are the body of a batch of so many points, which are ungrouped and of its database and policy.
pub record IsBatchOf (count : ℕ) (body : List ℕ) : Type 0 where
  pub db : List ℕ
  pub rp : List ℕ
  pub points : List PointValue
  pub body_of : IsBodyOf (kinds.Batch db rp points) body
  pub form : HasForm (kinds.Batch db rp points)
  pub count_is : length points ≡ count

-- the bytes are the body of such a batch, or of another record
abbrev pub IsChecked : List ℕ → Checked → Type 0
IsChecked body (checked.Batch count) = IsBatchOf count body
IsChecked body (checked.Other r) = IsBodyOf r body

-- what the bytes are the body of, or that they are the body of no record, unless memory ran out
abbrev pub CheckedOf : List ℕ → Result (Option Checked) NoMemory → Type 0
CheckedOf body (Ok (Some found)) = IsChecked body found
CheckedOf body (Ok None) = IsNoBody body
CheckedOf body (Err e) = ⊤

-- the bytes are the body of a batch of so many points, or of no record
abbrev pub CountOrNot : List ℕ → Option ℕ → Type 0
CountOrNot body (Some count) = IsBatchOf count body
CountOrNot body None = IsNoBody body

-- The bytes are so many points of this database and policy, each as its canonical line, and nothing else.
pub record ArePoints (db rp : List ℕ) (count : ℕ) (bytes : List ℕ) : Type 0 where
  pub points : List PointValue
  pub reads : read_many (read_point db rp) count bytes ≡ value_then points []

-- they are such points, or none
abbrev pub ArePointsOrNot : List ℕ → List ℕ → ℕ → List ℕ → Bool → Type 0
ArePointsOrNot db rp count bytes true = ArePoints db rp count bytes
ArePointsOrNot db rp count bytes false = ArePoints db rp count bytes → ⊥
