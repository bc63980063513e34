-- What a line means, in the words of the grammar: a point, nothing, or a fault.
use Rattle.std.specs.Prelude.{◌≡◌, ◌≤◌, ℕ, List, Option, Some, None, Result, Ok, Err, length, true}
use Rattle.std.specs.Str.{is_utf8}
use Rattle.kap_base.specs.Points.{PointValue}
use Rattle.line_points.specs.declared.fault.LineFault.{LineFault}
use Rattle.line_points.specs.declared.line.TheConstants.{LINE_LIMIT}
use Rattle.line_points.specs.declared.mode.Mode.{Mode}
use Rattle.line_points.specs.declared.mode.Mode.TheVariants.{Recording}
use Rattle.line_points.specs.Grammar.{Spelled, IsOf, IsBlank}
use Rattle.line_points.specs.FaultRows.{FaultOfStored, FaultOfLine}

-- the line is a text, and spells the point, which is grouped by nothing and of this database and policy
pub record PointOfStored (db rp : List ℕ) (mode : Mode) (line : List ℕ) (p : PointValue) : Type 0 where
  pub spelled : Spelled mode p line
  pub is_of : IsOf db rp p
  pub utf8 : is_utf8 line ≡ true

-- so it does, and isn't too long
pub record PointOfLine (db rp : List ℕ) (mode : Mode) (line : List ℕ) (p : PointValue) : Type 0 where
  pub stored : PointOfStored db rp mode line p
  pub short : length line ≤ LINE_LIMIT

-- the line means this point, or nothing, or has this fault
abbrev pub LineMeans : List ℕ → List ℕ → Mode → List ℕ → Result (Option PointValue) LineFault → Type 0
LineMeans db rp mode line (Ok (Some p)) = PointOfLine db rp mode line p
LineMeans db rp mode line (Ok None) = IsBlank mode line
LineMeans db rp mode line (Err f) = FaultOfLine mode line f

-- a line of any length, in Recording mode, means this point, or has this fault
abbrev pub StoredMeans : List ℕ → List ℕ → List ℕ → Result PointValue LineFault → Type 0
StoredMeans db rp line (Ok p) = PointOfStored db rp Recording line p
StoredMeans db rp line (Err f) = FaultOfStored Recording line f
