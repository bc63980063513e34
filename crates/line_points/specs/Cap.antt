-- What the code keeps of a number: its magnitude up to the greatest of 64 bits.
use Rattle.std.specs.Prelude.{ℕ, Bool, min}
use Rattle.line_points.specs.declared.number.Number.{Number}

-- a number with its magnitude cut off at 2^64 - 1
abbrev pub cap : Bool × ℕ → Bool × ℕ
cap n = (n.0, min n.1 18446744073709551615)

-- a number of the code
abbrev pub parts : Number → Bool × ℕ
parts n = (n.negative, n.magnitude)
