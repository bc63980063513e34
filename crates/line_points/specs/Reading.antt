-- What the readers of the code give.
use Rattle.std.specs.Prelude.{◌≡◌, ◌≢◌, ℕ, List, Result, Ok, Err}
use Rattle.line_points.specs.declared.fault.LineFault.{LineFault}
use Rattle.line_points.specs.declared.fault.LineFault.TheVariants as faults

-- It gives the value and leaves the rest, or gives the fault, unless memory ran out.
abbrev pub Gives : {A : Type 0} → Result A LineFault → List ℕ → Result (A × List ℕ) LineFault → Type 0
Gives (Ok x) rest due = due ≡ Ok (x, rest)
Gives (Err e) rest due = e ≢ faults.NoMemory → due ≡ Err e
