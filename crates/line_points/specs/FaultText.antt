-- What is said of a faulty body.
use Rattle.std.specs.Prelude.{ℕ, List, ◌++◌, codes, decimal}
use Rattle.line_points.specs.declared.fault.LineFault.{LineFault}
use Rattle.line_points.specs.declared.fault.LineFault.TheVariants as faults
use Rattle.line_points.specs.declared.fault.BodyFault.{BodyFault}

-- a fault's name
abbrev pub fault_name : LineFault → List ℕ
fault_name faults.Measurement = codes "Measurement"
fault_name faults.Tag = codes "Tag"
fault_name faults.NoField = codes "NoField"
fault_name faults.Field = codes "Field"
fault_name faults.FloatField = codes "FloatField"
fault_name faults.UnsignedField = codes "UnsignedField"
fault_name faults.Time = codes "Time"
fault_name faults.TimeRange = codes "TimeRange"
fault_name faults.NoTime = codes "NoTime"
fault_name faults.Long = codes "Long"
fault_name faults.NotUtf8 = codes "NotUtf8"
fault_name faults.NoMemory = codes "NoMemory"

-- the text of a body's fault
abbrev pub fault_line : BodyFault → List ℕ
fault_line fault = codes "line " ++ (decimal fault.line ++ (codes ": " ++ fault_name fault.fault))
