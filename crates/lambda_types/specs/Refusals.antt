-- Why a pattern isn't read.
use Rattle.regex.specs.declared.error.Error.{Error}
use Rattle.regex.specs.declared.error.Error.TheVariants as errors
use Rattle.lambda_types.specs.declared.pattern.PatternFault.{PatternFault}
use Rattle.lambda_types.specs.declared.pattern.PatternFault.TheVariants as faults

-- want of memory stays what it is, and every other error is that of a pattern that is refused
abbrev pub fault_of : Error → PatternFault
fault_of errors.OutOfMemory = faults.NoMemory
fault_of (errors.Syntax text) = faults.Refused
fault_of errors.CompiledTooBig = faults.Refused
fault_of errors.Internal = faults.Refused
