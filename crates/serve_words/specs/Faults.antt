-- How a service ends that wasn't just closed.
use Rattle.std.specs.Prelude.{ℕ}
use Rattle.serve_words.specs.declared.fault.ServeFault.{ServeFault}
use Rattle.serve_words.specs.declared.fault.ServeFault.TheVariants.{Usage, NotStore, NoMemory, DiskFault, DoorFault, ReadyFault}

-- the number with which the process ends (this project)
abbrev pub number_of : ServeFault → ℕ
number_of Usage = 2
number_of (NotStore part offset) = 6
number_of NoMemory = 70
number_of DiskFault = 73
number_of DoorFault = 74
number_of ReadyFault = 75
