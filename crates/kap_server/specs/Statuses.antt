-- The numbers and texts of the statuses.
use Rattle.std.specs.Prelude.{ℕ, List, [], ◌++◌, codes}
use Rattle.std.specs.Fmt.{decimal}
use Rattle.line_points.specs.FaultText.{fault_line}
use Rattle.line_points.specs.declared.fault.BodyFault.{BodyFault}
use Rattle.line_points.specs.declared.fault.LineFault.{LineFault}
use Rattle.line_points.specs.declared.fault.LineFault.TheVariants as lines
use Rattle.recording_file.specs.Recording.{Stop, Ended, Faulty, Undecided}
use Rattle.recording_file.specs.declared.fault.RecFault.{RecFault}
use Rattle.recording_file.specs.declared.fault.RecFault.TheVariants as faults
use Rattle.kap_server.specs.declared.status.Status.{Status}
use Rattle.kap_server.specs.declared.status.Status.TheVariants.{Ok, Usage, Script, Line, Truncated, NotStore, NoTask, Exists, TooManyTasks, TooLong, NoMemory, ReadFault, WriteFault, DiskFault}
use Rattle.tick_compile.specs.declared.script_fault.ScriptFault.{ScriptFault}
use Rattle.tick_compile.specs.declared.script_fault.ScriptFault.TheVariants as scripts
use Rattle.tick_compile.specs.Texts.{text_of_fault}
use Rattle.kap_io.specs.declared.disk.Part.{Part}
use Rattle.kap_io.specs.declared.disk.Part.TheVariants.{Head, Left, Right}
use Rattle.topic_store.specs.declared.fault.StoreFault.{StoreFault}
use Rattle.topic_store.specs.declared.fault.StoreFault.TheVariants as stores
use Rattle.engine_store.specs.declared.fault.EngineFault.{EngineFault}
use Rattle.engine_store.specs.declared.fault.EngineFault.TheVariants as engines
use Rattle.store_lists.specs.declared.fault.ListFault.{ListFault}
use Rattle.store_lists.specs.declared.fault.ListFault.TheVariants as lists

-- the number with which the process ends
abbrev pub number_of : Status → ℕ
number_of Ok = 0
number_of Usage = 2
number_of (Script fault) = 3
number_of (Line n fault) = 4
number_of (Truncated n) = 5
number_of (NotStore part offset) = 6
number_of NoTask = 7
number_of Exists = 8
number_of TooManyTasks = 9
number_of TooLong = 10
number_of NoMemory = 70
number_of ReadFault = 71
number_of WriteFault = 72
number_of DiskFault = 73

-- the status of a recording's fault
abbrev pub status_of : RecFault → Status
status_of (faults.Line n fault) = Line n fault
status_of (faults.Truncated n) = Truncated n
status_of faults.Long = TooLong
status_of faults.ReadFault = ReadFault
status_of faults.NoMemory = NoMemory

-- the status of a script's fault
abbrev pub status_of_script : ScriptFault → Status
status_of_script scripts.NoMemory = NoMemory
status_of_script fault = Script fault

-- the status of a store's fault
abbrev pub status_of_store : StoreFault → Status
status_of_store (stores.NotStore part offset) = NotStore part offset
status_of_store stores.DiskFault = DiskFault
status_of_store stores.Long = TooLong
status_of_store stores.NoMemory = NoMemory

-- the status of a line's fault
abbrev pub status_of_line : ℕ → LineFault → Status
status_of_line n lines.NoMemory = NoMemory
status_of_line n fault = Line n fault

-- the status of the first fault of lines that are to be written
abbrev pub status_of_body : BodyFault → Status
status_of_body f = status_of_line f.line f.fault

-- the status of an engine's fault
abbrev pub status_of_engine : EngineFault → Status
status_of_engine (engines.Script fault) = status_of_script fault
status_of_engine engines.NoTask = NoTask
status_of_engine engines.Exists = Exists
status_of_engine engines.TooManyTasks = TooManyTasks
status_of_engine (engines.NotStore part offset) = NotStore part offset
status_of_engine engines.DiskFault = DiskFault
status_of_engine engines.NoMemory = NoMemory

-- the status of a list's fault
abbrev pub status_of_list : ListFault → Status
status_of_list (lists.NotStore part offset) = NotStore part offset
status_of_list lists.DiskFault = DiskFault
status_of_list lists.WriteFault = WriteFault
status_of_list lists.NoMemory = NoMemory

-- the name of a file of a store
abbrev pub part_name : Part → List ℕ
part_name Head = codes "head"
part_name Left = codes "left"
part_name Right = codes "right"

-- what stands behind `kapd: ` on standard error
abbrev pub text_of_status : Status → List ℕ
text_of_status Ok = []
text_of_status Usage = codes "usage"
text_of_status (Script fault) = text_of_fault fault
text_of_status (Line n fault) = fault_line (record { line = n; fault = fault })
text_of_status (Truncated n) = codes "truncated at line " ++ decimal n
text_of_status (NotStore part offset) = codes "not a store: " ++ part_name part ++ codes " at " ++ decimal offset
text_of_status NoTask = codes "no task"
text_of_status Exists = codes "exists"
text_of_status TooManyTasks = codes "too many tasks"
text_of_status TooLong = codes "too long"
text_of_status NoMemory = codes "no memory"
text_of_status ReadFault = codes "read fault"
text_of_status WriteFault = codes "write fault"
text_of_status DiskFault = codes "disk fault"

-- the status of a replay whose input's reading stops so
abbrev pub status_at : Stop → Status
status_at Ended = Ok
status_at (Faulty fault) = status_of fault
status_at Undecided = NoMemory
