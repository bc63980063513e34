-- Why a list isn't written whole.
use Rattle.topic_store.specs.declared.fault.StoreFault.{StoreFault}
use Rattle.topic_store.specs.declared.fault.StoreFault.TheVariants as stores
use Rattle.store_lists.specs.declared.fault.ListFault.{ListFault}
use Rattle.store_lists.specs.declared.fault.ListFault.TheVariants.{NotStore, DiskFault, NoMemory}

-- what a fault of the store is: no call that reads it answers that a record is too long
abbrev pub list_fault : StoreFault → ListFault
list_fault (stores.NotStore part offset) = NotStore part offset
list_fault stores.DiskFault = DiskFault
list_fault stores.Long = NoMemory
list_fault stores.NoMemory = NoMemory
