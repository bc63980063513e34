-- Faults of an engine, as the service tells them.
use Rattle.engine_store.specs.declared.fault.EngineFault.{EngineFault}
use Rattle.engine_store.specs.declared.fault.EngineFault.TheVariants as engines
use Rattle.kap_service.specs.declared.fault.ShareFault.{ShareFault}
use Rattle.kap_service.specs.declared.fault.ShareFault.TheVariants.{DiskFault, NoMemory, NotStore}

-- What a fault of the making of an engine is for the service; of the others none comes there.
abbrev pub share_fault : EngineFault → ShareFault
share_fault (engines.NotStore part offset) = NotStore part offset
share_fault engines.DiskFault = DiskFault
share_fault fault = NoMemory
