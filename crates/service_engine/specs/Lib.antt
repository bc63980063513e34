-- faults of an engine, as the service tells them
pub mod Faults
-- an engine on its disk, and the stores for which that stands
pub mod Engines
-- laws of these stores, which an engine on a disk owes
pub mod StoreLaws
