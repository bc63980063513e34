-- Faults, as the service tells them.
use Rattle.std.proofs.Common.{◌≡◌, ℕ, List, Err, refl, ap, ◌∙◌}
use Rattle.std.specs.Prelude.{IsErrOf}
use Rattle.kap_io.specs.declared.disk.Part.{Part}
use Rattle.topic_store.specs.Pieces.{PieceOrNot}
use Rattle.topic_store.specs.declared.fault.StoreFault.{StoreFault}
use Rattle.topic_store.specs.declared.fault.StoreFault.TheVariants as stores
use Rattle.engine_store.specs.Faults.{store_fault}
use Rattle.engine_store.specs.declared.fault.EngineFault.{EngineFault}
use Rattle.engine_store.specs.declared.fault.EngineFault.TheVariants as engines
use Rattle.kap_service.specs.declared.fault.ShareFault.{ShareFault}
use Rattle.kap_service.specs.declared.fault.ShareFault.TheVariants as shares
use Rattle.service_engine.specs.Faults.{share_fault}

-- a fault of the disk is told only where it is one
pub disk_told : (fault : EngineFault) → share_fault fault ≡ shares.DiskFault → fault ≡ engines.DiskFault
disk_told (engines.Script f) is = absurd (cc is)
disk_told engines.NoTask is = absurd (cc is)
disk_told engines.Exists is = absurd (cc is)
disk_told engines.TooManyTasks is = absurd (cc is)
disk_told (engines.NotStore part offset) is = absurd (cc is)
disk_told engines.DiskFault is = refl
disk_told engines.NoMemory is = absurd (cc is)

-- and a place only where it tells one
pub place_told : (fault : EngineFault) (part : Part) (offset : ℕ) → share_fault fault ≡ shares.NotStore part offset
    → fault ≡ engines.NotStore part offset
place_told (engines.Script f) part offset is = absurd (cc is)
place_told engines.NoTask part offset is = absurd (cc is)
place_told engines.Exists part offset is = absurd (cc is)
place_told engines.TooManyTasks part offset is = absurd (cc is)
place_told (engines.NotStore there at) part offset is = cc
place_told engines.DiskFault part offset is = absurd (cc is)
place_told engines.NoMemory part offset is = absurd (cc is)

-- what is told of a fault of the store where it is read: no place
pub read_told : {T U : Type 0} (piece : List U) (fault : StoreFault) (f : EngineFault) (s : ShareFault)
    → f ≡ store_fault fault → s ≡ share_fault f → PieceOrNot piece (Err fault) → (part : Part) (offset : ℕ)
    → IsErrOf {T = T} (Err s) (shares.NotStore part offset) → ⊥
read_told piece (stores.NotStore there at) f s is also or part offset e = absurd or
read_told piece stores.DiskFault f s is also or part offset e =
    let told : s ≡ shares.DiskFault = also ∙ ap share_fault is in
    absurd (cc (told, e))
read_told piece stores.Long f s is also or part offset e = absurd or
read_told piece stores.NoMemory f s is also or part offset e =
    let told : s ≡ shares.NoMemory = also ∙ ap share_fault is in
    absurd (cc (told, e))
