-- Records that are read back.
use Rattle.std.specs.Prelude.{◌≡◌, ℕ, ◌+◌, List, [], ◌∷◌, ◌++◌, length, Option, Some, None, Result, Ok, Err, ⊤}
use Rattle.store_records.specs.Histories.{end_of}
use Rattle.store_records.specs.declared.rec.Rec.{Rec}
use Rattle.topic_store.specs.declared.fault.StoreFault.{StoreFault}
use Rattle.topic_store.specs.declared.fault.StoreFault.TheVariants.{DiskFault, NoMemory}

-- the first of the bodies from a gate on, and the next gate; none at the closed gate
abbrev pub BodyOrNot : Result (Option (List ℕ × ℕ)) StoreFault → List (List ℕ) → ℕ → Type 0
BodyOrNot (Ok None) bodies at = bodies ≡ []
BodyOrNot (Ok (Some found)) [] at = ⊥
BodyOrNot (Ok (Some found)) (body ∷ bodies) at = (found.0 ≡ body) × (found.1 ≡ at + (5 + length body))
BodyOrNot (Err DiskFault) bodies at = ⊤
BodyOrNot (Err NoMemory) bodies at = ⊤
BodyOrNot (Err fault) bodies at = ⊥

-- the first of the records behind these, and the gate behind it; none at the closed gate
abbrev pub RecordOrNot : Result (Option (Rec × ℕ)) StoreFault → List Rec → List Rec → Type 0
RecordOrNot (Ok None) before after = after ≡ []
RecordOrNot (Ok (Some found)) before [] = ⊥
RecordOrNot (Ok (Some found)) before (r ∷ after) = (found.0 ≡ r) × (found.1 ≡ end_of (before ++ r ∷ []))
RecordOrNot (Err DiskFault) before after = ⊤
RecordOrNot (Err NoMemory) before after = ⊤
RecordOrNot (Err fault) before after = ⊥
