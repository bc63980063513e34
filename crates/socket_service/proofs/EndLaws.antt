-- How services end.
use Rattle.std.proofs.Common.{◌≡◌, ℕ, sym, subst, Option, Some, None}
use Rattle.kap_base.specs.Words.{HasRisen}
use Rattle.kap_io.specs.declared.disk.Part.{Part}
use Rattle.kap_service.specs.Stores.{HasRead}
use Rattle.kap_service.specs.Values.{Engines, Stores}
use Rattle.kap_service.specs.declared.fault.ShareFault.{ShareFault}
use Rattle.kap_service.specs.declared.fault.ShareFault.TheVariants as shares
use Rattle.serve_words.specs.declared.fault.ServeFault.{ServeFault}
use Rattle.socket_service.specs.Ends.{EndsSo, IsUnshared, fault_of}

module _ {E : Type 0} (value : E → Engines) (right : E → Type 0) (leaves : E → Stores → Type 0)
    (ending : ServeFault → Type 0) (engine : E) where
  -- by a fault that ends such a service
  pub ends_by : (f fault : ServeFault) (back : Option E) → fault ≡ f → back ≡ None → ending f
      → EndsSo value right leaves ending engine fault back
  ends_by f fault back same none of =
      subst (λ (b : Option E). EndsSo value right leaves ending engine fault b) (sym none) (subst ending (sym same) of)

  -- since the engine can't be shared
  pub ends_unshared : (cause : ShareFault) (left : E) (fault : ServeFault) (back : Option E)
      → fault ≡ fault_of cause → back ≡ Some left → HasRead value right leaves engine left
      → (cause ≡ shares.DiskFault → HasRisen (value engine).faults.disk (value left).faults.disk)
      → (right engine → (part : Part) (offset : ℕ) → cause ≡ shares.NotStore part offset → ⊥)
      → EndsSo value right leaves ending engine fault back
  ends_unshared cause left fault back told came same disk store =
      let how : IsUnshared value right leaves engine cause left = record { same = same; disk = disk; store = store } in
      subst (λ (b : Option E). EndsSo value right leaves ending engine fault b) (sym came) (cause, told, how)
