-- An engine, by its parts.
use Rattle.std.proofs.Common.{◌≡◌, List, sym, subst}
use Rattle.kap_io.specs.Disk.{Image}
use Rattle.node_core.specs.declared.node.Node.{Ghosts}
use Rattle.node_set.specs.Tasks.{Planned}
use Rattle.store_records.specs.declared.rec.Rec.{Rec}
use Rattle.kap_engine.specs.Engines.{EngineValue, IsEngine}

module _ {N P S : Type 0} (g : Ghosts N P S) (planned : Planned P) (rs : List Rec) where
  -- what is said of it holds of its parts
  pub engine_of : (seen : Image) (images : Image → Type 0) (e e' : EngineValue N) → e ≡ e' → IsEngine g planned rs seen images e' → IsEngine g planned rs seen images e
  engine_of seen images e e' is at = subst (λ (v : EngineValue N). IsEngine g planned rs seen images v) (sym is) at
