-- A store without records is right.
use Rattle.std.proofs.Common.{◌≡◌, ◌∷◌, ◌++◌, [], List, refl}
use Rattle.kap_io.specs.Disk.{Image}
use Rattle.node_core.specs.declared.node.Node.{Ghosts}
use Rattle.node_set.specs.Tasks.{Planned}
use Rattle.store_records.specs.declared.rec.Rec.{Rec}
use Rattle.topic_store.specs.Making.{IsMade}
use Rattle.engine_store.specs.Good.{IsGood}
use Rattle.service_engine.specs.Engines.{AreRight}

-- no list that ends in something is empty
ends : {A : Type 0} (before : List A) (a : A) (behind : List A) → [] ≡ before ++ a ∷ behind → ⊥
ends [] a behind e = absurd (cc (e))
ends (b ∷ before) a behind e = absurd (cc (e))

module _ {N P S : Type 0} (g : Ghosts N P S) (planned : Planned P) where
  none_good : IsGood g planned []
  none_good = record {
    scripts = record { of_tasks = tt; of_lives = tt };
    tasks = [];
    are = tt;
    consistent = record { others = _; prefix = refl; snap = λ s. absurd (ends s.before _ s.behind s.split) };
  }

  -- so is a new one, whatever a crash leaves of it
  pub new_right : (seen : Image) (images : Image → Type 0) → IsMade seen images → AreRight g planned images
  new_right seen images made files left = record {
    records = [];
    stands = made.durable files left;
    good = none_good;
  }
