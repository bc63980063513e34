-- An engine in memory, which stands for one store.
use Rattle.std.specs.Prelude.{◌≡◌, ℕ, ◌+◌, Bool, List, ◌++◌}
use Rattle.topic_core.specs.declared.transition.Transition.{Transition}
use Rattle.kap_service.specs.Values.{Engines, Stores}

-- its changes, how often it failed, whether it is spent, its transitions, and those of its last change
pub record FakeValue : Type 0 where
  pub changes : ℕ
  pub faults : ℕ
  pub spent : Bool
  pub stored : List Transition
  pub own : List Transition

-- as the service sees it
abbrev pub engine_of : FakeValue → Engines
engine_of f = record {
  changes = f.changes;
  faults = record { disk = f.faults; patterns = 0 };
  spent = f.spent;
  own = f.own;
}

-- its store
abbrev pub store_of : FakeValue → Stores
store_of f = record { changes = f.changes; stored = f.stored }

-- a change more, with its transitions
pub record HasMore (old new : FakeValue) : Type 0 where
  pub changes : new.changes ≡ old.changes + 1
  pub stored : new.stored ≡ old.stored ++ new.own
  pub spent : new.spent ≡ old.spent
  pub faults : new.faults ≡ old.faults

-- the same store
pub record HasSame (old new : FakeValue) : Type 0 where
  pub changes : new.changes ≡ old.changes
  pub stored : new.stored ≡ old.stored
