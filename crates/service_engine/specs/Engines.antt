-- An engine on its disk, as the service speaks of it, and the stores for which the disk stands.
use Rattle.std.specs.Prelude.{◌≡◌, ⊤, ℕ, ℤ, Bool, true, false, IsTrue, List, [], ◌++◌, Option, Some, None}
use Rattle.kap_http.specs.ReplyValues.{ReplyValue}
use Rattle.kap_http.specs.declared.ask.Ask.{Ask}
use Rattle.kap_io.specs.Disk.{Image}
use Rattle.kap_io.specs.Moments.{Moments}
use Rattle.node_core.specs.declared.node.Node.{Ghosts}
use Rattle.node_set.specs.Tasks.{Planned}
use Rattle.store_records.specs.Histories.{held}
use Rattle.store_records.specs.declared.rec.Rec.{Rec}
use Rattle.topic_core.specs.declared.transition.Transition.{Transition}
use Rattle.topic_store.specs.Stores.{Stands}
use Rattle.engine_store.specs.Good.{IsGood}
use Rattle.kap_engine.specs.Engines.{EngineValue, IsEngine}
use Rattle.reply_bodies.specs.Asks.{IsFailed}
use Rattle.engine_asks.specs.Nexts.{IsNext, before_or_next}
use Rattle.engine_asks.specs.Replies.{IsReply, IsReplyOrFailed}
use Rattle.kap_service.specs.Values.{Engines, Faults, Stores}

-- ---- what is counted; an engine that was let go is None

-- how many changes its store has
abbrev pub changes_of : {N : Type 0} → Option (EngineValue N) → ℕ
changes_of (Some e) = e.store.kept.changes
changes_of None = 0

-- how many transitions it has
abbrev pub count_of : {N : Type 0} → Option (EngineValue N) → ℕ
count_of (Some e) = e.store.kept.transitions
count_of None = 0

-- whether it is to be made again
abbrev pub is_spent : {N : Type 0} → Option (EngineValue N) → Bool
is_spent (Some e) = e.spent
is_spent None = true

-- the transitions that its last change stored
abbrev pub own_of : {N : Type 0} → Option (EngineValue N) → List Transition
own_of (Some e) = e.stored
own_of None = []

-- how often the disk failed, and how often a pattern was refused
abbrev pub faults_of : ℕ → ℕ → Faults
faults_of disk patterns = record { disk = disk; patterns = patterns }

-- an engine whose disk failed so often, and so often a pattern was refused, as the service counts it
abbrev pub engine_of : {N : Type 0} → Option (EngineValue N) → ℕ → ℕ → Engines
engine_of e disk patterns = record {
  changes = changes_of e;
  faults = faults_of disk patterns;
  spent = is_spent e;
  own = own_of e;
}

-- The reply is the one that is due to an ask at a moment, by what the engine holds; whichever patterns were refused.
abbrev pub IsDue : {N : Type 0} → Option (EngineValue N) → Ask → ℤ → ReplyValue → Type 0
IsDue (Some e) ask now reply =
    (before : ℕ) × (after : ℕ) × (refused : List ℕ)
    × IsReply before after refused e.store.kept.tasks e.run.topics now ask reply
IsDue None ask now reply = ⊥

-- ---- the stores for which a disk stands

-- the store that has these records, as the service speaks of it
abbrev pub store_of : List Rec → Stores
store_of rs = record { changes = (held rs).changes; stored = (held rs).transitions }

-- an image that a crash may leave stands for this store
pub record Leaves (images : Image → Type 0) (store : Stores) : Type 0 where
  pub files : Image
  pub left : images files
  pub records : List Rec
  pub stands : Stands records files
  pub is : store ≡ store_of records

module _ {N P S : Type 0} (g : Ghosts N P S) (planned : Planned P) where
  -- the files stand for a right store
  pub record StandsRight (files : Image) : Type 0 where
    pub records : List Rec
    pub stands : Stands records files
    pub good : IsGood g planned records

  -- each image that a crash may leave does
  abbrev pub AreRight : (Image → Type 0) → Type 0
  AreRight images = (files : Image) → images files → StandsRight files

  -- The engine stands over records, and what its last change stored are the last transitions of them.
  pub record IsOver (seen : Image) (images : Image → Type 0) (e : EngineValue N) : Type 0 where
    pub records : List Rec
    pub engine : IsEngine g planned records seen images e
    pub before : List Transition
    pub last : (held records).transitions ≡ before ++ e.stored

  -- so does one that wasn't let go
  abbrev pub IsOverSome : Image → (Image → Type 0) → Option (EngineValue N) → Type 0
  IsOverSome seen images (Some e) = e.spent ≡ false → IsOver seen images e
  IsOverSome seen images None = ⊤

  -- The disk tells its bytes, and each image that a crash may leave stands for a right store; while the engine isn't
  -- spent it stands over one.
  pub record IsRight (tells : Bool) (seen : Image) (images : Image → Type 0) (e : Option (EngineValue N)) : Type 0 where
    pub told : IsTrue tells
    pub each : AreRight images
    pub over : IsOverSome seen images e

  -- ---- what follows behind an ask

  module _ {D : Type 0} (tells : Bool) (seen : D → Image) (moment : D → ℕ) (may_leave : D → Image → Type 0)
      (left_since : D → ℕ → Image → Type 0) (old new : D) (before after : ℕ) (refused : List ℕ) where
    -- Of an engine on a disk and of what it is behind an ask at a moment: the reply is the one that is due by what it
    -- held and by the patterns that were refused meanwhile, from `before` of them to `after`. Where the disk tells its
    -- bytes and no failure is told, it is the next one, over the next store; and at each moment each image stood for the
    -- store as it was, or with the change.
    pub record HasAnswered (e : EngineValue N) (left : Option (EngineValue N)) (ask : Ask) (now : ℤ)
        (reply : ReplyValue) : Type 0 where
      pub due : IsReplyOrFailed before after refused e.store.kept.tasks e.run.topics now ask reply
      pub next : IsTrue tells → (rs : List Rec) → (at : IsEngine g planned rs (seen old) (may_leave old) e)
          → (IsFailed reply.status → ⊥) → (behind : EngineValue N) × (left ≡ Some behind)
          × IsNext g planned rs at.full.good.tasks e.stored (seen new) (may_leave new) behind ask now reply.status
      pub any_moment : IsTrue tells → (rs : List Rec) → IsEngine g planned rs (seen old) (may_leave old) e
          → Moments moment may_leave left_since old new (before_or_next g planned rs ask now)

    -- of one that wasn't let go; no other answers
    abbrev pub Follows : Option (EngineValue N) → Option (EngineValue N) → Ask → ℤ → ReplyValue → Type 0
    Follows (Some e) left ask now reply = HasAnswered e left ask now reply
    Follows None left ask now reply = ⊥
