-- What calls of an engine leave of its store.
use Rattle.std.specs.Prelude.{◌≡◌, ◌⊎◌, ℕ, ℤ, ◌+◌, ◌≤◌, Bool, false, List, [], ◌++◌, drop}
use mathlib.Core.List.{IsPrefix}
use Rattle.kap_http.specs.ReplyValues.{ReplyValue}
use Rattle.kap_http.specs.declared.ask.Ask.{Ask}
use Rattle.topic_core.specs.declared.transition.Transition.{Transition}
use Rattle.reply_bodies.specs.Asks.{IsFailed, change_of}
use Rattle.kap_service.specs.Causes.{AreLater}
use Rattle.kap_service.specs.Values.{Decisions, Engines, Stores}

-- a store that one of these becomes
pub record Reached (old : Stores → Type 0) (becomes : Stores → Stores → Type 0) (new : Stores) : Type 0 where
  pub origin : Stores
  pub was : old origin
  pub how : becomes origin new

-- Making an engine again adds no change, and may add transitions that weren't stored yet.
pub record IsMadeAgain (old new : Stores) : Type 0 where
  pub changes : new.changes ≡ old.changes
  pub stored : IsPrefix old.stored new.stored

-- What an ask leaves that was answered with this status: the change is stored where it is done, and no other; behind a
-- failure it is stored or not. Transitions are added where they are due to the change.
pub record IsChanged (ask : Ask) (status : ℕ) (old new : Stores) : Type 0 where
  pub least : old.changes + change_of ask status ≤ new.changes
  pub exact : (IsFailed status → ⊥) → new.changes ≡ old.changes + change_of ask status
  pub stored : IsPrefix old.stored new.stored

-- either the store has no transition more, or just these
abbrev pub HasOwn : List Transition → Stores → Stores → Type 0
HasOwn own old new = (new.stored ≡ old.stored) ⊎ (new.stored ≡ old.stored ++ own)

-- what a decision leaves
pub record IsDecided (ask : Ask) (status : ℕ) (own : List Transition) (old new : Stores) : Type 0 where
  pub changed : IsChanged ask status old new
  pub has_own : (IsFailed status → ⊥) → HasOwn own old new

-- what an answer leaves; of an engine that is spent nothing is known of what was stored last
pub record IsAnswered (spent : Bool) (ask : Ask) (status : ℕ) (own : List Transition) (old new : Stores) : Type 0 where
  pub changed : IsChanged ask status old new
  pub has_own : spent ≡ false → (IsFailed status → ⊥) → HasOwn own old new

-- these transitions stand behind the first so many, and none only where there are no more
pub record AreBehind (stored : List Transition) (after : ℕ) (some : List Transition) : Type 0 where
  pub rest : List Transition
  pub behind : drop after stored ≡ some ++ rest
  pub none : some ≡ [] → rest ≡ []

-- all was posted, or all but what the last change stored
abbrev pub IsAlmostPosted : List Transition → List Transition → List Transition → Type 0
IsAlmostPosted posted own stored = (posted ≡ stored) ⊎ (posted ++ own ≡ stored)

-- A reading of an engine changes nothing of what it keeps, and no store is left that wasn't before; its faults are
-- counted.
pub record HasRead {E : Type 0} (value : E → Engines) (right : E → Type 0) (leaves : E → Stores → Type 0) (old new : E)
    : Type 0 where
  pub later : AreLater (value old).faults (value new).faults
  pub changes : (value new).changes ≡ (value old).changes
  pub spent : (value new).spent ≡ (value old).spent
  pub own : (value new).own ≡ (value old).own
  pub stays_right : right old → right new
  pub stores : right old → (store : Stores) → leaves new store → leaves old store

-- These transitions are all that are stored of an engine that isn't spent, and counts so many changes.
pub record AreAllOf {E : Type 0} (value : E → Engines) (right : E → Type 0) (leaves : E → Stores → Type 0) (changes : ℕ)
    (told : List Transition) : Type 0 where
  pub engine : E
  pub right_is : right engine
  pub unspent : (value engine).spent ≡ false
  pub changes_are : (value engine).changes ≡ changes
  pub all : (store : Stores) → leaves engine store → told ≡ store.stored

-- Behind a decision on this ask that didn't fail these transitions are all, those of its own change among them.
abbrev pub AreAllBehind : {E : Type 0} → (E → Engines) → (E → Type 0) → (E → Stores → Type 0) → Ask → List Transition
    → Decisions → Type 0
AreAllBehind value right leaves ask told d =
    (IsFailed d.reply.status → ⊥) → AreAllOf value right leaves (d.changes + change_of ask d.reply.status) told

-- ---- decisions

-- the reply is the one that is due, or says that the store failed or that memory ran out
abbrev pub IsDueReply : (ReplyValue → Type 0) → ReplyValue → Type 0
IsDueReply due reply = due reply ⊎ IsFailed reply.status

-- A decision is that of an engine with as many changes, and of what follows behind it.
pub record IsDecision {E : Type 0} (value : E → Engines) (due : E → Ask → ℤ → ReplyValue → Type 0)
    (follows : E → Ask → ℤ → ReplyValue → E → Type 0) (d : Decisions) : Type 0 where
  pub engine : E
  pub behind : E
  pub changes : d.changes ≡ (value engine).changes
  pub reply : IsDueReply (due engine d.ask d.moment) d.reply
  pub next : follows engine d.ask d.moment d.reply behind
