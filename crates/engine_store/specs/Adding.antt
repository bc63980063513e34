-- Transitions that are added to a store.
use Rattle.std.specs.Prelude.{◌≡◌, ◌⊎◌, ⊤, ℕ, ◌-◌, ◌<◌, ◌≤◌, List, [], ◌∷◌, ◌++◌, length, map, take}
use Rattle.kap_io.specs.Disk.{Image}
use Rattle.store_records.specs.Histories.{held}
use Rattle.store_records.specs.Records.{spell_record}
use Rattle.store_records.specs.declared.rec.Rec.{Rec}
use Rattle.store_records.specs.declared.rec.Rec.TheVariants as kinds
use Rattle.topic_core.specs.declared.transition.Transition.{Transition}
use Rattle.topic_store.specs.Stores.{IsOn, Stands, StoreState}
use Rattle.engine_store.specs.declared.TheConstants.{PIECE_LIMIT}

-- how many bytes the body of a record of these transitions has
abbrev pub body_len : List Transition → ℕ
body_len ts = length (spell_record (kinds.Trans ts))

-- with these it passes the limit
abbrev pub IsOver : List Transition → Type 0
IsOver piece = PIECE_LIMIT < body_len piece

-- without the last of these it doesn't
abbrev pub IsClosed : List Transition → Type 0
IsClosed piece = body_len (take (length piece - 1) piece) ≤ PIECE_LIMIT

-- The record of the first of these has some, and is closed as soon as it passes the limit: it does, unless it is the
-- last record.
pub record IsPiece (piece : List Transition) (behind : List (List Transition)) : Type 0 where
  pub some : 0 < length piece
  pub closed : IsClosed piece
  pub over : IsOver piece ⊎ (behind ≡ [])

-- and so of each
abbrev pub ArePieces : List (List Transition) → Type 0
ArePieces [] = ⊤
ArePieces (piece ∷ behind) = IsPiece piece behind × ArePieces behind

-- the transitions of records, one behind the other
abbrev pub joined : List (List Transition) → List Transition
joined [] = []
joined (piece ∷ pieces) = piece ++ joined pieces

-- Behind records of these transitions a store holds them more, and nothing else has changed.
pub record HasAdded (rs : List Rec) (ts : List Transition) (rs' : List Rec) : Type 0 where
  pub pieces : List (List Transition)
  pub records : rs' ≡ rs ++ map kinds.Trans pieces
  pub all : ts ≡ joined pieces
  pub cut : ArePieces pieces
  pub tasks : (held rs').tasks ≡ (held rs).tasks
  pub lives : (held rs').lives ≡ (held rs).lives
  pub points : (held rs').points ≡ (held rs).points
  pub transitions : (held rs').transitions ≡ (held rs).transitions ++ ts
  pub snap : (held rs').snap ≡ (held rs).snap
  pub changes : (held rs').changes ≡ (held rs).changes

-- the store has these transitions more
pub record IsOnBehind (rs : List Rec) (ts : List Transition) (seen : Image) (images : Image → Type 0)
    (store : StoreState) : Type 0 where
  pub records : List Rec
  pub added : HasAdded rs ts records
  pub on : IsOn records seen images store

-- the files stand for the store with the first of these transitions
pub record StandsWithSome (rs : List Rec) (ts : List Transition) (files : Image) : Type 0 where
  pub some : List Transition
  pub others : List Transition
  pub split : ts ≡ some ++ others
  pub records : List Rec
  pub added : HasAdded rs some records
  pub stands : Stands records files

-- whatever stood there before
abbrev pub stands_with_some : List Rec → List Transition → Image → Image → Type 0
stands_with_some rs ts old files = StandsWithSome rs ts files
