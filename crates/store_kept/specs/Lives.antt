-- Where a life stands that a record ends.
use Rattle.std.specs.Prelude.{◌≡◌, ℕ, true, false, List, ◌∷◌, ◌++◌, length, Option, Some, None, Vec, vec_capacity, vec_len}
use Rattle.std.specs.List.{list_any}
use Rattle.std.specs.declared.alloc.Global.{Global}
use Rattle.store_records.specs.Held.{is_open_of}
use Rattle.store_records.specs.declared.task.Life.{Life}

-- the last of the task's lives that is open
pub record StandsLast (id : List ℕ) (lives : List Life) (at : ℕ) : Type 0 where
  pub life : Life
  pub before : List Life
  pub behind : List Life
  pub split : lives ≡ before ++ life ∷ behind
  pub place : at ≡ length before
  pub open_of : is_open_of id life ≡ true
  pub none_behind : list_any (is_open_of id) behind ≡ false

-- the place of the last of the task's lives that is open, or None where none is
abbrev pub IsLastOpen : List ℕ → List Life → Option ℕ → Type 0
IsLastOpen id lives None = list_any (is_open_of id) lives ≡ false
IsLastOpen id lives (Some at) = StandsLast id lives at

-- there are as many, with room for as many more
pub record HasSameRoom (old new : Vec Life Global) : Type 0 where
  pub len : vec_len new ≡ vec_len old
  pub capacity : vec_capacity new ≡ vec_capacity old
