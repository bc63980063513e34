-- Where a key stands among entries in byte order, and where it would stand.
use Rattle.std.specs.Prelude.{◌≡◌, ℕ, ◌<◌, ◌≤◌, List, length, slice_index_or, slice_set, insert, Some, None}
use Rattle.std.specs.FinMap.{find, put}
use Rattle.kap_base.specs.Maps.{byte_order}

-- the entry of the key stands at this place: it is found there, and to put a value at the key changes it alone
pub record StandsAt {V : Type 0} (key : List ℕ) (entries : List (List ℕ × V)) (at : ℕ) : Type 0 where
  pub within : at < length entries
  pub value : (e : List ℕ × V) → find byte_order key entries ≡ Some (slice_index_or entries at e).1
  pub put : (v : V) (e : List ℕ × V)
      → put byte_order key v entries ≡ slice_set entries at ((slice_index_or entries at e).0, v)

-- no entry has the key, and one would stand at this place
pub record WouldStandAt {V : Type 0} (key : List ℕ) (entries : List (List ℕ × V)) (at : ℕ) : Type 0 where
  pub within : at ≤ length entries
  pub value : find byte_order key entries ≡ None
  pub put : (v : V) → put byte_order key v entries ≡ insert entries at (key, v)
