-- The place of a group's cell.
use Rattle.std.specs.Prelude.{◌≡◌, ℕ, ◌<◌, List, Some, length, slice_get}
use Rattle.std.specs.FinMap.{from_entries, get, insert}
use Rattle.std.specs.Map.{values_of}
use Rattle.indexmap.specs.IndexMap.{set_value_at}
use Rattle.kap_base.specs.Maps.{byte_order}
use Rattle.node_core.specs.Groups.{cell_or}

-- The key's cell is there in the new cells, as it was, or the first one; and to write it puts the key's cell into the
-- old ones.
pub record IsCellOf {C : Type 0} (old new : List (List ℕ × C)) (key : List ℕ) (first : C) (at : ℕ) : Type 0 where
  pub within : at < length new
  pub value : slice_get (values_of new) at ≡ Some (cell_or first (get (from_entries {R = byte_order} old) key))
  pub writes : (c : C) → from_entries {R = byte_order} (set_value_at new at c) ≡ insert (from_entries old) key c
