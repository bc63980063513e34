-- A table that is two tables, one behind the other.
use Rattle.std.proofs.Common.{◌≡◌, Bool, true, false, cond, List, [], ◌∷◌, ◌++◌, refl}
use Rattle.std.specs.Prelude.{◌||◌, bytes_eq}
use Rattle.tick_compile.specs.declared.given.Setting.{Setting}
use Rattle.tick_compile.specs.Rows.{Row, has_row, set_by}

module _ {L S : Type 0} (more : List (Row L S)) (so_far : S) (prop : Setting L) where
  front_step : (r : Row L S) (rows : List (Row L S)) (b : Bool) → bytes_eq prop.name r.name ≡ b → (b || has_row rows prop.name) ≡ true
      → (has_row rows prop.name ≡ true → set_by (rows ++ more) so_far prop ≡ set_by rows so_far prop)
      → cond b (r.sets prop.at prop.args so_far) (set_by (rows ++ more) so_far prop) ≡ cond b (r.sets prop.at prop.args so_far) (set_by rows so_far prop)
  front_step r rows true is has again = refl
  front_step r rows false is has again = again has

  -- a property of the first table
  pub set_by_front : (rows : List (Row L S)) → has_row rows prop.name ≡ true → set_by (rows ++ more) so_far prop ≡ set_by rows so_far prop
  set_by_front [] has = absurd cc
  set_by_front (r ∷ rows) has = front_step r rows (bytes_eq prop.name r.name) refl has (set_by_front rows)

  behind_step : (r : Row L S) (rows : List (Row L S)) (b : Bool) → (b || has_row rows prop.name) ≡ false
      → (has_row rows prop.name ≡ false → set_by (rows ++ more) so_far prop ≡ set_by more so_far prop)
      → cond b (r.sets prop.at prop.args so_far) (set_by (rows ++ more) so_far prop) ≡ set_by more so_far prop
  behind_step r rows true has again = absurd cc
  behind_step r rows false has again = again has

  -- a property that isn't of the first table
  pub set_by_behind : (rows : List (Row L S)) → has_row rows prop.name ≡ false → set_by (rows ++ more) so_far prop ≡ set_by more so_far prop
  set_by_behind [] has = refl
  set_by_behind (r ∷ rows) has = behind_step r rows (bytes_eq prop.name r.name) has (set_by_behind rows)
